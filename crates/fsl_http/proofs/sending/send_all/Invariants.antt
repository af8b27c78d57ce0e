use Rattle.std.proofs.Common.{◌≡◌, drop}
use Rattle.fsl_http.specs.Sending.{IsSentTo, joined}
use Rattle.fsl_http.proofs.sending.send_all.Given as goal

abbrev pub invariant-loop-piece : goal.invariant-loop-piece
invariant-loop-piece g l = record {
  sent : IsSentTo (g.L.Link.state l.fn.link).present (g.L.Link.state l.link).present (joined l.pieces) (joined (drop l.piece-index l.pieces));
  stands : (g.L.Link.state l.link).standing ≡ (g.L.Link.state l.fn.link).standing;
  same : (g.L.Link.state l.link).faults ≡ (g.L.Link.state l.fn.link).faults;
}
