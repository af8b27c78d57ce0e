use Rattle.std.proofs.Common.{◌≡◌, length}
use Rattle.fsl_http.specs.Sending.{IsSentTo}
use Rattle.fsl_http.proofs.sending.send.Given as goal

abbrev pub invariant-loop-rest : goal.invariant-loop-rest
invariant-loop-rest g l = record {
  sent : IsSentTo (g.L.Link.state l.fn.link).present (g.L.Link.state l.link).present l.text l.rest;
  stands : (g.L.Link.state l.link).standing ≡ (g.L.Link.state l.fn.link).standing;
  same : (g.L.Link.state l.link).faults ≡ (g.L.Link.state l.fn.link).faults;
}

abbrev pub decreases-loop-rest : goal.decreases-loop-rest
decreases-loop-rest g l = length l.rest
