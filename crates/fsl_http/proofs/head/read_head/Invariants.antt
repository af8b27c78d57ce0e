use Rattle.std.proofs.Common.{◌≡◌, ◌-◌, length}
use Rattle.fsl_http.specs.declared.limits.TheConstants.{HEAD_LIMIT}
use Rattle.fsl_http.specs.Heads.{IsHeadReadTo}
use Rattle.fsl_http.proofs.head.read_head.Given as goal

abbrev pub invariant-loop-bytes : goal.invariant-loop-bytes
invariant-loop-bytes g l = record {
  reads : IsHeadReadTo g.H.Head.lacks (g.L.Link.state l.fn.link).present (g.L.Link.state l.link).present l.bytes.items;
  stands : (g.L.Link.state l.link).standing ≡ (g.L.Link.state l.fn.link).standing;
  same : (g.L.Link.state l.link).faults ≡ (g.L.Link.state l.fn.link).faults;
}

abbrev pub decreases-loop-bytes : goal.decreases-loop-bytes
decreases-loop-bytes g l = HEAD_LIMIT - length l.bytes.items
