use Rattle.std.proofs.Common.{◌≡◌, ◌-◌, length}
use Rattle.fsl_http.specs.Bodies.{IsBodyTo}
use Rattle.fsl_http.proofs.body.read_body.Given as goal

abbrev pub invariant-loop-body : goal.invariant-loop-body
invariant-loop-body g l = record {
  reads : IsBodyTo (g.L.Link.state l.fn.link).present (g.L.Link.state l.link).present l.front l.body.items l.size;
  stands : (g.L.Link.state l.link).standing ≡ (g.L.Link.state l.fn.link).standing;
  same : (g.L.Link.state l.link).faults ≡ (g.L.Link.state l.fn.link).faults;
}

abbrev pub decreases-loop-body : goal.decreases-loop-body
decreases-loop-body g l = l.size - length l.body.items
