use Rattle.std.proofs.Common.{◌^◌}
use Rattle.fsl_outside.proofs.WholeLemmas.{IsReadTo}
use Rattle.fossil.proofs.reading.users.read_front.Given as goal

abbrev pub invariant-loop : goal.invariant-loop
invariant-loop g l =
    IsReadTo (g.S.Source.state l.fn.source).left (g.S.Source.state l.source).left (g.S.Source.state l.fn.source).faults (g.S.Source.state l.source).faults
    l.counter (2 ^ 20) l.text.items
