use Rattle.fsl_outside.proofs.WholeLemmas.{IsReadTo}
use Rattle.fsl_outside.proofs.whole.read_whole.Given as goal

abbrev pub invariant-loop : goal.invariant-loop
invariant-loop g l =
    IsReadTo (g.S.Source.state l.fn.source).left (g.S.Source.state l.source).left (g.S.Source.state l.fn.source).faults (g.S.Source.state l.source).faults
    l.counter l.limit l.text.items
