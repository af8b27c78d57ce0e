use Rattle.std.proofs.Common.{◌≡◌, length}
use Rattle.fsl_outside.proofs.WholeLemmas.{IsWrittenTo}
use Rattle.fsl_outside.proofs.whole.write_whole.Given as goal

abbrev pub invariant-loop-rest : goal.invariant-loop-rest
invariant-loop-rest g l =
    IsWrittenTo (g.K.Sink.state l.fn.sink).taken (g.K.Sink.state l.sink).taken l.text l.rest
    × ((g.K.Sink.state l.sink).faults ≡ (g.K.Sink.state l.fn.sink).faults)

abbrev pub decreases-loop-rest : goal.decreases-loop-rest
decreases-loop-rest g l = length l.rest
