use Rattle.std.proofs.Common.{take}
use Rattle.std.specs.List.{AllZip}
use Rattle.fsl_repo.specs.Opening.{IsReadOf}
use Rattle.fsl_repo.proofs.parsing.artifacts_of.Given as goal

abbrev pub invariant-loop-entry : goal.invariant-loop-entry
invariant-loop-entry l = AllZip IsReadOf (take l.entry-index l.entries) l.list.items
