use Rattle.std.proofs.Common.{take}
use Rattle.fsl_uv.specs.Stores.{IsUv}
use Rattle.fsl_uv.proofs.opening.held_of.Given as goal

abbrev pub invariant-loop-entry : goal.invariant-loop-entry
invariant-loop-entry l = IsUv (take l.entry-index l.records) l.held
