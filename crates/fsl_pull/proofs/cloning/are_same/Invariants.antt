use Rattle.std.proofs.Common.{◌≡◌, take, length}
use Rattle.fsl_pull.proofs.cloning.are_same.Given as goal

abbrev pub invariant-loop-i : goal.invariant-loop-i
invariant-loop-i l = (length l.texts ≡ length l.others) × (take l.i l.texts ≡ take l.i l.others)
