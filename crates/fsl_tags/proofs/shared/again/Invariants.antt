use Rattle.std.proofs.Common.{◌≡◌, take}
use Rattle.fsl_tags.proofs.shared.again.Given as goal

-- those that were passed are there
abbrev pub invariant-loop-shared : goal.invariant-loop-shared
invariant-loop-shared l = l.list ≡ take l.shared-index l.assertions
