use Rattle.std.proofs.Common.{◌≡◌, take, filter}
use Rattle.fsl_tags.specs.Gathered.{puts}
use Rattle.fsl_tags.proofs.gathered.shown.Given as goal

-- those that were passed are there, but for those that take their tag away
abbrev pub invariant-loop-shared : goal.invariant-loop-shared
invariant-loop-shared l = l.list ≡ filter puts (take l.shared-index l.row)
