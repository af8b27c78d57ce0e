use Rattle.std.proofs.Common.{◌≡◌, ◌++◌}
use Rattle.fsl_tags.specs.Laid.{parent_in}
use Rattle.fsl_tags.specs.Laying.{line}
use Rattle.fsl_tags.proofs.Filling.{above_line}
use Rattle.fsl_tags.proofs.settle.ancestors.Given as goal

-- with those above the last, it is the whole
abbrev pub invariant-loop-left : goal.invariant-loop-left
invariant-loop-left g l = l.names.items ++ above_line (parent_in l.facts.held.entries) l.left l.at ≡ line (parent_in l.facts.held.entries) l.fn.most l.fn.name

abbrev pub decreases-loop-left : goal.decreases-loop-left
decreases-loop-left g l = l.left
