use Rattle.std.proofs.Common.{◌∙◌, ap, is_some}
use Rattle.fsl_table.specs.Contents.{first_of}
use Rattle.fsl_table.specs.Within.{within}
use Rattle.fsl_leaves.specs.Keys.{twig_cmp}
use Rattle.fsl_leaves.proofs.kin.is_continued.Goals as goal

pub any_within-requires-clause-none : goal.any_within-requires-clause-none
any_within-requires-clause-none g c = ap (λ k. k.second) c.in_ok-key.ensures

pub returns-clause-is : goal.returns-clause-is
returns-clause-is g c = c.any_within.ensures.is ∙ ap (λ k. is_some (first_of (within twig_cmp k.first c.args.children.now.held.entries))) c.in_ok-key.ensures
