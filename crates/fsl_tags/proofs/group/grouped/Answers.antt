use Rattle.std.proofs.Common.{◌∙◌, ◌++◌, ap}
use Rattle.fsl_tags.specs.Kept.{on_target}
use Rattle.fsl_tags.specs.Laid.{row_in}
use Rattle.fsl_tags.proofs.Filling.{full_none}
use Rattle.fsl_tags.proofs.group.grouped.Goals as goal

pub add_all-requires : goal.add_all-requires
add_all-requires c = full_none c.new-groups.result.entries c.new-groups.ensures.empty

pub returns-clause-groups : goal.returns-clause-groups
returns-clause-groups c = λ x. c.in_ok-add_all.ensures.groups x ∙ ap (λ es. row_in es x ++ on_target x c.args.assertions.now) c.new-groups.ensures.empty
