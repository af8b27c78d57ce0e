use Rattle.std.proofs.Common.{◌∙◌, ap}
use Rattle.std.specs.Map.{values_of}
use Rattle.fsl_table.proofs.Outcomes.{if_ok_map}
use Rattle.fsl_forum.specs.Rows.{by_date}
use Rattle.fsl_forum.proofs.Gathering.{shown-values}
use Rattle.fsl_forum.proofs.gathered.posts_of.Goals as goal

pub returns : goal.returns
returns g c =
    if_ok_map c.listed.result
    (λ list e. e ∙ ap values_of c.in_ok-gathered.ensures ∙ shown-values (by_date c.args.posts.now.held.entries c.args.names.now))
    c.listed.ensures
