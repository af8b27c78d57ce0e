use Rattle.std.proofs.Common.{◌∙◌, filter, ap}
use Rattle.fsl_table.proofs.Outcomes.{if_ok_map}
use Rattle.fsl_tags.specs.Gathered.{puts}
use Rattle.fsl_tags.specs.Tags.{in_force}
use Rattle.fsl_tags.specs.Held.{rows_of}
use Rattle.fsl_tags.proofs.Effective.{kept-row}
use Rattle.fsl_tags.proofs.tags.Tags.in_force_counted.Goals as goal

pub returns : goal.returns
returns g c =
    let now = rows_of c.self.inside.maps in
    if_ok_map c.in_force.result (λ list is. is ∙ ap (filter puts) (c.row_of.ensures.row ∙ kept-row now c.self.invariant c.args.name) ∙ ap (λ h. in_force h.facts c.args.name) c.self.view_is) c.in_force.ensures
