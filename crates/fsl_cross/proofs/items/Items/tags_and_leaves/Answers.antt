use Rattle.std.proofs.Common.{◌≡◌, IfOk, subst, ◌∙◌}
use Rattle.fsl_table.proofs.Outcomes.{if_ok_map}
use Rattle.fsl_cross.specs.Tables.{leaves_facts}
use Rattle.fsl_cross.proofs.Alone.{leaves-alone}
use Rattle.fsl_cross.proofs.items.Items.tags_and_leaves.Goals as goal

pub returns-clause-facts : goal.returns-clause-facts
returns-clause-facts c fields =
    let items = c.args.self.now in
    if_ok_map c.beside.result (λ both e. subst (λ r. IfOk r (λ t. t.facts ≡ leaves_facts items)) e c.table-leaves.ensures ∙ leaves-alone items c.rises.ensures) c.beside.ensures.second
