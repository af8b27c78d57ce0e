use Rattle.std.proofs.Common.{◌∙◌}
use Rattle.fsl_table.proofs.Outcomes.{if_ok_map}
use Rattle.fsl_cross.proofs.Alone.{tags-alone}
use Rattle.fsl_cross.proofs.items.Items.tags.Goals as goal

pub returns-clause-facts : goal.returns-clause-facts
returns-clause-facts c fields = if_ok_map c.table-2.result (λ t e. e ∙ tags-alone c.args.self.now c.rises.ensures) c.table-2.ensures
