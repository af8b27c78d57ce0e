use Rattle.std.proofs.Common.{◌∙◌}
use Rattle.fsl_table.proofs.Outcomes.{if_ok_map}
use Rattle.fsl_cross.proofs.Alone.{timeline-alone}
use Rattle.fsl_cross.proofs.items.Items.timeline.Goals as goal

pub returns : goal.returns
returns c fields = if_ok_map c.table-rows.result (λ t e. e ∙ timeline-alone c.args.self.now c.rises.ensures) c.table-rows.ensures
