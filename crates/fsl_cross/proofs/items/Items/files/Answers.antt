use Rattle.std.proofs.Common.{◌∙◌}
use Rattle.fsl_table.proofs.Outcomes.{if_ok_map}
use Rattle.fsl_cross.proofs.Alone.{files-alone}
use Rattle.fsl_cross.proofs.items.Items.files.Goals as goal

pub returns : goal.returns
returns c fields = if_ok_map c.table.result (λ t e. e ∙ files-alone c.args.self.now c.rises.ensures) c.table.ensures
