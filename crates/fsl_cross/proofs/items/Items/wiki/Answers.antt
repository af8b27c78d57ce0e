use Rattle.std.proofs.Common.{◌∙◌}
use Rattle.fsl_table.proofs.Outcomes.{if_ok_map}
use Rattle.fsl_cross.proofs.Alone.{pages-alone}
use Rattle.fsl_cross.proofs.items.Items.wiki.Goals as goal

pub returns-clause-facts : goal.returns-clause-facts
returns-clause-facts c fields = if_ok_map c.table.result (λ t e. e ∙ pages-alone c.args.self.now c.rises.ensures) c.table.ensures
