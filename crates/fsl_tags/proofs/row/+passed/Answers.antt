use Rattle.std.proofs.Common.{◌∙◌, sym}
use Rattle.fsl_table.proofs.Outcomes.{if_ok_map}
use Rattle.fsl_tags.proofs.Trees.{all_pass}
use Rattle.fsl_tags.proofs.row.+passed.Goals as goal

pub returns-then-is_passing : goal.returns-then-is_passing
returns-then-is_passing t c = if_ok_map c.again.result (λ new e. e ∙ sym (all_pass c.args.row.now (sym c.is_passing.ensures ∙ c.if-is_passing.true))) c.again.ensures
