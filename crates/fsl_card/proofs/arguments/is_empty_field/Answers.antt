use Rattle.std.proofs.Common.{rules}
use Rattle.fsl_card.proofs.arguments.is_empty_field.Goals as goal

pub returns-then-args-eq1-clause-letter : goal.returns-then-args-eq1-clause-letter
returns-then-args-eq1-clause-letter c = search rules
