use Rattle.fsl_http.proofs.Fielded.{above_limit, within_limit, no_number}
use Rattle.fsl_http.proofs.request_head.judge_value.Goals as goal

pub returns-then-is_above-clause-value : goal.returns-then-is_above-clause-value
returns-then-is_above-clause-value c = above_limit c.args.text.now c.in-Ok.number c.decimal.result c.decimal.ensures c.in-Ok.is c.if-is_above.true

pub returns-else-is_above-clause-value : goal.returns-else-is_above-clause-value
returns-else-is_above-clause-value c = within_limit c.args.text.now c.in-Ok.number c.decimal.result c.decimal.ensures c.in-Ok.is c.if-is_above.false

pub returns-else-is_above-clause-listed : goal.returns-else-is_above-clause-listed
returns-else-is_above-clause-listed c = c.if-is_above.false

pub returns-in-Err-clause-value : goal.returns-in-Err-clause-value
returns-in-Err-clause-value c = no_number c.args.text.now c.in-Err.field-0 c.decimal.result c.decimal.ensures c.in-Err.is
