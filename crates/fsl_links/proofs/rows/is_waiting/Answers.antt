use Rattle.std.proofs.Common.{rules}
use Rattle.fsl_links.proofs.rows.is_waiting.Goals as goal

pub returns-in-Some-first-clause-waits : goal.returns-in-Some-first-clause-waits
returns-in-Some-first-clause-waits g c = search rules
