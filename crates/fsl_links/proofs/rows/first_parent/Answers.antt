use Rattle.std.proofs.Common.{rules}
use Rattle.fsl_links.proofs.rows.first_parent.Goals as goal

pub returns-in-Some-first-clause-parent : goal.returns-in-Some-first-clause-parent
returns-in-Some-first-clause-parent g c = search rules
