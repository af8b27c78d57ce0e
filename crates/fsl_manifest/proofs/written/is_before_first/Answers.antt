use Rattle.std.proofs.Common.{rules}
use Rattle.fsl_manifest.proofs.written.is_before_first.Goals as goal

pub returns-in-Some : goal.returns-in-Some
returns-in-Some c = search rules
