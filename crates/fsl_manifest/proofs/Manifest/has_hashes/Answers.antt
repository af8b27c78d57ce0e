use Rattle.std.proofs.Common.{rules}
use Rattle.fsl_manifest.proofs.Manifest.has_hashes.Goals as goal

pub returns-else-is_some : goal.returns-else-is_some
returns-else-is_some c = search rules
