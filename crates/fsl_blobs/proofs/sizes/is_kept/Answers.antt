use Rattle.std.proofs.Common.{rules}
use Rattle.fsl_blobs.proofs.sizes.is_kept.Goals as goal

pub returns-else-contains_key : goal.returns-else-contains_key
returns-else-contains_key c = search rules
