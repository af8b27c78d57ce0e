use Rattle.std.proofs.Common.{rules}
use Rattle.fsl_card.proofs.seal.is_checksum.Goals as goal

pub returns : goal.returns
returns c = search rules
