use Rattle.std.proofs.Common.{rules}
use Rattle.fsl_wiki.proofs.Attached.copied.Goals as goal

pub returns : goal.returns
returns c = search rules
