use Rattle.std.proofs.Common.{sym}
use Rattle.fsl_uv.proofs.HeldLemmas.{kept-same}
use Rattle.fsl_uv.proofs.laws.kept_is_merged.Goals as goal

pub returns : goal.returns
returns c = λ m e up kept. sym (kept-same m e up kept)
