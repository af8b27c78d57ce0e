use Rattle.fsl_uv.proofs.SyncLemmas.{sync_merges_at}
use Rattle.fsl_uv.proofs.laws.sync_merges_at.Goals as goal

pub returns : goal.returns
returns c = sync_merges_at
