use Rattle.fsl_uv.proofs.SyncLemmas.{sync_merges}
use Rattle.fsl_uv.proofs.laws.sync_merges.Goals as goal

pub returns : goal.returns
returns c = sync_merges
