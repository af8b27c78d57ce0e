use Rattle.fsl_artifact.proofs.OneKind.{one_artifact}
use Rattle.fossil.proofs.OneOutcome.{one_outcome}
use Rattle.fossil.proofs.OneSync.{one_sync_outcome}
use Rattle.fossil.proofs.CloneOutcomes.{one_clone_outcome}
use Rattle.fossil.proofs.UvSyncOutcomes.{one_uv_sync}
use Rattle.fossil.proofs.ScrubOutcomes.{one_scrub}
use Rattle.fossil.proofs.top.one_outcome.Goals as goal

pub returns : goal.returns
returns c = record { kinds = one_artifact; outcome = one_outcome; synced = one_sync_outcome; cloned = one_clone_outcome; merged = one_uv_sync; scrubbed = one_scrub }
