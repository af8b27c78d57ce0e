use Rattle.fossil.proofs.SomeOutcome.{some_outcome}
use Rattle.fossil.proofs.SomeSync.{some_sync_outcome}
use Rattle.fossil.proofs.CloneOutcomes.{some_clone_outcome}
use Rattle.fossil.proofs.UvSyncOutcomes.{some_uv_sync}
use Rattle.fossil.proofs.ScrubOutcomes.{some_scrub}
use Rattle.fossil.proofs.top.some_outcome.Goals as goal

pub returns : goal.returns
returns c = record { outcome = some_outcome; synced = some_sync_outcome; cloned = some_clone_outcome; merged = some_uv_sync; scrubbed = some_scrub }
