-- A repository that is open.
use Rattle.fsl_blobs.specs.Content.{IsOf}
use Rattle.fsl_blobs.specs.Seen.{Seen}
use Rattle.fsl_disk.specs.Disk.{DiskState}
use Rattle.fsl_journal.specs.Journal.{Belongs}
use Rattle.fsl_journal.specs.Log.{Log}

-- what was read is the journal's, and the disk belongs to it
pub record IsInStep (log : Log) (b : Seen) (disk : DiskState) : Type 0 where
  pub belongs : Belongs log disk
  pub same : IsOf log b
