-- What a journal that was loaded says of its disk.
use Rattle.std.specs.Prelude.{◌≡◌, List, length, take}
use Rattle.std.proofs.Common.{ap, subst, ◌∙◌}
use Rattle.std.proofs.Math.Seq.{take-length}
use Rattle.fsl_disk.specs.Disk.{DiskState, Told}
use Rattle.fsl_record.specs.declared.Record.{Record}
use Rattle.fsl_journal.specs.File.{IsFileOf}
use Rattle.fsl_journal.specs.Journal.{Belongs}
use Rattle.fsl_journal.specs.Log.{Log, IsLoaded, committed}

-- what it tells stands for the records
pub loaded_contents : (log : Log) (records : List Record) (after : DiskState) → IsLoaded log records → Belongs log after → Told after (λ held. IsFileOf held records)
loaded_contents log records after loaded belongs held told =
    subst (λ rs. IsFileOf held rs) all (belongs.reads loaded.runs held told).0.file
  where
    all : committed log ≡ records
    all = ap (λ n. take n log.records) loaded.stable ∙ ap (take (length records)) loaded.records ∙ take-length records
