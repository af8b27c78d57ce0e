-- A store that was opened goes together.
use Rattle.std.proofs.Common.{◌≡◌, inr, ℕ, Bool, true, false, List, length, sym, ap, subst, ◌∙◌, arith}
use Rattle.std.specs.Prelude.{◌+◌, take, Some}
use Rattle.std.proofs.lemmas.List.{take_all}
use Rattle.fsl_disk.specs.Disk.{DiskState, Told}
use Rattle.fsl_journal.specs.File.{IsFileOf}
use Rattle.fsl_record.specs.declared.Record.{Record}
use Rattle.fsl_record.specs.declared.Config.{Config}
use Rattle.fsl_record.specs.Records.{AreRecords}
use Rattle.fsl_journal.specs.Journal.{Belongs, OfBytes}
use Rattle.fsl_journal.specs.Log.{Log, IsLoaded}
use Rattle.fsl_uv.specs.declared.UvLoadFault.{UvLoadFault}
use Rattle.fsl_uv.specs.declared.UvLoadFault.TheVariants as load_fault
use Rattle.fsl_uv.specs.Entries.{Version}
use Rattle.fsl_uv.specs.Stores.{AreEntries, IsStore, IsCutAtMost, LastsAs, OpenFailed}
use Rattle.fsl_journal.specs.declared.LoadFault.{LoadFault}
use Rattle.fsl_journal.specs.declared.LoadFault.TheVariants as journal_fault
use Rattle.fsl_uv.specs.Opening.{RecordsFail, AreKept, fault_meant}

-- an opening that failed for the file is one of the journal
abbrev number_in : UvLoadFault → ℕ
number_in (load_fault.NotRepository at) = at
number_in fault = 0

abbrev is_refused : UvLoadFault → Bool
is_refused (load_fault.NotRepository at) = true
is_refused fault = false

pub refused-there : (fault : LoadFault) (at : ℕ) → fault_meant fault ≡ load_fault.NotRepository at → fault ≡ journal_fault.NotRepository at
refused-there journal_fault.Disk at is = absurd (let x : false ≡ true = ap is_refused is in cc)
refused-there (journal_fault.NotRepository other) at is = ap journal_fault.NotRepository (ap number_in is)
refused-there journal_fault.Memory at is = absurd (let x : false ≡ true = ap is_refused is in cc)

pub not-refused : (records : List Record) (fault : UvLoadFault) (at : ℕ) → RecordsFail records fault → fault ≡ load_fault.NotRepository at → ⊥
not-refused records fault at fails is = subst (RecordsFail records) is fails

-- after an opening that is done the file stands for the records
reads_back : (log : Log) (loaded : List Record) (disk : DiskState) → IsLoaded log loaded → Belongs log disk → Told disk (λ held. IsFileOf held loaded)
reads_back log loaded disk is belongs held told =
    subst (IsFileOf held) (take_all log.stable log.records (omega (arith, is.stable, ap length is.records)) ∙ is.records) (belongs.reads is.runs held told).0.file

pub store_of : (log : Log) (loaded : List Record) (config : Config) (m : List (List ℕ × Version)) (disk : DiskState) → IsLoaded log loaded → Belongs log disk → AreKept loaded config m
    → IsStore disk (record { log = log; config = config; map = m })
store_of log loaded config m disk is belongs kept = record {
  belongs = belongs;
  records = subst AreRecords (sym is.records) is.fit;
  config = (kept.config.0, is.records ∙ kept.config.1);
  map = (kept.map.0, subst (λ (rs : List Record). AreEntries rs kept.map.0) (sym is.records) kept.map.1, kept.map.2);
}

module _ (log : Log) (loaded : List Record) (before after : DiskState) (is : IsLoaded log loaded) (belongs : Belongs log after) (count : after.faults ≡ before.faults)
    (stands : OfBytes before (λ bytes. IsFileOf bytes loaded)) (cut : Told before (λ held. after.contents ≡ Some (take (log.place + 1) held)))
    (lasts : LastsAs loaded before after) where
  cut_at_most : IsCutAtMost before after
  cut_at_most = record { faults = count; contents = inr (loaded, log.place, stands, cut, reads_back log loaded after is belongs) }

  pub entries_failed : (fault : UvLoadFault) → RecordsFail loaded fault → OpenFailed fault before after
  entries_failed (load_fault.NotEntry name) f = (cut_at_most, loaded, stands, f, lasts)
  entries_failed load_fault.Memory f = cut_at_most
  entries_failed load_fault.Disk f = absurd f
  entries_failed (load_fault.NotRepository at) f = absurd f
