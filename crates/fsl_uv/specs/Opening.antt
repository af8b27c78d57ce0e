-- What the parts of an opening answer.
use Rattle.std.specs.Prelude.{◌≡◌, ⊤, ℕ, Bool, List, ◌∷◌, Option}
use Rattle.fsl_record.specs.declared.Config.{Config}
use Rattle.fsl_record.specs.declared.Record.{Record}
use Rattle.fsl_record.specs.declared.Record.TheVariants as record_of
use Rattle.fsl_record.specs.Receipts.{Brought}
use Rattle.fsl_journal.specs.declared.LoadFault.{LoadFault}
use Rattle.fsl_journal.specs.declared.LoadFault.TheVariants as journal_fault
use Rattle.fsl_uv.specs.declared.Entry.{Entry}
use Rattle.fsl_uv.specs.declared.UvLoadFault.{UvLoadFault}
use Rattle.fsl_uv.specs.declared.UvLoadFault.TheVariants as load_fault
use Rattle.fsl_uv.specs.declared.opening.Opened.{Opened}
use Rattle.fsl_uv.specs.Entries.{Version, IsEntryText}
use Rattle.fsl_uv.specs.Stores.{Seen, IsUv, IsNoEntry}

-- a record whose bytes are no entry
abbrev pub RecordFails : Record → UvLoadFault → Type 0
RecordFails r (load_fault.NotEntry name) = (private : Bool) × (receipt : Option Brought) × (bytes : List ℕ) × (r ≡ record_of.Blob private name receipt bytes) × ((e : Entry) → ¬ (IsEntryText bytes e))
RecordFails r load_fault.Memory = ⊤
RecordFails r load_fault.Disk = ⊥
RecordFails r (load_fault.NotRepository at) = ⊥

-- records of which the first whose bytes are no entry has this name
abbrev pub RecordsFail : List Record → UvLoadFault → Type 0
RecordsFail records (load_fault.NotEntry name) = IsNoEntry records name
RecordsFail records load_fault.Memory = ⊤
RecordsFail records load_fault.Disk = ⊥
RecordsFail records (load_fault.NotRepository at) = ⊥

-- the Config and the map of records
pub record AreKept (records : List Record) (c : Config) (m : List (List ℕ × Version)) : Type 0 where
  pub config : (rest : List Record) × (records ≡ record_of.Config c ∷ rest)
  pub map : IsUv records m

abbrev pub seen_of : Opened → Seen
seen_of o = record { log = o.journal; config = o.config; map = o.held }

abbrev pub fault_meant : LoadFault → UvLoadFault
fault_meant journal_fault.Disk = load_fault.Disk
fault_meant (journal_fault.NotRepository at) = load_fault.NotRepository at
fault_meant journal_fault.Memory = load_fault.Memory
