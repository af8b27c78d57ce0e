-- What clauses see of a store, and what its calls answer and leave.
use Rattle.std.specs.Prelude.{◌≡◌, ◌⊎◌, ◌+◌, ⊤, ℕ, Bool, false, true, nat_lt, List, [], ◌∷◌, ◌++◌, length, map, take, Option, Some, None, Result, Ok, Err, if◌then◌else◌}
use Rattle.std.specs.List.{AllByRecursion}
use Rattle.fsl_order.specs.Causes.{Rose}
use Rattle.fsl_disk.specs.Disk.{DiskState, IsModelled, Told, Quiet}
use Rattle.fsl_name.specs.Name.{name_of}
use Rattle.fsl_record.specs.declared.Config.{Config}
use Rattle.fsl_record.specs.declared.Record.{Record}
use Rattle.fsl_record.specs.declared.Record.TheVariants as record_of
use Rattle.fsl_record.specs.Receipts.{Brought}
use Rattle.fsl_record.specs.Records.{AreRecords, records_bytes}
use Rattle.fsl_journal.specs.File.{IsFileOf, FailsAt}
use Rattle.fsl_journal.specs.Journal.{Belongs, OfBytes, IsLeft}
use Rattle.fsl_journal.specs.Log.{Log, uncommitted, IsLoaded}
use Rattle.fsl_journal.specs.Places.{content_places}
use Rattle.fsl_uv.specs.declared.Entry.{Entry}
use Rattle.fsl_uv.specs.declared.Card.{Card}
use Rattle.fsl_uv.specs.declared.Put.{Put}
use Rattle.fsl_uv.specs.declared.Put.TheVariants as put_is
use Rattle.fsl_uv.specs.declared.UvFault.{UvFault}
use Rattle.fsl_uv.specs.declared.UvFault.TheVariants as uv_fault
use Rattle.fsl_uv.specs.declared.UvLoadFault.{UvLoadFault}
use Rattle.fsl_uv.specs.declared.UvLoadFault.TheVariants as load_fault
use Rattle.fsl_uv.specs.declared.UvMessageFault.{UvMessageFault}
use Rattle.fsl_uv.specs.declared.UvMessageFault.TheVariants as message_fault
use Rattle.fsl_uv.specs.declared.ApplyFault.{ApplyFault}
use Rattle.fsl_uv.specs.declared.ApplyFault.TheVariants as apply_fault
use Rattle.fsl_uv.specs.Entries.{Version, IsEntry, IsEntryText, entry_text, content, most_of_content}
use Rattle.fsl_uv.specs.Maps.{uv, total, is_over}
use Rattle.fsl_uv.specs.Cards.{IsMessage, IsBadLine, IsWrongName, message_text}
use Rattle.fsl_uv.specs.Syncing.{is_kept, with_entry, stored, files, applied}

-- ---- the entries of records

-- the bytes of the Blob records
abbrev pub texts : List Record → List (List ℕ)
texts [] = []
texts (record_of.Blob private name receipt bytes ∷ records) = bytes ∷ texts records
texts (record_of.Config c ∷ records) = texts records
texts (record_of.Publish name ∷ records) = texts records
texts (record_of.Shun name ∷ records) = texts records
texts (record_of.Unshun name ∷ records) = texts records

-- the Blob records are the texts of these entries
pub record AreEntries (records : List Record) (entries : List Entry) : Type 0 where
  pub good : AllByRecursion IsEntry entries
  pub texts : texts records ≡ map entry_text entries

-- the map of records: that of the entries of their Blobs
abbrev pub IsUv : List Record → List (List ℕ × Version) → Type 0
IsUv records m = (entries : List Entry) × AreEntries records entries × (m ≡ uv entries)

-- the first Blob whose bytes aren't an entry has this name
abbrev pub IsNoEntry : List Record → List ℕ → Type 0
IsNoEntry records name =
    (front rest : List Record) × (private : Bool) × (receipt : Option Brought) × (bytes : List ℕ) × (entries : List Entry)
    × (records ≡ front ++ record_of.Blob private name receipt bytes ∷ rest) × AreEntries front entries × ((e : Entry) → ¬ (IsEntryText bytes e))

-- ---- what clauses see

pub record Seen : Type 0 where
  -- all records, and how many of them are committed
  pub log : Log
  pub config : Config
  pub map : List (List ℕ × Version)

pub record Whole (D : Type 0) : Type 0 where
  pub disk : D
  pub seen : Seen

-- what every store meets: the disk is the journal's, the records begin with its Config, and the map is theirs
pub record IsStore (disk : DiskState) (s : Seen) : Type 0 where
  pub belongs : Belongs s.log disk
  pub records : AreRecords s.log.records
  pub config : (rest : List Record) × (s.log.records ≡ record_of.Config s.config ∷ rest)
  pub map : IsUv s.log.records s.map

-- ---- put

-- the record of an entry: a public Blob without a receipt
abbrev pub blob_of : Entry → Record
blob_of e = record_of.Blob false (name_of (entry_text e)) None (entry_text e)

-- where the next record will begin: behind the closed gate a commit writes a length of 8 bytes and then the records that aren't committed
abbrev pub next_start : Log → ℕ
next_start log = log.place + 9 + length (records_bytes (uncommitted log))

-- the journal with the records of entries appended, in order, and with the places of their contents
abbrev pub log_with : Log → List Entry → Log
log_with log entries = record log { records = log.records ++ map blob_of entries; places = log.places ++ content_places (next_start log) (map blob_of entries) }

-- what a put is to answer where no commit has failed, tested in this order
abbrev pub running_put : List (List ℕ × Version) → Entry → Result Put UvFault
running_put m e =
    if nat_lt most_of_content (length (content e.bytes)) then Err (uv_fault.TooLarge (length (content e.bytes)))
    else if is_kept m e then Ok put_is.Kept
    else if is_over (with_entry m e) then Err (uv_fault.Full (total (with_entry m e)) (length (with_entry m e)))
    else Ok put_is.Stored

-- and where one may have failed
abbrev pub unless_stopped : Option ℕ → Result Put UvFault → Result Put UvFault
unless_stopped (Some faults) due = Err (uv_fault.Stopped faults)
unless_stopped None due = due

abbrev pub due_put : Seen → Entry → Result Put UvFault
due_put s e = unless_stopped s.log.stopped (running_put s.map e)

-- what it leaves: one that is stored appends its record and is in the map, and every other answer leaves all
abbrev pub after_put : Seen → Entry → Result Put UvFault → Seen
after_put s e (Ok put_is.Stored) = record s { log = log_with s.log (e ∷ []); map = with_entry s.map e }
after_put s e (Ok put_is.Kept) = s
after_put s e (Err fault) = s

-- want of memory may come in place of Stored alone
abbrev pub IsPut : Seen → Entry → Result Put UvFault → Seen → Type 0
IsPut s e result after =
    ((result ≡ due_put s e) × (after ≡ after_put s e result)) ⊎ ((result ≡ Err uv_fault.Memory) × (due_put s e ≡ Ok put_is.Stored) × (after ≡ s))

-- ---- commit

-- no commit failed, and all records are committed
abbrev pub IsSettled : Log → Type 0
IsSettled log = (log.stopped ≡ None) × (log.stable ≡ length log.records)

-- ---- messages

-- why a message doesn't read
abbrev pub IsMessageFault : List ℕ → UvMessageFault → Type 0
IsMessageFault message (message_fault.Line line) = IsBadLine message line
IsMessageFault message (message_fault.NameWrong kept found) = IsWrongName message kept found
IsMessageFault message message_fault.Memory = ⊤

-- the text answers the cards of a message by this
abbrev pub Answers : (List Card → List Card) → List ℕ → List ℕ → Type 0
Answers answer message text = (cards : List Card) × IsMessage message cards × (text ≡ message_text (answer cards))

-- ---- apply

-- all files of the message are put in, and none where it refuses
abbrev pub IsApplied : Seen → List ℕ → Result ℕ ApplyFault → Seen → Type 0
IsApplied s message (Ok count) after =
    (s.log.stopped ≡ None) × (cards : List Card) × IsMessage message cards × (is_over (applied s.map cards) ≡ false) × (count ≡ length (stored s.map (files cards)))
    × (after ≡ record s { log = log_with s.log (stored s.map (files cards)); map = applied s.map cards })
IsApplied s message (Err (apply_fault.Stopped faults)) after = (s.log.stopped ≡ Some faults) × (after ≡ s)
IsApplied s message (Err (apply_fault.Line line)) after = (s.log.stopped ≡ None) × IsBadLine message line × (after ≡ s)
IsApplied s message (Err (apply_fault.NameWrong kept found)) after = (s.log.stopped ≡ None) × IsWrongName message kept found × (after ≡ s)
IsApplied s message (Err (apply_fault.Full bytes count)) after =
    (s.log.stopped ≡ None) × (cards : List Card) × IsMessage message cards × (is_over (applied s.map cards) ≡ true)
    × (bytes ≡ total (applied s.map cards)) × (count ≡ length (applied s.map cards)) × (after ≡ s)
IsApplied s message (Err apply_fault.Memory) after = (s.log.stopped ≡ None) × (after ≡ s)

-- ---- load

-- the disk that comes back
abbrev pub disk_of : {D : Type 0} → Result (Whole D) (D × UvLoadFault) → D
disk_of (Ok store) = store.disk
disk_of (Err failed) = failed.0

-- a load that answers Ok: the file stood for the records, each is committed, and the file was cut behind its closed gate
pub record IsOpened (before after : DiskState) (s : Seen) : Type 0 where
  pub loaded : IsLoaded s.log s.log.records
  pub stands : OfBytes before (λ bytes. IsFileOf bytes s.log.records)
  pub cut : Told before (λ held. after.contents ≡ Some (take (s.log.place + 1) held))
  pub faults : after.faults ≡ before.faults

-- the file as it was, or cut behind its closed gate
pub record IsCutAtMost (before after : DiskState) : Type 0 where
  pub faults : after.faults ≡ before.faults
  pub contents : (after.contents ≡ before.contents) ⊎ ((records : List Record) × (place : ℕ) × OfBytes before (λ bytes. IsFileOf bytes records)
      × Told before (λ held. after.contents ≡ Some (take (place + 1) held)) × Told after (λ held. IsFileOf held records))

-- each image stands for these records
abbrev pub LastsAs : List Record → DiskState → DiskState → Type 0
LastsAs records before after = IsModelled before → (c : List ℕ) → after.images c → IsFileOf c records

-- a load that answers a fault
abbrev pub OpenFailed : UvLoadFault → DiskState → DiskState → Type 0
OpenFailed load_fault.Disk before after = Rose before.faults after.faults
OpenFailed (load_fault.NotRepository at) before after = IsLeft before after × Quiet before after × OfBytes before (λ bytes. FailsAt bytes at)
OpenFailed (load_fault.NotEntry name) before after =
    IsCutAtMost before after × (records : List Record) × OfBytes before (λ bytes. IsFileOf bytes records) × IsNoEntry records name × LastsAs records before after
OpenFailed load_fault.Memory before after = IsCutAtMost before after

-- ---- the parts of a put

-- what an entry that isn't too large is answered, and what is left of the journal and of the map
abbrev pub IsPutIn : Log → List (List ℕ × Version) → Entry → Result Put UvFault → Log → List (List ℕ × Version) → Type 0
IsPutIn log m e (Ok put_is.Kept) after held = (is_kept m e ≡ true) × (after ≡ log) × (held ≡ m)
IsPutIn log m e (Ok put_is.Stored) after held =
    (is_kept m e ≡ false) × (is_over (with_entry m e) ≡ false) × (after ≡ log_with log (e ∷ [])) × (held ≡ with_entry m e)
IsPutIn log m e (Err (uv_fault.Full bytes count)) after held =
    (is_kept m e ≡ false) × (is_over (with_entry m e) ≡ true) × (bytes ≡ total (with_entry m e)) × (count ≡ length (with_entry m e)) × (after ≡ log) × (held ≡ m)
IsPutIn log m e (Err uv_fault.Memory) after held = (is_kept m e ≡ false) × (is_over (with_entry m e) ≡ false) × (after ≡ log) × (held ≡ m)
IsPutIn log m e (Err (uv_fault.Stopped faults)) after held = ⊥
IsPutIn log m e (Err (uv_fault.TooLarge size)) after held = ⊥
