-- What the parts of the commands of unversioned files say.
use Rattle.std.specs.Prelude.{[], ◌≡◌, ◌++◌, ◌∷◌, ℕ, List, map, codes, decimal, Option, Some, None, is_some, Result, Ok, Err, IsTrue}
use Rattle.fsl_text.specs.Escapes.{escape}
use Rattle.fsl_order.specs.Maps.{value_at}
use Rattle.fsl_date.specs.Moment.{IsMoment}
use Rattle.fsl_outside.specs.Clocks.{Asks}
use Rattle.fsl_outside.specs.Streams.{SourceState}
use Rattle.fsl_disk.specs.Disk.{DiskState}
use Rattle.fsl_uv.specs.declared.Entry.{Entry}
use Rattle.fsl_uv.specs.declared.Put.{Put}
use Rattle.fsl_uv.specs.declared.Put.TheVariants as put_is
use Rattle.fsl_uv.specs.declared.UvFault.{UvFault}
use Rattle.fsl_uv.specs.declared.UvFault.TheVariants as uv_fault
use Rattle.fsl_uv.specs.declared.UvLoadFault.{UvLoadFault}
use Rattle.fsl_uv.specs.declared.UvLoadFault.TheVariants as uv_load_fault
use Rattle.fsl_uv.specs.Entries.{Version}
use Rattle.fsl_uv.specs.Stores.{Seen, Whole, blob_of}
use Rattle.fsl_uv.specs.Reports.{Done, file_in, put_done, not_unversioned}
use Rattle.fsl_words.specs.declared.Unversioned.{Unversioned}
use Rattle.fsl_words.specs.declared.Unversioned.TheVariants.{Add, Remove}
use Rattle.fsl_words.specs.declared.Command.TheVariants as command_of
use Rattle.fossil.specs.declared.answers.fault.Fault.TheVariants as fault_is
use Rattle.fossil.specs.Due.{Due, IsAnsweredWith}
use Rattle.fossil.specs.Printed.{Printed, refused}
use Rattle.fossil.specs.Unversioned.{said_printed}
use Rattle.fossil.specs.Outcome.{printed_of, not_repository}
use Rattle.fossil.specs.Run.{Input, IsInputSteady}
use Rattle.fossil.specs.Acts.{Loaded, input_of, IsInput, IsOpened, Acts}
use Rattle.fossil.specs.RunCall.{Moments, states}

-- a store as the journal of a file that was loaded
abbrev pub loaded_store : {D : Type 0} → Whole D → Loaded
loaded_store s = record { journal = s.seen.log; places = s.seen.log.places; records = s.seen.log.records }

-- what is due of a file that isn't opened as a store, by what is printed of one that is no repository
abbrev pub IsNoStoreAs : (ℕ → Printed) → UvLoadFault → Due → Type 0
IsNoStoreAs place uv_load_fault.Disk d = d ≡ Err fault_is.Disk
IsNoStoreAs place (uv_load_fault.NotRepository at) d = IsAnsweredWith (place at) d
IsNoStoreAs place (uv_load_fault.NotEntry name) d = IsAnsweredWith (said_printed (not_unversioned name)) d
IsNoStoreAs place uv_load_fault.Memory d = d ≡ Err fault_is.Memory

abbrev pub IsNoStoreDue : UvLoadFault → Due → Type 0
IsNoStoreDue why d = IsNoStoreAs (λ at. printed_of (not_repository at)) why d

-- a line of a word and a path
abbrev pub path_line : List ℕ → List ℕ → List ℕ
path_line word path = word ++ escape path ++ 10 ∷ []

-- what is printed of a put
abbrev pub IsPutAnswer : List ℕ → Result Put UvFault → Printed → Type 0
IsPutAnswer path (Ok put_is.Stored) a = a ≡ record { status = 0; text = path_line (codes "stored ") path }
IsPutAnswer path (Ok put_is.Kept) a = a ≡ record { status = 0; text = path_line (codes "kept ") path }
IsPutAnswer path (Err (uv_fault.TooLarge size)) a = a ≡ refused (codes "too large " ++ escape path ++ 32 ∷ decimal size)
IsPutAnswer path (Err (uv_fault.Full bytes count)) a = a ≡ refused (codes "full")
IsPutAnswer path (Err (uv_fault.Stopped faults)) a = ⊥
IsPutAnswer path (Err uv_fault.Memory) a = ⊥

-- what is done of an entry was printed, and its record is appended
pub record IsPutDone (old new : Seen) (answer : Printed) (d : Done) : Type 0 where
  pub said : answer ≡ said_printed d.said
  pub records : new.log.records ≡ old.log.records ++ map blob_of d.here
  pub stable : new.log.stable ≡ old.log.stable
  pub stopped : new.log.stopped ≡ old.log.stopped

abbrev pub HasPut : Entry → Seen → Seen → Printed → Type 0
HasPut e old new answer = IsPutDone old new answer (put_done old.map e)

-- the command that puts in a content of a path, or none
abbrev pub putting : List ℕ → Option (List ℕ) → Unversioned
putting path (Some content) = Add path
putting path None = Remove path

-- the content is the whole input; none is due where the path is there, and then no read failed either
abbrev pub IsPutDue : List ℕ → Option (List ℕ) → List (List ℕ × Version) → Input → Type 0
IsPutDue path (Some content) m input = IsInput input (Some content)
IsPutDue path None m input = IsInputSteady input × IsTrue (is_some (file_in (value_at m path)))

-- what a command did that puts an entry into a store that was opened, from whatever file, under whatever input and clock
abbrev pub PutsEntry : {D : Type 0} → Entry → (D → DiskState) × Whole D × Whole D → Due → Type 0
PutsEntry e store result =
    (disk : _) (input : SourceState × SourceState) (clock : Moments × Moments) → IsPutDue e.path e.bytes store.1.seen.map (input_of input)
    → IsMoment e.moment × Asks clock.0 clock.1 (e.moment ∷ []) → IsOpened (store.0 disk) (store.0 store.1.disk) (loaded_store store.1)
    → Acts (command_of.Unversioned (putting e.path e.bytes)) input clock (store.0 disk, store.0 store.2.disk) result

-- the same of a content, which is put in behind one moment of this clock
abbrev pub AddsContent : {C D : Type 0} → List ℕ → List ℕ → (C → Moments) × C × C → (D → DiskState) × Whole D × Whole D → Due → Type 0
AddsContent path content clock store result =
    (disk : _) (input : SourceState × SourceState) → IsInput (input_of input) (Some content)
    → IsOpened (store.0 disk) (store.0 store.1.disk) (loaded_store store.1)
    → Acts (command_of.Unversioned (Add path)) input (states clock) (store.0 disk, store.0 store.2.disk) result

-- what `uv-add` did over such a store
abbrev pub AddsTo : {S C D : Type 0} → List ℕ → (S → SourceState) × S × S → (C → Moments) × C × C → (D → DiskState) × Whole D × Whole D →
    Due → Type 0
AddsTo path input clock store result =
    (disk : _) → IsOpened (store.0 disk) (store.0 store.1.disk) (loaded_store store.1)
    → Acts (command_of.Unversioned (Add path)) (states input) (states clock) (store.0 disk, store.0 store.2.disk) result

-- what `uv-remove` did, whatever the input is
abbrev pub RemovesFrom : {C D : Type 0} → List ℕ → (C → Moments) × C × C → (D → DiskState) × Whole D × Whole D → Due → Type 0
RemovesFrom path clock store result =
    (disk : _) (input : SourceState) → IsOpened (store.0 disk) (store.0 store.1.disk) (loaded_store store.1)
    → Acts (command_of.Unversioned (Remove path)) (input, input) (states clock) (store.0 disk, store.0 store.2.disk) result

-- what a command did that asks the clock and reads no input, whatever the input is
abbrev pub ActsTicking : {C D : Type 0} → Unversioned → (C → Moments) × C × C → (D → DiskState) × D × D → Due → Type 0
ActsTicking asked clock file result = (input : SourceState) → Acts (command_of.Unversioned asked) (input, input) (states clock) (states file) result

-- what is said is printed, or there was no memory for it
abbrev pub IsToldAs : Done → Due → Type 0
IsToldAs d (Ok answer) = answer ≡ said_printed d.said
IsToldAs d (Err fault) = fault ≡ fault_is.Memory
