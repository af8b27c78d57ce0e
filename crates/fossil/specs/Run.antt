-- What a run says of its status, its output, its input, its clock and its file, by one reading of what it was handed and one outcome.
use Rattle.std.specs.Prelude.{[], ◌≡◌, ◌≢◌, ℕ, ◌≤◌, ◌⊎◌, ◌==◌, ◌||◌, ◌&&◌, nat_le, nat_lt, not, Bool, true, false, List, ◌∷◌, ◌++◌, length, take, flat_map, Option, Some, None, IsTrue, MatchBool, ⊤, if◌then◌else◌}
use Rattle.std.specs.Option.{option_map_or}
use Rattle.std.specs.Io.KnownBytes.{Appends, IsAtEnd}
use Rattle.fsl_order.specs.Causes.{Rose}
use Rattle.fsl_text.specs.Limits.{most_of_message}
use Rattle.fsl_date.specs.Moment.{IsMoment}
use Rattle.fsl_outside.specs.Clocks.{Asks}
use Rattle.fsl_outside.specs.Streams.{SourceState, SinkState}
use Rattle.fsl_record.specs.declared.Record.{Record}
use Rattle.fsl_disk.specs.Disk.{DiskState, IsModelled, Told, Keeps, Quiet, LeavesOnly}
use Rattle.fsl_journal.specs.File.{IsFileOf, FailsAt}
use Rattle.fsl_blobs.specs.Fold.{contents}
use Rattle.fsl_repo.specs.Whole.{is_modelled}
use Rattle.fsl_query.specs.Answers.{content_asked, IsSpoiltIn}
use Rattle.fsl_words.specs.declared.Command.{Command}
use Rattle.fsl_words.specs.declared.Command.TheVariants.{Init, Ingest, Put, Shun, Unshun, Ask, Serve, Gen, Pull, Push, Clone, PullLocal, Checkin, Export, Verify, Scrub, Unversioned}
use Rattle.fossil.specs.declared.reading.message.MessageFile.{MessageFile}
use Rattle.fossil.specs.Printed.{Printed, disk_fault, input_fault, no_memory}
use Rattle.fossil.specs.Printed as printing
use Rattle.fossil.specs.Messages.{IsFileList}
use Rattle.fossil.specs.Unversioned.{TakesUvMoment, IsUvRefused}
use Rattle.fossil.specs.Checkins.{IsToCheckIn}
use Rattle.fossil.specs.Trees.{IsExportSpoilt, IsVerifySpoilt}
use Rattle.fossil.specs.Uses.{command_reads, command_opens, command_begins, command_ticks}
use Rattle.fossil.specs.Outcome.{Outcome, printed_of, said, IsSaidOutcome}

-- ---- what a run is handed and leaves

-- the source of the input, before the run and after it
pub record Input : Type 0 where
  pub before : SourceState
  pub after : SourceState

-- no read of it failed
abbrev pub IsInputSteady : Input → Type 0
IsInputSteady input = input.after.faults ≡ input.before.faults

-- the sink of the output
pub record Output : Type 0 where
  pub before : SinkState
  pub after : SinkState

-- the clock, by the moments that it answered, where it tells them
pub record Clock : Type 0 where
  pub before : Option (List ℕ)
  pub after : Option (List ℕ)

-- the disk of the repository file
pub record File : Type 1 where
  pub before : DiskState
  pub after : DiskState

-- the bytes are those that are told, where some are
abbrev pub Agrees : Option (List ℕ) → List ℕ → Type 0
Agrees None bytes = ⊤
Agrees (Some told) bytes = bytes ≡ told

-- ---- what a command uses

-- whether a command reads the input
abbrev pub reads : Option Command → Bool
reads command = option_map_or command_reads command false

-- whether it touches the file
abbrev pub opens : Option Command → Bool
opens command = option_map_or command_opens command false

-- whether it begins with an empty file
abbrev pub begins : Option Command → Bool
begins command = option_map_or command_begins command false

-- whether it may ask the clock
abbrev pub ticks : Option Command → Bool
ticks command = option_map_or command_ticks command false

-- the same of words
abbrev pub reads_input : List (List ℕ) → Bool
reads_input words = reads (said words)

abbrev pub opens_file : List (List ℕ) → Bool
opens_file words = opens (said words)

abbrev pub asks_clock : List (List ℕ) → Bool
asks_clock words = ticks (said words)

-- ---- the status and the text

-- the output took a front of the text, and its count rose
abbrev pub IsCutOff : Output → List ℕ → Type 0
IsCutOff out text =
    (front : List ℕ) × (rest : List ℕ) × (text ≡ front ++ rest) × Appends out.before.taken out.after.taken front × Rose out.before.faults out.after.faults

-- the status of an outcome whose text can't be written: 6, but that of a refusal stays
abbrev pub cut_off_status : ℕ → ℕ
cut_off_status status = if status == 0 then 6 else status

-- what is due was written and no write failed; or a front of it, where the sink's count rose, with 6 in place of 0
pub data IsWritten (p : Printed) (out : Output) (status : ℕ) : Type 0 where
  all : status ≡ p.status → Appends out.before.taken out.after.taken p.text → out.after.faults ≡ out.before.faults → IsWritten p out status
  front : status ≡ cut_off_status p.status → IsCutOff out p.text → IsWritten p out status

-- the count of the file's disk rose, and a call of it was due: the input wasn't read, so that the file was to be loaded or made; or there is something to
-- commit. A command that reads no input never reads it, and an empty input is the same once it was read, so of these this says only that the count rose
pub record IsDiskFault (command : Option Command) (input : Input) (file : File) (o : Outcome) : Type 0 where
  pub opened : IsTrue (opens command)
  pub rose : Rose file.before.faults file.after.faults
  pub moment : (input.after ≡ input.before) ⊎ (o.commits ≢ [])

-- the input couldn't be read, and a file that is loaded first stands for records
pub record IsInputFault (command : Option Command) (input : Input) (bytes : List ℕ) : Type 0 where
  pub read : IsTrue (reads command)
  pub rose : Rose input.before.faults input.after.faults
  pub file : IsTrue (opens command) → (records : List Record) × IsFileOf bytes records

-- bytes that were read for an artifact have another name than its own: for the one whose content `cat` asks for, or one of those that `export` and `verify` ask
-- for, by the file's records. No other command that meets no peer reads a content, and over an honest disk, which tells its contents and meets the disk model,
-- none is damaged
abbrev pub IsDamaged : Bool → Option Command → List ℕ → List ℕ → List ℕ → Type 0
IsDamaged honest (Some (Ask question)) bytes name found =
    (records : List Record) × IsFileOf bytes records × (content_asked (contents records) question ≡ Some name) × IsSpoiltIn honest (contents records) name found
IsDamaged honest (Some (Export prefix)) bytes name found =
    (records : List Record) × IsFileOf bytes records × IsExportSpoilt honest prefix (contents records) name found
IsDamaged honest (Some (Verify prefix)) bytes name found =
    (records : List Record) × IsFileOf bytes records × IsVerifySpoilt honest prefix (contents records) name found
IsDamaged honest command bytes name found = ⊥

-- such bytes were read, no call of the disk failed, and both names are said
pub record IsDamagedFault (command : Option Command) (out : Output) (status : ℕ) (file : File) (bytes : List ℕ) : Type 0 where
  pub name : List ℕ
  pub found : List ℕ
  pub damaged : IsDamaged (is_modelled file.before) command bytes name found
  pub faults : file.after.faults ≡ file.before.faults
  pub said : IsWritten (printing.damaged name found) out status

-- a fault has its status and its line; want of memory has no cause
abbrev pub IsFaulted : Option Command → Input → Output → File → ℕ → List ℕ → Outcome → Type 0
IsFaulted command input out file status bytes o =
    (IsDiskFault command input file o × IsWritten disk_fault out status)
    ⊎ ((IsInputFault command input bytes × IsWritten input_fault out status)
    ⊎ (IsWritten no_memory out status ⊎ IsDamagedFault command out status file bytes))

-- ---- the clock

-- a message of files that isn't too long, of which each line reads and each card is of files
abbrev pub HasForm : List ℕ → Type 0
HasForm message = (nat_lt most_of_message (length message) ≡ false) × ((files : List MessageFile) × IsFileList message files)

-- `put` takes a moment where its file stands for records and its message has its form, and `checkin` where its file does and its tree and parent aren't
-- refused; two commands of unversioned files take one; no other command does
abbrev pub TakesMoment : Option Command → List ℕ → List ℕ → Type 0
TakesMoment (Some Put) read bytes = ((records : List Record) × IsFileOf bytes records) × HasForm read
TakesMoment (Some (Checkin parent user comment)) read bytes =
    (records : List Record) × IsFileOf bytes records × IsToCheckIn parent (contents records) read
TakesMoment (Some (Unversioned asked)) read bytes = TakesUvMoment asked read bytes
TakesMoment command read bytes = ⊥

-- one moment was taken, of the years 0 to 9999, which is now the last that is told
abbrev pub TakesOne : Clock → ℕ → Type 0
TakesOne clock moment = IsMoment moment × Asks clock.before clock.after (moment ∷ [])

-- none was taken, and what is told stays
abbrev pub TakesNone : Clock → Type 0
TakesNone clock = clock.after ≡ clock.before

-- whether no fault ended a run, by its status
abbrev pub is_answered : ℕ → Bool
is_answered status = nat_le status 3 || (status == 6)

-- a moment was taken where the command takes one, and else none; a run that a fault ends may end before it takes one
abbrev pub IsTimed : Option Command → Clock → Bool → List ℕ → ℕ → List ℕ → Type 0
IsTimed command clock answered read moment bytes =
    (TakesMoment command read bytes × TakesOne clock moment) ⊎ ((IsTrue answered → ¬ (TakesMoment command read bytes)) × TakesNone clock)

-- behind a disk that failed: nothing was read and no moment taken, so that the file was to be loaded or made; or a moment was taken where the command takes one,
-- and else none. A source without bytes is the same before and after it is read to its end: of an empty input the first alternative says only that no moment was
-- taken, and the commit may have failed
abbrev pub IsCutTimed : Option Command → Input → Clock → List ℕ → ℕ → List ℕ → Type 0
IsCutTimed command input clock read moment bytes = ((input.after ≡ input.before) × TakesNone clock) ⊎ IsTimed command clock true read moment bytes

-- ---- the file

-- bytes stand for records, and for none where they are no repository
abbrev pub StandsFor : List Record → List ℕ → Type 0
StandsFor [] bytes = (records : List Record) → ¬ (IsFileOf bytes records)
StandsFor records bytes = IsFileOf bytes records

-- the old records: those that the bytes stand for, or none of an empty file for a command that begins with one
abbrev pub AreOldBy : Bool → List Record → List ℕ → Type 0
AreOldBy begins old bytes = MatchBool begins (((old ≡ []) × (bytes ≡ [])) ⊎ IsFileOf bytes old) (IsFileOf bytes old)

abbrev pub AreOld : Option Command → List Record → List ℕ → Type 0
AreOld command old bytes = AreOldBy (begins command) old bytes

-- each of these images is one of the old records
abbrev pub AreImages : Option Command → List Record → (List ℕ → Type 0) → Type 0
AreImages command old images = (bytes : List ℕ) → images bytes → AreOld command old bytes

-- the old records and the first n commits
abbrev pub after_commits : List Record → List (List Record) → ℕ → List Record
after_commits old commits n = old ++ flat_map (λ commit. commit) (take n commits)

-- the bytes stand for the old records and all commits
abbrev pub StandsForAll : List Record → List (List Record) → List ℕ → Type 0
StandsForAll old commits bytes = StandsFor (after_commits old commits (length commits)) bytes

-- the bytes stand for the old records followed by none, some or all commits, whole and in order
abbrev pub StandsForSome : List Record → List (List Record) → List ℕ → Type 0
StandsForSome old commits bytes = (n : ℕ) × (n ≤ length commits) × StandsFor (after_commits old commits n) bytes

-- the command is done, and the output took its text or a front of it
abbrev pub is_done : ℕ → Bool
is_done status = (status == 0) || (status == 6)

-- what the file stands for after a status: the old records and all commits where the command is done, with none, some or all of them where the disk failed, and else the old ones alone
abbrev pub IsLeft : ℕ → List Record → List (List Record) → List ℕ → Type 0
IsLeft status old commits bytes =
    MatchBool (is_done status) (StandsForAll old commits bytes)
    (MatchBool (status == 4) (StandsForSome old commits bytes) (StandsFor old bytes))

-- a disk that failed tells what it holds by the disk model alone, and where the file was to be made, by what each image stood for
abbrev pub IsKnown : Option Command → ℕ → List Record → DiskState → Type 0
IsKnown command status old file = status ≡ 4 → IsTrue file.is_model × (IsTrue (begins command) → AreImages command old file.images)

-- the contents after the run, where they are told, stand for what the status says
abbrev pub IsFileLeft : Option Command → File → ℕ → List ℕ → Outcome → Type 0
IsFileLeft command file status bytes o =
    (old : List Record) (held : List ℕ) → file.before.contents ≡ Some bytes → file.after.contents ≡ Some held →
    AreOld command old bytes → IsKnown command status old file.before → IsLeft status old o.commits held

-- the bytes stand for no records
abbrev pub IsNoRepository : List ℕ → Type 0
IsNoRepository bytes = (at : ℕ) × FailsAt bytes at

-- a command that begins with an empty file refuses one with bytes, and a command that loads a file one that is no repository
abbrev pub IsRefused : Option Command → List ℕ → Type 0
IsRefused None bytes = ⊥
IsRefused (Some (Init project server fields)) bytes = bytes ≢ []
IsRefused (Some Ingest) bytes = ⊥
IsRefused (Some Put) bytes = IsNoRepository bytes
IsRefused (Some (Shun name)) bytes = IsNoRepository bytes
IsRefused (Some (Unshun name)) bytes = IsNoRepository bytes
IsRefused (Some (Ask question)) bytes = IsNoRepository bytes
IsRefused (Some (Serve address users workers requests)) bytes = ⊥
IsRefused (Some (Checkin parent user comment)) bytes = IsNoRepository bytes
IsRefused (Some (Export prefix)) bytes = IsNoRepository bytes
IsRefused (Some (Verify prefix)) bytes = IsNoRepository bytes
IsRefused (Some (Scrub path)) bytes = IsNoRepository bytes
IsRefused (Some (Unversioned asked)) bytes = IsUvRefused asked bytes
IsRefused (Some (Gen count reversed)) bytes = ⊥
IsRefused (Some (Pull address login)) bytes = IsNoRepository bytes
IsRefused (Some (Push address login)) bytes = IsNoRepository bytes
IsRefused (Some (Clone address server fields)) bytes = bytes ≢ []
IsRefused (Some (PullLocal path)) bytes = IsNoRepository bytes

-- a file that is refused stays as it is, at each moment and whatever the status
abbrev pub IsRefusedKept : Option Command → File → List ℕ → Type 0
IsRefusedKept command file bytes = file.before.contents ≡ Some bytes → IsRefused command bytes → Quiet file.before file.after

-- whatever moment a crash comes at, it leaves the old records followed by none, some or all commits
abbrev pub IsWholeAtAnyMoment : Option Command → File → Outcome → Type 0
IsWholeAtAnyMoment command file o =
    IsModelled file.before → (old : List Record) → AreImages command old file.before.images →
    LeavesOnly file.before file.after (StandsForSome old o.commits)

-- what the file reads as lasts: the command is done, or is refused behind a load
abbrev pub lasts : Option Command → ℕ → Bool
lasts command status = is_done status || ((status == 3) && not (begins command))

-- a crash after the run leaves the old records and all commits, whatever one before it might have left
abbrev pub IsDurable : Option Command → File → List ℕ → Outcome → Type 0
IsDurable command file bytes o =
    IsTrue (opens command) → IsModelled file.before → file.before.contents ≡ Some bytes → (old : List Record) → AreOld command old bytes →
    (c : List ℕ) → file.after.images c → StandsForAll old o.commits c

-- bytes that stand for these records, and nothing more: the closed gate is their last byte
abbrev pub IsJust : List ℕ → List Record → Type 0
IsJust bytes records = (file : IsFileOf bytes records) × (file.rest ≡ [])

-- the contents, where they are told, are such bytes
abbrev pub HoldsJust : DiskState → Type 0
HoldsJust disk = Told disk (λ held. (records : List Record) × IsJust held records)

-- whether a refusal comes behind a load that cut off what stood behind the closed gate. A file that `init` refuses isn't loaded; and one that is refused
-- for a Blob that is no entry may be left as it was
abbrev pub command_trims : Command → Bool
command_trims (Init project server fields) = false
command_trims (Unversioned asked) = false
command_trims command = true

-- after which status nothing stands behind the closed gate: the command is done, or is refused behind such a load
abbrev pub trims : Option Command → ℕ → Bool
trims command status = is_done status || ((status == 3) && option_map_or command_trims command false)

-- a file that was loaded holds the bytes of its records alone, whatever stood behind them
abbrev pub IsTrimmed : Option Command → File → Type 0
IsTrimmed command file = IsTrue (opens command) → begins command ≡ false → HoldsJust file.after

-- want of memory leaves a file that a command would begin as it is, at each moment
abbrev pub IsSpared : Option Command → File → ℕ → Type 0
IsSpared command file status = status ≡ 9 → IsTrue (begins command) → Quiet file.before file.after

-- ---- a run

-- by what was read of the input and of the file, by a moment, and by their outcome
pub record RunsBy (command : Option Command) (input : Input) (clock : Clock) (out : Output) (file : File) (status : ℕ) (read : List ℕ) (moment : ℕ)
    (bytes : List ℕ) (o : Outcome) : Type 0 where
  -- what was read is what was told
  pub input_told : Agrees input.before.left read
  pub file_told : Agrees file.before.contents bytes
  pub outcome : IsSaidOutcome (is_modelled file.before) command read moment bytes o
  -- the moment is the one that the clock answered
  pub timed : IsTimed command clock (is_answered status) read moment bytes
  -- where the disk failed it is told how far the command came; behind an input that failed no moment is taken
  pub asked : status ≡ 4 → IsCutTimed command input clock read moment bytes
  pub unasked : status ≡ 5 → TakesNone clock
  -- the text is that of the outcome, or the line of a fault
  pub answer : IsWritten (printed_of o) out status ⊎ IsFaulted command input out file status bytes o
  -- after status 0 an input that the command reads was read to its end
  pub end : status ≡ 0 → IsTrue (reads command) → IsAtEnd input.after.left
  pub contents : IsFileLeft command file status bytes o
  pub kept : IsRefusedKept command file bytes
  pub any_moment : IsWholeAtAnyMoment command file o
  pub durable : IsTrue (lasts command status) → IsDurable command file bytes o
  pub trimmed : IsTrue (trims command status) → IsTrimmed command file
  pub spared : IsSpared command file status
  pub keeps : Keeps file.before file.after
  -- no call of the disk failed but where the run ends with that, by 4, and no read of the input but by 5
  pub steady : status ≢ 4 → file.after.faults ≡ file.before.faults
  pub input_steady : status ≢ 5 → IsInputSteady input
  pub disk_fault : status ≡ 4 → Rose file.before.faults file.after.faults
  pub input_fault : status ≡ 5 → Rose input.before.faults input.after.faults
  pub output_fault : status ≡ 6 → Rose out.before.faults out.after.faults
  -- no content of a disk that tells its contents and meets the disk model is damaged
  pub undamaged : IsModelled file.before → status ≢ 12

-- what a command, or words outside the grammar, came to
abbrev pub HasRun : Option Command → Input → Clock → Output → File → ℕ → Type 0
HasRun command input clock out file status =
    (read : List ℕ) × (moment : ℕ) × (bytes : List ℕ) × (o : Outcome) × RunsBy command input clock out file status read moment bytes o
