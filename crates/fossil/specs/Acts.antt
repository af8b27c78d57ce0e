-- What the parts of a run say of what they did.
use Rattle.std.specs.Prelude.{[], ◌≡◌, ◌≢◌, ◌<◌, ◌≤◌, ℕ, false, List, length, nat_lt, true, Bool, Option, Some, None, Result, Ok, Err, IfOk, IfErr, IsTrue, ⊤}
use Rattle.std.specs.Io.KnownBytes.{IsAtEnd}
use Rattle.fsl_order.specs.Causes.{Rose}
use Rattle.fsl_text.specs.Limits.{most_of_message}
use Rattle.fsl_outside.specs.Streams.{SourceState, SinkState}
use Rattle.fsl_record.specs.declared.Record.{Record}
use Rattle.fsl_record.specs.Records.{AreRecords, AreFields}
use Rattle.fsl_disk.specs.Disk.{DiskState, IsModelled, Told, Keeps, Quiet, LeavesOnly}
use Rattle.fsl_journal.specs.File.{IsFileOf, FailsAt}
use Rattle.fsl_journal.specs.Journal.{Belongs, OfBytes}
use Rattle.fsl_journal.specs.Log.{Log}
use Rattle.fsl_journal.specs.declared.LoadFault.{LoadFault}
use Rattle.fsl_journal.specs.declared.LoadFault.TheVariants as load_fault
use Rattle.fsl_blobs.specs.Fold.{contents}
use Rattle.fsl_repo.specs.Whole.{Whole, log_of, is_modelled}
use Rattle.fsl_repo.specs.declared.Opened.{Opened}
use Rattle.fsl_words.specs.declared.Question.{Question}
use Rattle.fsl_words.specs.declared.Command.{Command}
use Rattle.fsl_words.specs.declared.Command.TheVariants.{Init, Ingest, Put, Shun, Unshun, Ask, Serve, Gen, Pull, Push, Clone, PullLocal, Checkin, Export, Verify, Scrub, Unversioned}
use Rattle.fossil.specs.declared.answers.fault.Fault.{Fault}
use Rattle.fossil.specs.declared.answers.fault.Fault.TheVariants as fault_is
use Rattle.fossil.specs.Due.{Due, printed}
use Rattle.fossil.specs.Printed.{Printed}
use Rattle.fossil.specs.Ingest.{IsIngested}
use Rattle.fsl_query.specs.declared.QueryFault.{QueryFault}
use Rattle.fsl_query.specs.Answers.{content_asked, IsReported, IsSpoiltIn}
use Rattle.fossil.specs.Unversioned.{IsUvObeyable}
use Rattle.fossil.specs.Outcome.{Outcome, without_commit, printed_of, IsAnswered, IsSaidOutcome}
use Rattle.fossil.specs.Run.{Input, IsInputSteady, Clock, Output, File, Agrees, reads, TakesNone, IsTimed, IsCutTimed, IsDiskFault, IsInputFault, IsDamaged, IsFileLeft, IsRefusedKept, IsWholeAtAnyMoment, lasts, IsDurable, IsSpared, trims, IsTrimmed}

-- ---- objects before and after

abbrev pub input_of : SourceState × SourceState → Input
input_of s = record { before = s.0; after = s.1 }

abbrev pub clock_of : Option (List ℕ) × Option (List ℕ) → Clock
clock_of s = record { before = s.0; after = s.1 }

abbrev pub output_of : SinkState × SinkState → Output
output_of s = record { before = s.0; after = s.1 }

abbrev pub file_of : DiskState × DiskState → File
file_of s = record { before = s.0; after = s.1 }

-- ---- faults

-- a fault of a command, with its cause; one that meets no peer has words and uses no dial
abbrev pub IsCaused : Option Command → Input → File → List ℕ → Outcome → Fault → Type 0
IsCaused command input file bytes o fault_is.Disk = IsDiskFault command input file o
IsCaused command input file bytes o fault_is.Input = IsInputFault command input bytes
IsCaused command input file bytes o (fault_is.Damaged name found) =
    IsDamaged (is_modelled file.before) command bytes name found × (file.after.faults ≡ file.before.faults)
IsCaused command input file bytes o fault_is.Memory = ⊤
IsCaused command input file bytes o fault = ⊥

-- ---- the input

-- the whole input, up to its end; or it is too long
abbrev pub IsInput : Input → Option (List ℕ) → Type 0
IsInput input None = (read : List ℕ) × Agrees input.before.left read × (nat_lt most_of_message (length read) ≡ true) × IsInputSteady input
IsInput input (Some text) = Agrees input.before.left text × IsAtEnd input.after.left × (nat_lt most_of_message (length text) ≡ false) × IsInputSteady input

-- why an input isn't read, or comes to no answer: a read failed; or none did, and there was no memory
abbrev pub IsUnread : Fault → Input → Type 0
IsUnread fault_is.Input input = Rose input.before.faults input.after.faults
IsUnread fault_is.Memory input = IsInputSteady input
IsUnread fault input = ⊥

-- ---- the file

-- what the contents stand for stays
abbrev pub KeepsContents : DiskState → DiskState → Type 0
KeepsContents file left = Told file (λ bytes. (old : List Record) → IsFileOf bytes old → Told left (λ held. IsFileOf held old))

-- where each image stands for the same records, each does so at each moment
abbrev pub KeepsImages : DiskState → DiskState → Type 0
KeepsImages file left =
    IsModelled file → (old : List Record) → ((c : List ℕ) → file.images c → IsFileOf c old) → LeavesOnly file left (λ c. IsFileOf c old)

-- contents that stand for no records stay, at each moment
abbrev pub KeepsUnreadable : DiskState → DiskState → Type 0
KeepsUnreadable file left = Told file (λ bytes. (at : ℕ) → FailsAt bytes at → Quiet file left)

-- what a file was loaded as: its journal, its records, and for each of them the place in the file where its content begins
pub record Loaded : Type 0 where
  pub journal : Log
  pub places : List ℕ
  pub records : List Record

-- what a file was opened as for a question, so
abbrev pub loaded_file : Opened → Loaded
loaded_file f = record { journal = f.journal; places = f.blobs.starts; records = f.blobs.records }

-- a repository as the journal of a file that was loaded, with its records and where their contents begin
abbrev pub loaded_of : {D : Type 0} → Whole D → Loaded
loaded_of r = record { journal = log_of r; places = r.places; records = r.seen.state.records }

-- the records and the places of their contents are a journal's
abbrev pub IsRead : Log → List Record → List ℕ → Type 0
IsRead log records places = (log.records ≡ records) × (log.places ≡ places)

-- a journal that runs, with all its records committed, and these records with the places of their contents
pub record IsOpen (l : Loaded) : Type 0 where
  pub runs : l.journal.stopped ≡ None
  pub stable : l.journal.stable ≡ length l.journal.records
  pub fit : AreRecords l.records
  pub same : IsRead l.journal l.records l.places

-- the file was loaded, and stands for what it stood for
pub record IsOpened (file left : DiskState) (l : Loaded) : Type 0 where
  pub is_open : IsOpen l
  pub stands : OfBytes file (λ bytes. IsFileOf bytes l.journal.records)
  pub belongs : Belongs l.journal left
  pub faults : left.faults ≡ file.faults
  pub contents : KeepsContents file left
  pub any_moment : KeepsImages file left
  pub keeps : Keeps file left

-- why a file isn't loaded
abbrev pub IsNotLoaded : LoadFault → DiskState → DiskState → Type 0
IsNotLoaded load_fault.Disk file left = Rose file.faults left.faults
IsNotLoaded (load_fault.NotRepository at) file left = OfBytes file (λ bytes. FailsAt bytes at)
IsNotLoaded load_fault.Memory file left = ⊤

-- the file wasn't loaded, and stands for what it stood for; one that is no repository is as it was
pub record IsUnopened (file left : DiskState) (fault : LoadFault) : Type 0 where
  pub cause : IsNotLoaded fault file left
  pub contents : fault ≢ load_fault.Disk → KeepsContents file left
  pub faults : fault ≢ load_fault.Disk → left.faults ≡ file.faults
  -- even where the disk failed
  pub modelled : IsModelled file → KeepsContents file left
  pub unreadable : KeepsUnreadable file left
  pub any_moment : KeepsImages file left
  pub keeps : Keeps file left

-- ---- before the text is printed

-- what stays of the file whatever the answer
pub record Touches (command : Option Command) (file : File) (bytes : List ℕ) (o : Outcome) : Type 0 where
  pub kept : IsRefusedKept command file bytes
  pub any_moment : IsWholeAtAnyMoment command file o
  pub keeps : Keeps file.before file.after

-- what a command did, by what was read of the input and of the file, by a moment, and by their outcome
pub record ActsBy (command : Option Command) (input : Input) (file : File) (result : Due) (read : List ℕ) (moment : ℕ) (bytes : List ℕ)
    (o : Outcome) : Type 0 where
  pub input_told : Agrees input.before.left read
  pub file_told : Agrees file.before.contents bytes
  pub outcome : IsSaidOutcome (is_modelled file.before) command read moment bytes o
  pub answer : IfOk result (λ answer. answer ≡ printed_of o)
  pub plain : IfOk result (λ answer. answer.status ≤ 3)
  pub cause : IfErr result (IsCaused command input file bytes o)
  pub end : (printed result).status ≡ 0 → IsTrue (reads command) → IsAtEnd input.after.left
  pub contents : IsFileLeft command file (printed result).status bytes o
  pub touches : Touches command file bytes o
  pub durable : IsTrue (lasts command (printed result).status) → IsDurable command file bytes o
  pub trimmed : IsTrue (trims command (printed result).status) → IsTrimmed command file
  pub spared : IsSpared command file (printed result).status
  -- no call of the disk failed but where it ends with that, and no read of the input
  pub steady : result ≢ Err fault_is.Disk → file.after.faults ≡ file.before.faults
  pub input_steady : result ≢ Err fault_is.Input → IsInputSteady input

-- the moment by what is answered: where no fault ended the command, or the disk failed in its commit, one was taken where the command takes one, and else none;
-- where the file wasn't loaded or made, or the input failed, none; and behind another fault one that the command takes may be taken
abbrev pub IsTimedBy : Option Command → Input → Clock → Due → List ℕ → ℕ → List ℕ → Type 0
IsTimedBy command input clock (Ok answer) read moment bytes = IsTimed command clock true read moment bytes
IsTimedBy command input clock (Err fault_is.Disk) read moment bytes = IsCutTimed command input clock read moment bytes
IsTimedBy command input clock (Err fault_is.Input) read moment bytes = TakesNone clock
IsTimedBy command input clock (Err fault) read moment bytes = IsTimed command clock false read moment bytes

-- and the moment is the one that the clock answered
abbrev pub HasActed : Option Command → Input → Clock → File → Due → Type 0
HasActed command input clock file result =
    (read : List ℕ) × (moment : ℕ) × (bytes : List ℕ) × (o : Outcome) × ActsBy command input file result read moment bytes o
    × IsTimedBy command input clock result read moment bytes

-- the same of a command, by each object before and after
abbrev pub Acts : Command → SourceState × SourceState → Option (List ℕ) × Option (List ℕ) → DiskState × DiskState → Due → Type 0
Acts command input clock file result = HasActed (Some command) (input_of input) (clock_of clock) (file_of file) result

-- ---- commands

-- the fields of a new repository are in their form, user and comment of a check-in have a byte, a path of unversioned files is one that may be put in, workers and
-- their connections are within their bounds, and so is the number of artifacts
abbrev pub IsObeyable : Command → Type 0
IsObeyable (Init project server fields) = AreFields fields
IsObeyable Ingest = ⊤
IsObeyable Put = ⊤
IsObeyable (Shun name) = ⊤
IsObeyable (Unshun name) = ⊤
IsObeyable (Ask question) = ⊤
IsObeyable (Serve address users workers requests) = (0 < workers) × (workers ≤ 16) × (requests ≤ 65536)
IsObeyable (Gen count reversed) = (1 ≤ count) × (count ≤ 100000)
IsObeyable (Pull address login) = ⊤
IsObeyable (Push address login) = ⊤
IsObeyable (Clone address server fields) = AreFields fields
IsObeyable (PullLocal path) = ⊤
IsObeyable (Checkin parent user comment) = (user ≢ []) × (comment ≢ [])
IsObeyable (Export prefix) = ⊤
IsObeyable (Verify prefix) = ⊤
IsObeyable (Scrub path) = ⊤
IsObeyable (Unversioned asked) = IsUvObeyable asked

-- ---- questions

-- what is answered to a question, by the records, and by the disk's count of faults before and after: the report or its refusal, and no call failed; or why
-- there is none. Want of memory has no cause, and no call failed then
abbrev pub IsAnsweredBy : Bool → List Record → Question → ℕ → ℕ → Due → Type 0
IsAnsweredBy honest records question before after (Ok a) = IsAnswered honest question records (without_commit a) × (after ≡ before)
IsAnsweredBy honest records question before after (Err fault_is.Disk) = Rose before after
IsAnsweredBy honest records question before after (Err (fault_is.Damaged name found)) =
    (content_asked (contents records) question ≡ Some name) × IsSpoiltIn honest (contents records) name found × (after ≡ before)
IsAnsweredBy honest records question before after (Err fault_is.Memory) = after ≡ before
IsAnsweredBy honest records question before after (Err fault) = ⊥

-- each question that found this is answered so
abbrev pub IsAnswerOf : Result (List ℕ) QueryFault → Due → Type 0
IsAnswerOf found result =
    (honest : Bool) (records : List Record) (question : Question) (before after : ℕ) →
    IsReported honest (contents records) question before after found → IsAnsweredBy honest records question before after result

-- ---- messages

-- what `ingest` answers of an input that was read
pub record IsIngestRun (input : Input) (answer : Printed) : Type 0 where
  pub read : List ℕ
  pub told : Agrees input.before.left read
  pub ingested : IsIngested read answer
  pub end : answer.status ≡ 0 → IsAtEnd input.after.left
  pub input_steady : IsInputSteady input
