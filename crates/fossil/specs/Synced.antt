-- What a run of a command that syncs says of its status, its output, its files and its dial, by one reading of all that it read.
use Rattle.std.specs.Prelude.{[], ◌≡◌, ◌≢◌, ℕ, ◌+◌, ◌≤◌, ◌⊎◌, ◌==◌, ◌||◌, if◌then◌else◌, Bool, false, List, ◌∷◌, ◌++◌, length, Some, IsTrue, ⊤}
use Rattle.std.specs.Option.{option_map_or}
use Rattle.fsl_order.specs.Causes.{Rose}
use Rattle.fsl_outside.specs.Connections.{Connection, LinkState}
use Rattle.fsl_outside.specs.Streams.{SinkState}
use Rattle.fsl_record.specs.declared.Record.{Record}
use Rattle.fsl_disk.specs.Disk.{DiskState, IsModelled, Keeps, Quiet, LeavesOnly}
use Rattle.fsl_journal.specs.File.{IsFileOf, FailsAt}
use Rattle.fsl_journal.specs.Journal.{HeldOrSame, IsSpared}
use Rattle.fsl_http.specs.Responses.{Exchanged, IsBrokenOff, IsLeft}
use Rattle.fsl_repo.specs.Machine.{State}
use Rattle.fsl_repo.specs.Replies.{IsSpoilt}
use Rattle.fsl_repo.specs.Whole.{is_modelled}
use Rattle.fsl_pull.specs.Rounds.{Round, most_rounds}
use Rattle.fsl_pull.specs.Dialled.{Rounds, HasRounds, HasSent, Breaks}
use Rattle.fsl_pull.specs.Kept.{all_of_them, StandsForSome}
use Rattle.fsl_pull.specs.Calls.{Dialled, dialled}
use Rattle.fsl_words.specs.declared.Command.{Command}
use Rattle.fsl_words.specs.declared.Command.TheVariants.{Pull, Push, PullLocal}
use Rattle.fossil.specs.Printed.{Printed, damaged, disk_fault, link_fault, no_memory}
use Rattle.fossil.specs.Uses.{command_asks_peer, command_dials}
use Rattle.fossil.specs.Outcome.{Outcome, said, printed_of, not_repository}
use Rattle.fossil.specs.Run.{File, Agrees, IsNoRepository, IsWritten}
use Rattle.fossil.specs.Acts.{file_of, output_of, KeepsContents, KeepsImages, KeepsUnreadable}
use Rattle.fossil.specs.Syncs.{Honesty, IsPullOutcome, PullCommits, PullDue, IsPushOutcome, PushCommits, PushDue, PushSends, IsLocalOutcome, LocalCommits, LocalTakes}

-- ---- the outcome

-- what was read: the bytes of the file and of the peer's, whether each of their disks is honest, so that it tells its contents and meets the disk model, and
-- the rounds of the sync
pub record Read : Type 0 where
  pub file : List ℕ
  pub peer : List ℕ
  pub honest : Bool
  pub peer_honest : Bool
  pub rounds : Rounds

abbrev pub honesty : Read → Honesty
honesty r = (r.honest, r.peer_honest)

-- the file stands for records, by which the outcome is told; or the place at which it doesn't is told, and there is no round
abbrev pub IsLoadedBy : (List Record → Outcome → Type 0) → Read → Outcome → Type 0
IsLoadedBy ByRecords r o =
    ((at : ℕ) × FailsAt r.file at × (r.rounds ≡ []) × (o ≡ not_repository at)) ⊎ ((records : List Record) × IsFileOf r.file records × ByRecords records o)

-- the outcome of a command that syncs
abbrev pub IsSyncOutcome : Command → Read → Outcome → Type 0
IsSyncOutcome (Pull address login) r o = IsLoadedBy (IsPullOutcome r.honest login r.rounds) r o
IsSyncOutcome (Push address login) r o = IsLoadedBy (IsPushOutcome r.honest login r.rounds) r o
IsSyncOutcome (PullLocal path) r o = (r.rounds ≡ []) × IsLoadedBy (IsLocalOutcome (honesty r) r.peer) r o
IsSyncOutcome command r o = ⊥

-- the commits of rounds that all went on
abbrev pub AreCommitsSoFar : Command → Read → List (List Record) → Type 0
AreCommitsSoFar (Pull address login) r commits = (records : List Record) × IsFileOf r.file records × PullCommits r.honest login r.rounds records commits
AreCommitsSoFar (Push address login) r commits = (records : List Record) × IsFileOf r.file records × PushCommits r.honest login r.rounds records commits
AreCommitsSoFar (PullLocal path) r commits = (r.rounds ≡ []) × ((records : List Record) × IsFileOf r.file records × LocalCommits (honesty r) r.peer records commits)
AreCommitsSoFar command r commits = ⊥

-- the commits that a run comes to, whether its sync has its end or was cut off: of an outcome, or of rounds that all went on
abbrev pub AreCommits : Command → Read → List (List Record) → Type 0
AreCommits command r commits = ((o : Outcome) × IsSyncOutcome command r o × (commits ≡ o.commits)) ⊎ AreCommitsSoFar command r commits

-- behind these rounds, which all went on, this body is asked
abbrev pub IsDue : Command → Read → List ℕ → Type 0
IsDue (Pull address login) r body = (records : List Record) × IsFileOf r.file records × PullDue r.honest login r.rounds records body
IsDue (Push address login) r body = (records : List Record) × IsFileOf r.file records × PushDue r.honest login r.rounds records body
IsDue command r body = ⊥

-- behind rounds that all went on and come to these commits a content is to be read; this is said of its name and of the repository that holds it: a push sends
-- files, and a pull from a peer's file takes the peer's
abbrev pub ReadsContent : Command → Read → List (List Record) → (List ℕ → State → Type 0) → Type 0
ReadsContent (Push address login) r commits Says =
    (records : List Record) × IsFileOf r.file records
    × PushSends r.honest login r.rounds records (λ name p. (commits ≡ p.commits) × Says name p.state)
ReadsContent (PullLocal path) r commits Says =
    (records : List Record) × IsFileOf r.file records
    × LocalTakes (honesty r) r.peer records (λ name peer p. (commits ≡ p.commits) × Says name peer)
ReadsContent command r commits Says = ⊥

-- ---- what a command uses

-- whether words say a command that reads the peer's file, and one that uses the dial
abbrev pub asks_peer : List (List ℕ) → Bool
asks_peer words = option_map_or command_asks_peer (said words) false

abbrev pub dials : List (List ℕ) → Bool
dials words = option_map_or command_dials (said words) false

-- ---- what a run is handed and leaves

-- the disks of the two files, and the dial
pub record Objects : Type 1 where
  pub file : File
  pub peer : File
  pub dial : Dialled

-- ---- the answer

-- as a disk of which nothing was asked: its file is as it was, no moment passed, and no call failed
pub record IsUntouched (file : File) : Type 0 where
  pub quiet : Quiet file.before file.after
  pub moment : file.after.moment ≡ file.before.moment
  pub faults : file.after.faults ≡ file.before.faults

-- a request is due behind the rounds, so many connections more are within the limit, and one that broke off took the request or a front of it
pub record IsCutOff (command : Command) (r : Read) (BreaksOff : Breaks) (broken : List Connection) (more : ℕ) : Type 0 where
  pub due : (body : List ℕ) × IsDue command r body
  pub few : length r.rounds + more ≤ most_rounds
  pub sent : HasSent BreaksOff broken (IsDue command r)

-- the rounds but the last all went on, and come to these commits
abbrev pub AreCommitsBefore : Command → Read → List (List Record) → Type 0
AreCommitsBefore command r done =
    (front : Rounds) × (last : Round (List ℕ) Exchanged) × (r.rounds ≡ front ++ last ∷ []) × AreCommitsSoFar command (record r { rounds = front }) done

-- a call of the file's disk was due: no round was read, so that it was to be loaded; or the last round has something to commit; or a content of it is to be
-- read. The rounds of a pull from a peer's file aren't told: the peer's is as one of which nothing was asked, which no body shows of every disk once it asked;
-- or there is something to commit
abbrev pub IsFileDue : Command → Read → List (List Record) → File → Type 0
IsFileDue (PullLocal path) r commits peer = IsUntouched peer ⊎ (commits ≢ [])
IsFileDue command r commits peer =
    (r.rounds ≡ []) ⊎ (((done : List (List Record)) × AreCommitsBefore command r done × (commits ≢ done)) ⊎ ReadsContent command r commits (λ name s. ⊤))

-- the count of one disk rose, and not that of the other, and a call of it was due: that of the file; or that of the peer's, for a command that reads it,
-- which is loaded before anything is committed, or of which a content is to be read
abbrev pub HasFailed : Command → Read → List (List Record) → Objects → Type 0
HasFailed command r commits x =
    (Rose x.file.before.faults x.file.after.faults × (IsTrue (command_asks_peer command) → x.peer.after.faults ≡ x.peer.before.faults)
    × IsFileDue command r commits x.peer)
    ⊎ (IsTrue (command_asks_peer command) × Rose x.peer.before.faults x.peer.after.faults × (x.file.after.faults ≡ x.file.before.faults)
    × ((commits ≡ []) ⊎ ReadsContent command r commits (λ name s. ⊤)))

-- a content is to be read, and the bytes that were read for it have another name, which is never so over an honest disk
abbrev pub IsDamaged : Command → Read → List (List Record) → List ℕ → List ℕ → Type 0
IsDamaged command r commits name found = ReadsContent command r commits (λ asked s. (asked ≡ name) × IsSpoilt s name found)

-- a fault has its status and its line, its object's count rose, and a call of it was due; a damaged content is told with both names; want of memory has no cause
abbrev pub IsFaulted : Command → Read → List Connection → List (List Record) → Objects → (Printed → Type 0) → Type 0
IsFaulted command r broken commits x Tells =
    ((broken ≡ []) × HasFailed command r commits x × Tells disk_fault)
    ⊎ ((Rose x.dial.faults_before x.dial.faults_after × IsCutOff command r IsBrokenOff broken 1 × Tells link_fault)
    ⊎ ((((broken ≡ []) ⊎ IsCutOff command r IsLeft broken (length broken)) × Tells no_memory)
    ⊎ ((name found : List ℕ) × (broken ≡ []) × IsDamaged command r commits name found × Tells (damaged name found))))

-- what is told is the outcome over what was read, where no connection broke off; or a fault
abbrev pub IsAnswer : Command → Read → List Connection → List (List Record) → Objects → (Printed → Type 0) → Type 0
IsAnswer command r broken commits x Tells =
    ((o : Outcome) × (broken ≡ []) × IsSyncOutcome command r o × (o.commits ≡ commits) × Tells (printed_of o))
    ⊎ IsFaulted command r broken commits x Tells

-- ---- the files

-- a status behind which the last commit may not be there: the disk failed, or there was no memory
abbrev pub is_cut : ℕ → Bool
is_cut status = (status == 4) || (status == 9)

-- how far the commits came, with the due one and without it
pub record Far : Type 0 where
  pub done : List (List Record)
  pub due : List (List Record)

-- where the last round wasn't committed: the commits of the rounds before it, and all. The rounds of a pull from a peer's file aren't told: all commits but at
-- most the last one, and all
abbrev pub AreCutOff : Command → Read → List (List Record) → Far → Type 0
AreCutOff (PullLocal path) r commits far =
    ((more : List (List Record)) × (commits ≡ far.done ++ more) × (length more ≤ 1)) × (far.due ≡ commits)
AreCutOff command r commits far = AreCommitsBefore command r far.done × (far.due ≡ commits)

-- all commits were made, or behind a cut perhaps all but that of the last round
abbrev pub AreMade : Command → Read → ℕ → List Connection → List (List Record) → Far → Type 0
AreMade command r status broken commits far =
    ((far.done ≡ commits) × (far.due ≡ commits)) ⊎ (IsTrue (is_cut status) × (broken ≡ []) × AreCutOff command r commits far)

-- the bytes stand for the old records and these commits
abbrev pub StandsForAll : List Record → List (List Record) → List ℕ → Type 0
StandsForAll old commits bytes = IsFileOf bytes (old ++ all_of_them commits)

-- they stand for the old records and the commits that were made; where one failed, with it or without it
abbrev pub StandsAsFar : ℕ → List Record → Far → List ℕ → Type 0
StandsAsFar status old far bytes = StandsForAll old far.done bytes ⊎ ((status ≡ 4) × StandsForAll old far.due bytes)

-- each image stands for these records
abbrev pub AreImagesOf : List Record → (List ℕ → Type 0) → Type 0
AreImagesOf records images = (c : List ℕ) → images c → IsFileOf c records

-- where it is told, the file that is left stands for the old records and the commits that were made; of a disk that failed this is known by the disk
-- model alone
abbrev pub IsFileLeft : File → List ℕ → ℕ → Far → Type 0
IsFileLeft file bytes status far =
    (old : List Record) (held : List ℕ) → file.before.contents ≡ Some bytes → file.after.contents ≡ Some held → IsFileOf bytes old →
    (status ≡ 4 → Rose file.before.faults file.after.faults → IsTrue file.before.is_model) → StandsAsFar status old far held

-- what a crash at any moment may leave of the commits: those that were made, and where the disk failed the due one
abbrev pub reached : ℕ → Far → List (List Record)
reached status far = if status == 4 then far.due else far.done

-- whatever moment a crash comes at, it leaves the old records followed by some first commits
abbrev pub IsWholeAtAnyMoment : File → List (List Record) → Type 0
IsWholeAtAnyMoment file commits =
    IsModelled file.before → (old : List Record) → AreImagesOf old file.before.images → LeavesOnly file.before file.after (StandsForSome old commits)

-- it may be that the file wasn't loaded: there was no memory, or its own disk failed
abbrev pub MayBeUnloaded : File → ℕ → Type 0
MayBeUnloaded file status = (status ≡ 9) ⊎ ((status ≡ 4) × Rose file.before.faults file.after.faults)

-- the bytes stand for the old records and the commits that were made; with no commit, where the file may not have been loaded, they may be what a crash might
-- have left before the run
abbrev pub StandsOrWasLeft : File → ℕ → List Record → Far → List ℕ → Type 0
StandsOrWasLeft file status old far c = StandsAsFar status old far c ⊎ (MayBeUnloaded file status × (far.due ≡ []) × file.before.images c)

-- a crash after the run leaves such bytes, whatever one before it might have left
abbrev pub IsDurable : File → List ℕ → ℕ → Far → Type 0
IsDurable file bytes status far =
    IsModelled file.before → file.before.contents ≡ Some bytes → (old : List Record) → IsFileOf bytes old → (c : List ℕ) → file.after.images c →
    StandsOrWasLeft file status old far c

-- a file that is no repository stays as it is, at each moment and whatever the status
abbrev pub IsRefusedKept : File → List ℕ → Type 0
IsRefusedKept file bytes = file.before.contents ≡ Some bytes → IsNoRepository bytes → Quiet file.before file.after

-- the peer's file is loaded and nothing more, which cuts the bytes behind its closed gate: what it stands for stays, at each moment, and unless its
-- own count rose; and one that is no repository stays as it is
pub record IsPeerKept (peer : File) : Type 0 where
  pub contents : Rose peer.before.faults peer.after.faults ⊎ KeepsContents peer.before peer.after
  -- it holds what it held, or a file of the records that this stood for
  pub spared : IsSpared peer.before peer.after
  pub any_moment : KeepsImages peer.before peer.after
  pub harmless : IsModelled peer.before → LeavesOnly peer.before peer.after (HeldOrSame peer.before)
  pub unreadable : KeepsUnreadable peer.before peer.after
  pub keeps : Keeps peer.before peer.after

-- ---- a run

-- a run that had these rounds: by one reading of its files, and by the commits that it comes to
pub record SyncsBy (command : Command) (x : Objects) (Tells : Printed → Type 0) (status : ℕ) (rounds : Rounds) (broken : List Connection) (r : Read)
    (commits : List (List Record)) : Type 0 where
  -- what was read is what was told
  pub file_told : Agrees x.file.before.contents r.file
  pub peer_told : Agrees x.peer.before.contents r.peer
  pub rounds_are : r.rounds ≡ rounds
  pub honest : r.honest ≡ is_modelled x.file.before
  pub peer_honest : r.peer_honest ≡ is_modelled x.peer.before
  -- the rounds come to these commits, or there was none
  pub led : AreCommits command r commits ⊎ ((rounds ≡ []) × (commits ≡ []))
  pub answer : IsAnswer command r broken commits x Tells
  -- how many of them were made
  pub far : Far
  pub are_made : AreMade command r status broken commits far
  pub contents : IsFileLeft x.file r.file status far
  pub kept : IsRefusedKept x.file r.file
  pub any_moment : IsWholeAtAnyMoment x.file (reached status far)
  pub durable : IsDurable x.file r.file status far
  pub keeps : Keeps x.file.before x.file.after
  pub peer : IsTrue (command_asks_peer command) → IsPeerKept x.peer
  -- a peer's file is looked at only behind a file that stands for records
  pub unasked : x.file.before.contents ≡ Some r.file → IsNoRepository r.file → IsUntouched x.peer
  -- no call of a disk or of the dial failed but that with which the sync ended
  pub disk : status ≢ 4 → (x.file.after.faults ≡ x.file.before.faults) × (IsTrue (command_asks_peer command) → x.peer.after.faults ≡ x.peer.before.faults)
  pub dial : status ≢ 7 → x.dial.faults_after ≡ x.dial.faults_before

-- the connections that the dial's list grew by are the rounds, and perhaps one that broke off
abbrev pub HasSynced : Command → Objects → (Printed → Type 0) → ℕ → Type 0
HasSynced command x Tells status =
    HasRounds x.dial.before x.dial.after
    (λ rounds broken. (r : Read) × (commits : List (List Record)) × SyncsBy command x Tells status rounds broken r commits)

-- each object before and after
abbrev pub objects_of : DiskState × DiskState → DiskState × DiskState → LinkState × LinkState → Objects
objects_of file peer dial = record { file = file_of file; peer = file_of peer; dial = dialled dial.0 dial.1 }

-- what is told was written
abbrev pub Syncs : Command → DiskState × DiskState → DiskState × DiskState → LinkState × LinkState → SinkState × SinkState → ℕ → Type 0
Syncs command file peer dial out status = HasSynced command (objects_of file peer dial) (λ o. IsWritten o (output_of out) status) status
