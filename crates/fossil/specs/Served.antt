-- What a serve answers: the first of its cases that holds, its line, and what it leaves.
use Rattle.std.specs.Prelude.{[], ◌≡◌, ℕ, ◌+◌, ◌<◌, ◌≤◌, ◌⊎◌, List, ◌++◌, length, Option, Some, None, IfSome, is_some, option_and_then, if◌then◌else◌, codes, decimal}
use Rattle.std.specs.List.{list_any}
use Rattle.std.specs.Option.{option_map_or}
use Rattle.std.specs.Io.KnownBytes.{Consumes, IsAtEnd}
use Rattle.fsl_order.specs.Causes.{Rose}
use Rattle.fsl_disk.specs.Disk.{DiskState, IsModelled, Told, Keeps, Quiet, LeavesOnly}
use Rattle.fsl_record.specs.declared.Record.{Record}
use Rattle.fsl_journal.specs.File.{FailsAt}
use Rattle.fsl_journal.specs.Journal.{HeldOrSame}
use Rattle.fsl_journal.specs.Log.{StandsBetween}
use Rattle.fsl_journal.specs.declared.LoadFault.{LoadFault}
use Rattle.fsl_journal.specs.declared.LoadFault.TheVariants as load_fault
use Rattle.fsl_blobs.specs.Fold.{contents}
use Rattle.fsl_repo.specs.Whole.{Whole, IsWholeOn, blobs}
use Rattle.fsl_repo.specs.Onward.{IsLaterOn}
use Rattle.fsl_repo.specs.Opening.{IsOpened, OpenFailed}
use Rattle.fsl_words.specs.declared.Command.{Command}
use Rattle.fsl_words.specs.declared.Command.TheVariants as command_of
use Rattle.fsl_text.specs.Limits.{most_of_users}
use Rattle.fsl_login.specs.declared.User.{User}
use Rattle.fsl_login.specs.UserFiles.{IsUsersFile, IsFirstBadLine}
use Rattle.fsl_serve.specs.declared.work.Work.{Work}
use Rattle.fsl_serve.specs.Crews.{sessions_of, AreAllCommitted}
use Rattle.fossil.specs.Printed.{Printed, with_text, line_of, disk_fault, input_fault, link_fault, no_memory}
use Rattle.fossil.specs.Printed as printing
use Rattle.fossil.specs.Outcome.{said, printed_of, not_repository}
use Rattle.fossil.specs.Run.{Input, Output, IsWritten}

-- ---- the words

-- how many workers there are to be, and how many connections for each
pub record Serving : Type 0 where
  pub workers : ℕ
  pub requests : ℕ

-- what a serve asks; another command is none
abbrev pub serving_of : Command → Option Serving
serving_of (command_of.Serve address users workers requests) = Some (record { workers = workers; requests = requests })
serving_of command = None

-- what words ask of a serve; none where they are outside the grammar or another command
abbrev pub serving_in : List (List ℕ) → Option Serving
serving_in words = option_and_then serving_of (said words)

-- one crew for each worker
abbrev pub AreStaffed : List (List ℕ) → ℕ → Type 0
AreStaffed words crews = (0 < crews) × (crews ≤ 16) × IfSome (serving_in words) (λ s. crews ≡ s.workers)

-- ---- what it is handed and leaves

-- the repository, or the disk where none was loaded
pub data Left (D : Type 0) : Type 0 where
  Loaded : Whole D → Left D
  Unloaded : D → Left D

-- no read of the users file failed
abbrev pub IsQuiet : Input → Type 0
IsQuiet users = users.after.faults ≡ users.before.faults

-- these bytes of the users file were read: to its end, or more than 2^20 and at most one piece of 65,536 more
pub record IsUsersRead (users : Input) (bytes : List ℕ) : Type 0 where
  pub bytes_read : Consumes users.before.left users.after.left bytes
  pub far : IsAtEnd users.after.left ⊎ (most_of_users < length bytes)
  pub few : length bytes ≤ most_of_users + 65536
  pub quiet : IsQuiet users

-- it was read to its end, and is the file of these users
pub record IsUsers (users : Input) (these : List User) : Type 0 where
  pub bytes : List ℕ
  pub read : IsUsersRead users bytes
  pub at_end : IsAtEnd users.after.left
  pub form : IsUsersFile bytes these

-- the loading leaves a disk of the same kind, and a crash during it does no harm: what stood between two lists of records still does, what stood for
-- records stands for them or is what it was, and a file that stands for none stays
pub record IsSafe (before after : DiskState) : Type 0 where
  pub keeps : Keeps before after
  pub any_moment : IsModelled before → (low high : List Record) → ((c : List ℕ) → before.images c → StandsBetween low high c) →
      LeavesOnly before after (StandsBetween low high)
  pub harmless : IsModelled before → LeavesOnly before after (HeldOrSame before)
  pub refused : Told before (λ held. (at : ℕ) → FailsAt held at → Quiet before after)

-- the project code of the Config record
abbrev pub project_of : List Record → List ℕ
project_of records = option_map_or (λ c. c.project) (contents records).config []

-- ---- what is due to be said

-- a users file with a bad line
abbrev pub bad_users : ℕ → Printed
bad_users n = printing.refused (codes "users line " ++ decimal n)

-- a file that wasn't loaded
abbrev pub not_loaded : LoadFault → Printed
not_loaded (load_fault.NotRepository at) = printed_of (not_repository at)
not_loaded load_fault.Disk = disk_fault
not_loaded load_fault.Memory = no_memory

-- the two lines of a serve
abbrev pub served_text : ℕ → ℕ → List ℕ
served_text sessions stored = line_of (codes "sessions " ++ decimal sessions) ++ line_of (codes "stored " ++ decimal stored)

-- after the workers: a stopped repository first, then a failed accept, then the report
abbrev pub worked : Option ℕ → List Work → ℕ → Printed
worked stopped works stored =
    if is_some stopped then disk_fault
    else if list_any (λ w. w.failed) works then link_fault
    else with_text 0 (served_text (sessions_of works) stored)

-- ---- the cases

-- what workers do, by their users, their project, the connections for each, what each did, and the repository before and after
abbrev pub Workers : Type 0 → Type 1
Workers D = List User → List ℕ → ℕ → List Work → Whole D → Whole D → Type 0

-- why there are no users, and what is due then: a read failed, there was no memory, or the file has a bad line
pub data AreNoUsers (users : Input) (o : Printed) : Type 0 where
  failed : Rose users.before.faults users.after.faults → o ≡ input_fault → AreNoUsers users o
  unread : IsQuiet users → o ≡ no_memory → AreNoUsers users o
  bad : (bytes : List ℕ) (n : ℕ) → IsUsersRead users bytes → IsFirstBadLine bytes n → o ≡ bad_users n → AreNoUsers users o

-- from the loaded repository to the one that is left: its records go on, it is stopped only where its disk failed and else all is committed, and the workers
-- served these users under its project
pub record HasServed {D : Type 0} (tells : D → DiskState) (Worked : Workers D) (users : List User) (requests : ℕ) (first last : Whole D)
    (o : Printed) : Type 0 where
  pub later : IsLaterOn (tells first.disk) (tells last.disk) first last
  pub whole : IsWholeOn (tells last.disk) last
  pub settled : AreAllCommitted last.seen.state
  pub works : List Work
  pub worked_so : Worked users (project_of first.seen.state.records) requests works first last
  pub says : o ≡ worked last.seen.state.stopped works (blobs later.seen.more)

-- what became of a loaded repository, and what is due then: there was no memory for the workers, or they ran
pub data ServesLoaded {D X : Type 0} (tells : D → DiskState) (Worked : Workers D) (first : Whole D) (left : Left D) (crews crews_left : List X)
    (users : List User) (requests : ℕ) (o : Printed) : Type 0 where
  unstaffed : left ≡ Loaded first → crews_left ≡ crews → o ≡ no_memory → ServesLoaded tells Worked first left crews crews_left users requests o
  served : (last : Whole D) → left ≡ Loaded last → HasServed tells Worked users requests first last o →
      ServesLoaded tells Worked first left crews crews_left users requests o

-- what became of a disk, and what is due then: it wasn't loaded, or it was, and the repository was served
pub data ServesDisk {D X : Type 0} (tells : D → DiskState) (Worked : Workers D) (disk : D) (left : Left D) (crews crews_left : List X)
    (users : List User) (requests : ℕ) (o : Printed) : Type 0 where
  unloaded : (rest : D) (fault : LoadFault) → left ≡ Unloaded rest → crews_left ≡ crews → OpenFailed fault (tells disk) (tells rest) →
      IsSafe (tells disk) (tells rest)
      → o ≡ not_loaded fault → ServesDisk tells Worked disk left crews crews_left users requests o
  loaded : (first : Whole D) → IsOpened (tells disk) (tells first.disk) first → IsSafe (tells disk) (tells first.disk)
      → ServesLoaded tells Worked first left crews crews_left users requests o → ServesDisk tells Worked disk left crews crews_left users requests o

-- the same with the users: there are none, and disk and crews are untouched; or there are, and the disk was served to them
pub data Serves {D X : Type 0} (tells : D → DiskState) (Worked : Workers D) (users : Input) (disk : D) (left : Left D) (crews crews_left : List X)
    (requests : ℕ) (o : Printed) : Type 0 where
  no_users : AreNoUsers users o → left ≡ Unloaded disk → crews_left ≡ crews → Serves tells Worked users disk left crews crews_left requests o
  to_users : (these : List User) → IsUsers users these → ServesDisk tells Worked disk left crews crews_left these requests o →
      Serves tells Worked users disk left crews crews_left requests o

-- the same with the words: they are no serve, and nothing is touched; or they are
pub data Ends {D X : Type 0} (tells : D → DiskState) (Worked : Workers D) (words : List (List ℕ)) (users : Input) (disk : D) (left : Left D)
    (crews crews_left : List X) (o : Printed) : Type 0 where
  no_serve : serving_in words ≡ None → users.after ≡ users.before → left ≡ Unloaded disk → crews_left ≡ crews → o ≡ printing.usage
      → Ends tells Worked words users disk left crews crews_left o
  serve : (asked : Serving) → serving_in words ≡ Some asked → Serves tells Worked users disk left crews crews_left asked.requests o →
      Ends tells Worked words users disk left crews crews_left o

-- what is due is said, or want of memory in its place
abbrev pub Says : (Printed → Type 0) → Output → ℕ → Type 0
Says IsDue out status = (o : Printed) × IsDue o × (IsWritten o out status ⊎ IsWritten no_memory out status)
