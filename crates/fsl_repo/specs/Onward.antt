-- The steps of a repository as those of a machine, and what each of them keeps: the records go on, and the state after it is later.
use Rattle.std.specs.Prelude.{◌≡◌, ◌≤◌, ◌⊎◌, Bool, true, false, List, ◌++◌, length, IsSome, None, Some, Result, Ok, Err}
use Rattle.fsl_order.specs.Causes.{Rose}
use Rattle.fsl_disk.specs.Disk.{DiskState, IsModelled, Keeps, Quiet, LeavesOnly}
use Rattle.fsl_record.specs.declared.Record.{Record}
use Rattle.fsl_journal.specs.Log.{Log, BeforeOrAll}
use Rattle.fsl_repo.specs.declared.ArriveFault.{ArriveFault}
use Rattle.fsl_repo.specs.declared.ArriveFault.TheVariants as arrive_fault
use Rattle.fsl_repo.specs.declared.ShunFault.TheVariants as shun_fault
use Rattle.fsl_repo.specs.declared.UnshunFault.TheVariants as unshun_fault
use Rattle.fsl_repo.specs.declared.BuildFault.TheVariants as build_fault
use Rattle.fsl_repo.specs.declared.Event.{Event}
use Rattle.fsl_repo.specs.declared.Event.TheVariants as event
use Rattle.fsl_repo.specs.declared.Answer.{Answer}
use Rattle.fsl_repo.specs.declared.Answer.TheVariants as answer
use Rattle.fsl_repo.specs.Machine.{State, ArriveStep, AnnounceStep, ShunStep, UnshunStep, ClusterStep, IsCommit}
use Rattle.fsl_repo.specs.Replies.{BuildStep}
use Rattle.fsl_repo.specs.Whole.{Seen, Whole, IsWholeOn, IsLater, stored, log_of}

-- the step of an event: an answer of its kind, and the state that it leaves
abbrev pub Step : State → Event → Answer → State → Type 0
Step old (event.Arrive name bytes private) (answer.Arrive result) new = ArriveStep old name None bytes private result new
Step old (event.Receive name bytes private receipt) (answer.Receive result) new = ArriveStep old name (Some receipt) bytes private result new
Step old (event.Announce name) (answer.Announce result) new = AnnounceStep old name result new
Step old (event.Shun name) (answer.Shun result) new = ShunStep old name result new
Step old (event.Unshun name) (answer.Unshun result) new = UnshunStep old name result new
Step old event.Cluster (answer.Cluster result) new = ClusterStep old result new
Step old (event.Build ask) (answer.Build result) new = BuildStep old ask result new
Step old event.Commit (answer.Commit result) new = IsCommit old.stopped old result new
Step old _ _ new = ⊥

-- what the step of an event does to the disk, which is the same where `same` holds: a commit leaves, at each moment, each image standing for the
-- committed records or for all, and calls no device where nothing is to be written or a commit has failed; a build only reads; no other event calls one
abbrev pub DiskStep : Event → DiskState → DiskState → Log → Type 0 → Type 0
DiskStep event.Commit before after log same =
    (IsModelled before → LeavesOnly before after (BeforeOrAll log)) × (IsSome log.stopped ⊎ (log.stable ≡ length log.records) → same)
DiskStep (event.Build ask) before after log same = Quiet before after
DiskStep _ before after log same = same

-- a step of a repository: both have what every repository has, the state and the disk make the step of the event, and the disk stays of its kind
pub record MayStep {D : Type 0} (before after : DiskState) (old : Whole D) (e : Event) (a : Answer) (new : Whole D) : Type 0 where
  pub old_whole : IsWholeOn before old
  pub new_whole : IsWholeOn after new
  pub step : Step old.seen.state e a new.seen.state
  pub loaded : new.seen.loaded ≡ old.seen.loaded
  pub keeps : Keeps before after
  pub disk : DiskStep e before after (log_of old) (new.disk ≡ old.disk)

-- a repository is later than another: its state is, what was loaded and what was committed still is, its disk is of the same kind, and the disk's count of
-- faults doesn't fall. It came to stop only where that count rose; a stopped one stays stopped by the same count, and nothing is written to its disk
pub record IsLaterOn {D : Type 0} (before after : DiskState) (old new : Whole D) : Type 0 where
  pub seen : IsLater old.seen new.seen
  pub loaded : new.seen.loaded ≡ old.seen.loaded
  pub committed : old.seen.state.committed ≤ new.seen.state.committed
  pub keeps : Keeps before after
  pub faults : before.faults ≤ after.faults
  pub stops : old.seen.state.stopped ≡ None → IsSome new.seen.state.stopped → Rose before.faults after.faults
  pub stays : IsSome old.seen.state.stopped → new.seen.state.stopped ≡ old.seen.state.stopped
  pub still : IsSome old.seen.state.stopped → Quiet before after

-- Law. Whatever the event and its answer
pub record StepsGoOn : Type 0 where
  pub grows : (old : State) (e : Event) (a : Answer) (new : State) → Step old e a new → (more : List Record) × (new.records ≡ old.records ++ more)
  pub later : (old new : Seen) (e : Event) (a : Answer) → old.loaded ≤ length old.state.records → new.loaded ≡ old.loaded → Step old.state e a new.state → IsLater old new
  pub same : (s : Seen) → IsLater s s
  pub through : (a b c : Seen) → IsLater a b → IsLater b c → IsLater a c
  pub never_falls : (a b : Seen) → IsLater a b → stored a ≤ stored b
  pub faults : (old : State) (e : Event) (a : Answer) (new : State) → Step old e a new → old.faults ≤ new.faults
  pub stops : (old : State) (e : Event) (a : Answer) (new : State) → Step old e a new → old.stopped ≡ None → IsSome new.stopped → Rose old.faults new.faults
  pub stays : (old : State) (e : Event) (a : Answer) (new : State) → Step old e a new → IsSome old.stopped → new.stopped ≡ old.stopped
  pub commits : (old : State) (e : Event) (a : Answer) (new : State) → Step old e a new → old.committed ≤ length old.records → old.committed ≤ new.committed

-- whether an answer is for want of memory
abbrev pub arriving_wants : {A : Type 0} → Result A ArriveFault → Bool
arriving_wants (Ok a) = false
arriving_wants (Err arrive_fault.Memory) = true
arriving_wants (Err _) = false

abbrev pub wants_memory : Answer → Bool
wants_memory (answer.Arrive result) = arriving_wants result
wants_memory (answer.Receive result) = arriving_wants result
wants_memory (answer.Announce (Err _)) = true
wants_memory (answer.Shun (Err shun_fault.Memory)) = true
wants_memory (answer.Unshun (Err unshun_fault.Memory)) = true
wants_memory (answer.Cluster result) = arriving_wants result
wants_memory (answer.Build (Err build_fault.Memory)) = true
wants_memory _ = false

-- Law. Each event has an answer that isn't for want of memory, and a state that it leaves
abbrev pub HasStep : Type 0
HasStep = (s : State) (e : Event) → (a : Answer) × (new : State) × Step s e a new × (wants_memory a ≡ false)
