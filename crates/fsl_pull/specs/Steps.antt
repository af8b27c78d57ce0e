-- What the code says of the names that are next, of an end, and of a commit.
use Rattle.std.specs.Prelude.{◌≡◌, ◌≢◌, ◌⊎◌, ℕ, ◌||◌, Bool, not, List, [], length, Option, Some, None, Result, Ok, Err, ⊤, if◌then◌else◌}
use Rattle.std.specs.List.{list_all}
use Rattle.std.specs.Option.{option_map_or}
use Rattle.std.specs.List.Sorted.{IsStrictlySortedBy}
use Rattle.fsl_order.specs.Causes.{Rose}
use Rattle.fsl_order.specs.Names.{bytes_cmp, has}
use Rattle.fsl_disk.specs.Disk.{DiskState, IsModelled, LeavesOnly}
use Rattle.fsl_journal.specs.Log.{Log, BeforeOrAll}
use Rattle.fsl_journal.specs.declared.CommitFault.{CommitFault}
use Rattle.fsl_journal.specs.declared.CommitFault.TheVariants as commit_fault
use Rattle.fsl_repo.specs.Machine.{State, now, wants}
use Rattle.fsl_repo.specs.Whole.{Seen}
use Rattle.fsl_pull.specs.declared.PullFault.{PullFault}
use Rattle.fsl_pull.specs.declared.next.Step.{Step}
use Rattle.fsl_pull.specs.declared.next.Step.TheVariants as step_is
use Rattle.fsl_pull.specs.Pulls.{next_names, missing, missing_fault}

-- a round that asks for the next names, or the end
abbrev pub step_by : List (List ℕ) → Bool → List (List ℕ) → List (List ℕ) → Step
step_by asked moved told next =
    if moved || not (list_all (has asked) next) then step_is.On next else step_is.End (missing next told)

abbrev pub step_of : List (List ℕ) → Bool → List (List ℕ) → Seen → Step
step_of asked moved told seen = step_by asked moved told (next_names (now seen.state) (wants (now seen.state) seen.items) told)

-- the names of a round rise
abbrev pub Rises : Step → Type 0
Rises (step_is.On names) = IsStrictlySortedBy bytes_cmp names
Rises (step_is.End name) = ⊤

abbrev pub NamesRise : Option (List (List ℕ)) → Type 0
NamesRise None = ⊤
NamesRise (Some names) = IsStrictlySortedBy bytes_cmp names

-- the names of the round that follows, or none at the end, or a fault there
abbrev pub answer_by : (Option (List ℕ) → Option PullFault) → Step → Result (Option (List (List ℕ))) PullFault
answer_by finish (step_is.On names) = Ok (Some names)
answer_by finish (step_is.End gone) = option_map_or (λ why. Err why) (finish gone) (Ok None)

-- at the end of a pull a name is missing, or none
abbrev pub step_answer : Step → Result (Option (List (List ℕ))) PullFault
step_answer step = answer_by missing_fault step

-- at the end of a pull from another repository nothing is missing
abbrev pub local_answer : Step → Option (List (List ℕ))
local_answer (step_is.On names) = Some names
local_answer (step_is.End _) = None

-- the log of a state that runs
abbrev pub log_in : State → Log
log_in s = record { records = s.records; places = []; stable = s.committed; stopped = s.stopped; mark = 0; place = 0 }

-- a commit of a repository that runs: all records are committed, or there are some to commit, the disk failed, and it is stopped; and at each moment
-- the file stands for those committed before or for all
pub record IsCommitted (before after : DiskState) (old new : Seen) (result : Result (Unit {0}) CommitFault) : Type 0 where
  pub loaded : new.loaded ≡ old.loaded
  pub state : ((result ≡ Ok tt) × (new.state ≡ record old.state { committed = length old.state.records }))
      ⊎ ((result ≡ Err commit_fault.Disk) × Rose old.state.faults new.state.faults
      × (new.state ≡ record old.state { stopped = Some new.state.faults; faults = new.state.faults })
      × (old.state.committed ≢ length old.state.records))
  pub moments : IsModelled before → LeavesOnly before after (BeforeOrAll (log_in old.state))
