-- The one history of all crews.
use Rattle.std.specs.Prelude.{◌≡◌, ℕ, ◌<◌, ◌≤◌, List, [], ◌∷◌, ◌++◌, Option, Some, length, slice_index_or}
use Rattle.fsl_disk.specs.Disk.{DiskState}
use Rattle.fsl_outside.specs.Connections.{LinkState}
use Rattle.fsl_login.specs.declared.User.{User}
use Rattle.fsl_repo.specs.declared.Event.{Event}
use Rattle.fsl_repo.specs.declared.Event.TheVariants as event
use Rattle.fsl_repo.specs.declared.Answer.{Answer}
use Rattle.fsl_repo.specs.Onward.{MayStep}
use Rattle.fsl_repo.specs.Whole.{Whole}
use Rattle.fsl_history.specs.Entries.{Entry, calls_by, IsHistory}
use Rattle.fsl_serve.specs.declared.work.Crew.{Crew}
use Rattle.fsl_serve.specs.declared.work.Work.{Work}
use Rattle.fsl_serve.specs.declared.crews.Served.{Served}
use Rattle.fsl_serve.specs.Points.{Points}
use Rattle.fsl_serve.specs.Workers.{IsGated}

-- one step of a repository, whose disk tells this state
abbrev pub steps_by : {D : Type 0} → (D → DiskState) → Whole D → Event → Answer → Whole D → Type 0
steps_by tells a e r b = MayStep (tells a.disk) (tells b.disk) a e r b

-- the last commit, which is no crew's: it has the number behind theirs
abbrev pub closing : ℕ → Answer → List (Entry Event Answer)
closing n answer = (n, event.Commit, answer) ∷ []

-- The steps of all sessions, one after another, and then one commit lead from the repository that came to the one that is handed
-- back. The steps with a crew's number are the calls of its sessions, in their order, and there are no others.
pub record IsOneHistory {D X : Type 0} (tells : D → DiskState) (door : X → LinkState) (passed : X → Option Points) (clock : X → Option (List ℕ)) (users : List User) (project : List ℕ) (requests : ℕ) (works : List Work) (xs ys : List X) (repo last : Whole D) : Type 0 where
  pub turns : List (Entry Event Answer)
  pub answer : Answer
  pub history : IsHistory (steps_by tells) repo (turns ++ closing (length xs) answer) last
  pub crew : (i : ℕ) (d : X) (w : Work) → i < length xs
      → IsGated tells users project requests (door (slice_index_or xs i d)).present (door (slice_index_or xs i d)).standing (door (slice_index_or ys i d)).present (door (slice_index_or ys i d)).standing
      (Some []) (Some (calls_by i turns)) (slice_index_or works i w) (passed (slice_index_or xs i d)) (passed (slice_index_or ys i d)) (clock (slice_index_or xs i d)) (clock (slice_index_or ys i d))
  pub others : (n : ℕ) → length xs ≤ n → calls_by n turns ≡ []

-- the same by what doors, gates and clocks tell
abbrev pub HasOneHistory : {D A G C : Type 0} → (D → DiskState) → (A → LinkState) × (G → Option Points) × (C → Option (List ℕ)) →
    List User → List ℕ → ℕ → List Work → List (Crew A G C) → List (Crew A G C) → Whole D → Whole D → Type 0
HasOneHistory tells crew users project requests works xs ys repo last =
    IsOneHistory tells (λ x. crew.0 x.door) (λ x. crew.1 x.gate) (λ x. crew.2 x.clock) users project requests works xs ys repo last

-- the same of what the crews left
abbrev pub LeavesOneHistory : {D A G C : Type 0} → (D → DiskState) → (A → LinkState) × (G → Option Points) × (C → Option (List ℕ)) →
    List User → List ℕ → ℕ → List (Crew A G C) → Whole D → Served D A G C → Type 0
LeavesOneHistory tells crew users project requests xs repo served =
    HasOneHistory tells crew users project requests served.works.items xs served.crews.items repo served.repo
