-- What the workers of all crews did.
use Rattle.std.specs.Prelude.{◌≡◌, ℕ, ◌<◌, List, Option, None, length, map, slice_index_or, sum}
use Rattle.fsl_disk.specs.Disk.{DiskState}
use Rattle.fsl_outside.specs.Connections.{Connection, Standing, LinkState}
use Rattle.fsl_login.specs.declared.User.{User}
use Rattle.fsl_repo.specs.Machine.{State}
use Rattle.fsl_serve.specs.declared.work.Crew.{Crew}
use Rattle.fsl_serve.specs.declared.work.Work.{Work}
use Rattle.fsl_serve.specs.Calls.{Call}
use Rattle.fsl_serve.specs.Points.{Points}
use Rattle.fsl_serve.specs.Workers.{IsWorked, IsGated}

-- one worker for each crew, in order, and what it did
abbrev pub AllWorked : {D X : Type 0} → (D → DiskState) → (X → Option Connection) → (X → Standing) → List User → List ℕ → ℕ → List Work → List X → List X → Type 0
AllWorked {X = X} tells present standing users project requests works xs ys =
    (length ys ≡ length xs) × (length works ≡ length xs)
    × ((i : ℕ) (d : X) (w : Work) → i < length xs → (o : Option (List Call)) × (o' : Option (List Call)) × IsWorked tells users project requests (present (slice_index_or xs i d)) (standing (slice_index_or xs i d)) (present (slice_index_or ys i d)) (standing (slice_index_or ys i d)) o o' (slice_index_or works i w))

-- at each place the worker did this, and the gate and the clock there have the points and the moments of that worker's sessions
abbrev pub AllGated : {D X : Type 0} → (D → DiskState) → (X → Option Connection) → (X → Standing) → (X → Option Points) → (X → Option (List ℕ)) → List User → List ℕ → ℕ → List Work → List X → List X → Type 0
AllGated {X = X} tells present standing passed clock users project requests works xs ys =
    (i : ℕ) (d : X) (w : Work) → i < length xs → (o : Option (List Call)) × (o' : Option (List Call)) × IsGated tells users project requests (present (slice_index_or xs i d)) (standing (slice_index_or xs i d)) (present (slice_index_or ys i d)) (standing (slice_index_or ys i d)) o o' (slice_index_or works i w) (passed (slice_index_or xs i d)) (passed (slice_index_or ys i d)) (clock (slice_index_or xs i d)) (clock (slice_index_or ys i d))

-- the first by the state of each door
abbrev pub AreWorked : {D X : Type 0} → (D → DiskState) → (X → LinkState) → List User → List ℕ → ℕ → List Work → List X → List X → Type 0
AreWorked {X = X} tells door users project requests works xs ys = AllWorked tells (λ x. (door x).present) (λ x. (door x).standing) users project requests works xs ys

-- both by what doors, gates and clocks tell
abbrev pub AreGated : {D A G C : Type 0} → (D → DiskState) → (A → LinkState) × (G → Option Points) × (C → Option (List ℕ)) →
    List User → List ℕ → ℕ → List Work → List (Crew A G C) → List (Crew A G C) → Type 0
AreGated tells crew users project requests works xs ys =
    AllGated tells (λ x. (crew.0 x.door).present) (λ x. (crew.0 x.door).standing) (λ x. crew.1 x.gate) (λ x. crew.2 x.clock) users project requests works xs ys

-- where it isn't stopped, all its records are committed
abbrev pub AreAllCommitted : State → Type 0
AreAllCommitted state = state.stopped ≡ None → state.committed ≡ length state.records

-- all their sessions
abbrev pub sessions_of : List Work → ℕ
sessions_of works = sum (map (λ w. w.sessions) works)
