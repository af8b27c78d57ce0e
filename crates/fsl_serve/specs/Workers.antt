-- What a worker did with the connections of its door.
use Rattle.std.specs.Prelude.{◌≡◌, ⊤, ℕ, ◌<◌, ◌≤◌, true, false, List, [], ◌∷◌, ◌++◌, ◌+◌, length, map, Option, option_map, option_to_list, Some, IfSome}
use Rattle.fsl_outside.specs.Connections.{Connection, Standing, LinkState, listed, HasBegun}
use Rattle.fsl_outside.specs.Memory.{next}
use Rattle.fsl_disk.specs.Disk.{DiskState}
use Rattle.fsl_login.specs.declared.User.{User}
use Rattle.fsl_serve.specs.declared.said.SessionEnd.{SessionEnd}
use Rattle.fsl_serve.specs.declared.work.Crew.{Crew}
use Rattle.fsl_serve.specs.declared.work.Work.{Work}
use Rattle.fsl_serve.specs.Calls.{Call, Gains}
use Rattle.fsl_serve.specs.Clocking.{AsksFor}
use Rattle.fsl_serve.specs.Sessions.{IsSession}
use Rattle.fsl_serve.specs.Points.{Points, points_of}

-- one connection as its session left it, the moment of the session's clock, its calls and its end
pub record Served : Type 0 where
  pub connection : Option Connection
  pub moment : Option ℕ
  pub made : List Call
  pub end : SessionEnd

-- from the moment when it had just begun, the connection had its one session
abbrev pub IsServed : List User → List ℕ → Served → Type 0
IsServed users project s = (begun : Option Connection) × HasBegun begun × IsSession users project begun s.connection s.moment s.made s.end

abbrev pub AllServed : List User → List ℕ → List Served → Type 0
AllServed users project [] = ⊤
AllServed users project (s ∷ more) = IsServed users project s × AllServed users project more

-- all their calls, in order
abbrev pub calls_of : List Served → List Call
calls_of [] = []
calls_of (s ∷ more) = s.made ++ calls_of more

-- all their moments, in order; a session that asked for none has none
abbrev pub moments_of : List Served → List ℕ
moments_of [] = []
moments_of (s ∷ more) = option_to_list s.moment ++ moments_of more

-- a door that lists its connections lists these behind the others
abbrev pub Lists : Option (List Connection) → Option (List Connection) → List Served → Type 0
Lists before after served = IfSome before (λ cs. (ds : List Connection) × (after ≡ Some (cs ++ ds)) × (map Some ds ≡ map (λ s. s.connection) served))

-- so many connections came, each had its session, and the door has its counts for an early end
pub record IsWorked {D : Type 0} (tells : D → DiskState) (users : List User) (project : List ℕ) (requests : ℕ) (p : Option Connection) (s : Standing) (q : Option Connection) (t : Standing) (told told' : Option (List Call)) (work : Work) : Type 0 where
  pub served : List Served
  pub count : length served ≡ work.sessions
  pub within : work.sessions ≤ requests
  pub each : AllServed users project served
  pub lists : Lists (listed s.earlier p) (listed t.earlier q) served
  pub calls : Gains tells told told' (λ made. made ≡ calls_of served)
  pub failed : work.failed ≡ true → t.accept_faults ≡ next s.accept_faults
  pub kept : work.failed ≡ true → t.closings ≡ s.closings
  pub not_failed : work.failed ≡ false → t.accept_faults ≡ s.accept_faults
  pub early : work.failed ≡ true → work.sessions < requests
  pub closed : work.failed ≡ false → work.sessions < requests → t.closings ≡ next s.closings
  pub not_closed : work.sessions ≡ requests → t.closings ≡ s.closings

-- the points of sessions one after another, whose numbers count from n
abbrev pub points_from : ℕ → List Served → Points
points_from n [] = []
points_from n (s ∷ more) = map (λ p. (n, p)) (points_of s.made s.end) ++ points_from (n + 1) more

-- the worker did this, its gate has the points of these sessions behind those before, numbered from 0, and its clock was asked for
-- their moments alone
pub record IsGated {D : Type 0} (tells : D → DiskState) (users : List User) (project : List ℕ) (requests : ℕ) (p : Option Connection) (s : Standing) (q : Option Connection) (t : Standing) (told told' : Option (List Call)) (work : Work) (before after : Option Points) (clock clock' : Option (List ℕ)) : Type 0 where
  pub worked : IsWorked tells users project requests p s q t told told' work
  pub passed : after ≡ option_map (λ ps. ps ++ points_from 0 worked.served) before
  pub clocked : AsksFor clock clock' (moments_of worked.served)

-- both by what a disk, doors, gates, clocks and a pass tell, and the crew and the pass before and after
abbrev pub HasWorked : {D A G C P : Type 0} → (D → DiskState) → List User → List ℕ → ℕ → (A → LinkState) × Crew A G C × Crew A G C → (P → Option (List Call)) × P × P → Work → Type 0
HasWorked tells users project requests crew pass work =
    let old = crew.0 crew.1.door in
    let new = crew.0 crew.2.door in
    IsWorked tells users project requests old.present old.standing new.present new.standing (pass.0 pass.1) (pass.0 pass.2) work

abbrev pub HasPassed : {D A G C P : Type 0} → (D → DiskState) → List User → List ℕ → ℕ → (A → LinkState) × (G → Option Points) × (C → Option (List ℕ)) × Crew A G C × Crew A G C →
    (P → Option (List Call)) × P × P → Work → Type 0
HasPassed tells users project requests crew pass work =
    let old = crew.0 crew.3.door in
    let new = crew.0 crew.4.door in
    IsGated tells users project requests old.present old.standing new.present new.standing (pass.0 pass.1) (pass.0 pass.2) work (crew.1 crew.3.gate) (crew.1 crew.4.gate) (crew.2 crew.3.clock) (crew.2 crew.4.clock)
