-- The points that a session passes.
use Rattle.std.specs.Prelude.{◌≡◌, ℕ, Bool, true, false, List, [], ◌∷◌, ◌++◌, map, Option, option_map, Result, Ok, Err}
use Rattle.std.specs.List.{list_any}
use Rattle.fsl_disk.specs.Disk.{DiskState}
use Rattle.fsl_login.specs.declared.User.{User}
use Rattle.fsl_outside.specs.Connections.{LinkState}
use Rattle.fsl_outside.specs.declared.gate.Point.{Point}
use Rattle.fsl_outside.specs.declared.gate.Point.TheVariants as point
use Rattle.fsl_repo.specs.declared.Event.{Event}
use Rattle.fsl_repo.specs.declared.Event.TheVariants as event
use Rattle.fsl_serve.specs.declared.said.Halt.{Halt}
use Rattle.fsl_serve.specs.declared.said.SessionEnd.{SessionEnd}
use Rattle.fsl_serve.specs.declared.said.SessionEnd.TheVariants as end_as
use Rattle.fsl_serve.specs.Clocking.{AtMoment}
use Rattle.fsl_serve.specs.Session.{where_so}
use Rattle.fsl_serve.specs.Calls.{Call, Gains, asked}
use Rattle.fsl_serve.specs.Sessions.{IsSession}

-- points that were passed, each with the number of its session
abbrev pub Points : Type 0
Points = List (ℕ × Point)

-- an event that stands behind all arrivals and announcements of its session
abbrev pub is_late : Event → Bool
is_late event.Cluster = true
is_late (event.Build ask) = true
is_late event.Commit = true
is_late e = false

-- `Arrived` is passed where a call was made behind the arrivals and announcements, and only there
abbrev pub arrived : List Call → List Point
arrived made = where_so (list_any is_late (asked made)) (point.Arrived ∷ [])

-- `Answered` is passed where the reply was written whole, and only there
abbrev pub answered : SessionEnd → List Point
answered (end_as.Answered status) = point.Answered ∷ []
answered end = []

-- the points of a session with these calls and this end
abbrev pub points_of : List Call → SessionEnd → List Point
points_of made end = arrived made ++ answered end

-- a gate that tells its points tells these of the session with this number behind those before
abbrev pub Passes : Option Points → Option Points → ℕ → List Point → Type 0
Passes before after number points = after ≡ option_map (λ ps. ps ++ map (λ p. (number, p)) points) before

-- the point before the reply is passed where all that stands before the build was made, and else by the calls
abbrev pub reached : {X : Type 0} → Result X Halt → List Call → List Point
reached (Ok x) made = point.Arrived ∷ []
reached (Err h) made = arrived made

-- a session with these calls and this end, by what a link and a clock tell, before and after: the clock was asked for the session's
-- moment alone, and is as it was where the session has none
abbrev pub Serves : {K C : Type 0} → List User → List ℕ → (K → LinkState) × K × K → (C → Option (List ℕ)) × C × C → SessionEnd → List Call → Type 0
Serves users project link clock end made =
    AtMoment (clock.0 clock.1) (clock.0 clock.2) (λ moment. IsSession users project (link.0 link.1).present (link.0 link.2).present moment made end)

-- a session with its calls and its points, by what a disk, a pass, a link, a gate and a clock tell, the last four before and after
abbrev pub HasSession : {D P K G C : Type 0} → (D → DiskState) → List User → List ℕ → ℕ → (P → Option (List Call)) × P × P →
    (K → LinkState) × K × K → (G → Option Points) × G × G → (C → Option (List ℕ)) × C × C → SessionEnd → Type 0
HasSession tells users project number pass link gate clock end =
    Gains tells (pass.0 pass.1) (pass.0 pass.2)
    (λ made. Serves users project link clock end made × Passes (gate.0 gate.1) (gate.0 gate.2) number (points_of made end))
