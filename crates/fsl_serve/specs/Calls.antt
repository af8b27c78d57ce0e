-- The calls of a session: events with their answers.
use Rattle.std.specs.Prelude.{◌≡◌, ⊤, List, [], ◌∷◌, ◌++◌, map, Option, Some, None, IfSome, Err}
use Rattle.fsl_disk.specs.Disk.{DiskState}
use Rattle.fsl_repo.specs.declared.ArriveFault.TheVariants as arrive_fault
use Rattle.fsl_repo.specs.declared.Event.{Event}
use Rattle.fsl_repo.specs.declared.Answer.{Answer}
use Rattle.fsl_repo.specs.declared.Answer.TheVariants as answer
use Rattle.fsl_repo.specs.Whole.{Whole}
use Rattle.fsl_repo.specs.Onward.{MayStep}
use Rattle.fsl_serve.specs.declared.said.Halt.{Halt}
use Rattle.fsl_serve.specs.declared.said.Halt.TheVariants as halt

-- an event and its answer
abbrev pub Call : Type 0
Call = Event × Answer

abbrev pub asked : List Call → List Event
asked calls = map (λ c. c.0) calls

abbrev pub told : List Call → List Answer
told calls = map (λ c. c.1) calls

-- a repository over a disk of this type, whose states are told so, may answer so: between two of its states, each with its disk
pub record May {D : Type 0} (tells : D → DiskState) (e : Event) (a : Answer) : Type 0 where
  pub old : Whole D
  pub new : Whole D
  pub step : MayStep (tells old.disk) (tells new.disk) old e a new

abbrev pub AllMay : {D : Type 0} → (D → DiskState) → List Call → Type 0
AllMay tells [] = ⊤
AllMay tells (c ∷ cs) = May tells c.0 c.1 × AllMay tells cs

-- some calls were made, which a repository over such a disk may answer so, and which meet P; a pass that tells its calls tells these after those before
abbrev pub Gains : {D : Type 0} → (D → DiskState) → Option (List Call) → Option (List Call) → (List Call → Type 0) → Type 0
Gains tells before after P = (made : List Call) × IfSome before (λ calls. after ≡ Some (calls ++ made)) × AllMay tells made × P made

-- some calls were told behind those before, which meet P
abbrev pub Adds : List Call → List Call → (List Call → Type 0) → Type 0
Adds before after P = (made : List Call) × (after ≡ before ++ made) × P made

-- why no further event is made after an arrival, an announcement or a cluster with this answer
abbrev pub halt_of : Answer → Option Halt
halt_of (answer.Receive (Err (arrive_fault.Stopped faults))) = Some halt.Stopped
halt_of (answer.Receive (Err arrive_fault.Memory)) = Some halt.Memory
halt_of (answer.Announce (Err e)) = Some halt.Memory
halt_of (answer.Cluster (Err (arrive_fault.Stopped faults))) = Some halt.Stopped
halt_of (answer.Cluster (Err arrive_fault.Memory)) = Some halt.Memory
halt_of a = None

-- after each of these calls the session goes on
abbrev pub GoOn : List Call → Type 0
GoOn [] = ⊤
GoOn (c ∷ cs) = (halt_of c.1 ≡ None) × GoOn cs

-- of events that are due, all were made; or those up to the first whose answer halts, or up to where the session found no memory
pub data Phase (due : List Event) (made : List Call) (end : Option Halt) : Type 0 where
  all : GoOn made → due ≡ asked made → end ≡ None → Phase due made end
  upto : (front : List Call) (call : Call) (rest : List Event) (h : Halt) → made ≡ front ++ call ∷ [] → GoOn front → due ≡ asked made ++ rest → halt_of call.1 ≡ Some h → end ≡ Some h → Phase due made end
  short : (rest : List Event) → GoOn made → due ≡ asked made ++ rest → end ≡ Some halt.Memory → Phase due made end
