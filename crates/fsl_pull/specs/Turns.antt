-- What the code says of one round, by where the sync stood before it.
use Rattle.std.specs.Prelude.{◌≡◌, ◌⊎◌, ℕ, ◌+◌, ◌<◌, ◌≤◌, List, ◌++◌, length, Option, Some, None, Result, Ok, Err}
use Rattle.fsl_order.specs.Causes.{Rose}
use Rattle.fsl_disk.specs.Disk.{DiskState, IsModelled, LeavesOnly}
use Rattle.fsl_outside.specs.Connections.{LinkState}
use Rattle.fsl_record.specs.declared.Record.{Record}
use Rattle.fsl_http.specs.Responses.{Exchanged, IsLeft}
use Rattle.fsl_http.specs.Exchanges.{HasJoined, IsExchangeOf}
use Rattle.fsl_repo.specs.Machine.{State}
use Rattle.fsl_repo.specs.Whole.{front}
use Rattle.fsl_pull.specs.declared.PullFault.{PullFault}
use Rattle.fsl_pull.specs.declared.PullFault.TheVariants as fault
use Rattle.fsl_pull.specs.Rounds.{Round, Point, End, Then, goes_on, ends, Course, Broken, Asks, state_of}
use Rattle.fsl_pull.specs.Kept.{all_of_them, StandsForSome}
use Rattle.fsl_pull.specs.Taking.{IsRefusal}
use Rattle.fsl_pull.specs.Asking.{IsIdle, IsLinkLost}

-- the commits behind a round, and the count
abbrev pub commits_of : {M : Type 0} → Then M → List (List Record)
commits_of (goes_on p) = p.commits
commits_of (ends e) = e.commits

abbrev pub count_of : {M : Type 0} → Then M → ℕ
count_of (goes_on p) = p.count
count_of (ends e) = e.count

-- the committed records of a state are those that were there and those of the commits
abbrev pub AreCommitted : List Record → State → List (List Record) → Type 0
AreCommitted base s commits = front s ≡ base ++ all_of_them commits

-- what a round leaves of the file: nothing was committed or written; or at each moment it stands for what was there and some first commits, where each image
-- before it did
abbrev pub IsKeptBy : {M : Type 0} → DiskState → DiskState → Type 0 → Point M → Then M → Type 0
IsKeptBy before after Still p step =
    (Still × (commits_of step ≡ p.commits))
    ⊎ ((base : List Record) → AreCommitted base p.state p.commits → IsModelled before
    → ((c : List ℕ) → before.images c → StandsForSome base p.commits c) → LeavesOnly before after (StandsForSome base (commits_of step)))

-- the count behind a round goes on from that before it, and the commits are the file's
pub record IsCarried {M : Type 0} (before after : ℕ) (p : Point M) (step : Then M) : Type 0 where
  pub count : count_of step + before ≡ p.count + after
  pub later : before ≤ after
  pub committed : (base : List Record) → AreCommitted base p.state p.commits → AreCommitted base (state_of step) (commits_of step)

-- an exchange was made, and this is said of it as a round
abbrev pub IsMade : LinkState → LinkState → (Round (List ℕ) Exchanged → Type 0) → Type 0
IsMade before after P = (r : Round (List ℕ) Exchanged) × IsExchangeOf before after r.request r.reply × P r

-- the commit of a round failed
pub record IsUncommitted {M : Type 0} (p : Point M) (step : Then M) (new : State) : Type 0 where
  pub rose : Rose p.state.faults new.faults
  pub is_due : (state_of step).committed ≡ length (state_of step).records
  pub some : p.state.committed < length (state_of step).records
  pub state : new ≡ record (state_of step) { committed = p.state.committed; stopped = Some new.faults; faults = new.faults }

-- what the cards of a reply came to: this is said of the step, and of one that was committed that too
abbrev pub ComesTo : {M A : Type 0} → (M → A → Type 0) → Point M → (Then M → Type 0) → (Then M → Type 0) → (State → Type 0) → State
    → Result (Option A) PullFault → Type 0
ComesTo {M} Remembers p Says Carries InPart new (Ok (Some next)) =
    (q : Point M) × (Says (goes_on q) × Carries (goes_on q)) × (q.state ≡ new) × Remembers q.memory next
ComesTo {M} Remembers p Says Carries InPart new (Ok None) =
    (e : End) × (Says (ends e) × Carries (ends e)) × (e.fault ≡ None) × (e.state ≡ new)
ComesTo {M} Remembers p Says Carries InPart new (Err why) =
    ((IsRefusal why × ((e : End) × Says (ends e) × (e.fault ≡ Some why) × (e.state ≡ new)))
    ⊎ ((why ≡ fault.Disk) × ((s : Then M) × Says s × IsUncommitted p s new)))
    ⊎ ((why ≡ fault.Memory) × InPart new)

-- the same of a whole round: it was made, and goes on, is the end, or has no commit; or it wasn't made; or its reply was taken in part
abbrev pub TurnsTo : {M A : Type 0} → (M → A → Type 0) → Course M (List ℕ) Exchanged → Asks M (List ℕ) → Broken M (List ℕ) Exchanged → Point M
    → LinkState → LinkState → (Then M → Type 0) → (Then M → Type 0) → Type 0 → State → Result (Option A) PullFault → Type 0
TurnsTo {M} Remembers R A B p d e Keeps Carries Still new (Ok (Some next)) =
    (q : Point M) × (IsMade d e (λ r. R p r (goes_on q)) × Keeps (goes_on q) × Carries (goes_on q)) × (q.state ≡ new) × Remembers q.memory next
TurnsTo {M} Remembers R A B p d e Keeps Carries Still new (Ok None) =
    (end : End) × (IsMade d e (λ r. R p r (ends end)) × Keeps (ends end) × Carries (ends end)) × (end.fault ≡ None) × (end.state ≡ new)
TurnsTo {M} Remembers R A B p d e Keeps Carries Still new (Err why) =
    ((IsRefusal why × ((end : End) × (IsMade d e (λ r. R p r (ends end)) × Keeps (ends end)) × (end.fault ≡ Some why) × (end.state ≡ new)))
    ⊎ ((why ≡ fault.Disk) × ((s : Then M) × (IsMade d e (λ r. R p r s) × Keeps s) × IsUncommitted p s new)))
    ⊎ (Still
    × (((why ≡ fault.Link) × (new ≡ p.state) × ((request : List ℕ) × A p request × IsLinkLost d e request))
    ⊎ ((why ≡ fault.Memory)
    × (((new ≡ p.state) × (IsIdle d e ⊎ ((request : List ℕ) × A p request × HasJoined d e (λ c. IsLeft c request))))
    ⊎ IsMade d e (λ r. B p r new)))))
