-- What the code says of one round of a pull.
use Rattle.std.specs.Prelude.{◌≡◌, ℕ, List, Option, None, Ok, Result, if◌then◌else◌, MatchOption}
use Rattle.fsl_disk.specs.Disk.{DiskState}
use Rattle.fsl_outside.specs.Connections.{LinkState}
use Rattle.fsl_wire.specs.declared.WireCard.{WireCard}
use Rattle.fsl_repo.specs.Machine.{now}
use Rattle.fsl_repo.specs.Whole.{Seen, stored}
use Rattle.fsl_pull.specs.declared.Login.{Login}
use Rattle.fsl_pull.specs.declared.PullFault.{PullFault}
use Rattle.fsl_pull.specs.Rounds.{Point, Then, goes_on, ends}
use Rattle.fsl_pull.specs.Replies.{announced_in}
use Rattle.fsl_pull.specs.Arrivals.{Taken, Takes, AreWants, IsPartlyTaken}
use Rattle.fsl_pull.specs.Pulls.{next_names, is_end, missing, behind, ended, uncommitted, PullRound, PullAsks, BrokenPull}
use Rattle.fsl_pull.specs.Turns.{IsKeptBy, IsCarried, ComesTo, TurnsTo}

-- a pull remembers the names to ask for
abbrev pub SameNames : List (List ℕ) → List (List ℕ) → Type 0
SameNames memory names = memory ≡ names

abbrev pub Finish : Type 0
Finish = Option (List ℕ) → Option PullFault

-- behind a round the sync is at its end, by the name that is missing then, or asks for the next names
abbrev pub then_with : Finish → Point (List (List ℕ)) → List WireCard → Taken → List (List ℕ) → Then (List (List ℕ))
then_with finish p reply t wanted =
    let next = next_names (now t.state) wanted (announced_in reply) in
    if is_end p.memory t next then ends (ended p t (finish (missing next (announced_in reply)))) else goes_on (behind p t next)

abbrev pub IsReplied : Finish → Point (List (List ℕ)) → List WireCard → Then (List (List ℕ)) → Type 0
IsReplied finish p reply step =
    (t : Taken) × Takes p.state None reply t
    × MatchOption t.fault ((wanted : List (List ℕ)) × AreWants t.state wanted × (step ≡ then_with finish p reply t wanted))
    (λ why. step ≡ ends (uncommitted p t why))

-- the cards of a reply to a request for these names were taken, and committed
abbrev pub IsTaken : Finish → List (List ℕ) → List WireCard → DiskState → DiskState → Seen → Seen → Type 0 → Result (Option (List (List ℕ))) PullFault → Type 0
IsTaken finish asked reply before after old new Still result =
    (p : Point (List (List ℕ))) → p.state ≡ old.state → p.memory ≡ asked →
    ComesTo SameNames p (λ s. IsReplied finish p reply s × IsKeptBy before after Still p s) (IsCarried (stored old) (stored new) p)
    (λ left. IsPartlyTaken reply p.state left × Still) new.state result

-- at the end of a pull from another repository nothing is missing
abbrev pub none_missing : Finish
none_missing name = None

-- one round that asks for these names
abbrev pub IsTurned : Option Login → List (List ℕ) → LinkState → LinkState → DiskState → DiskState → Seen → Seen → Type 0
    → Result (Option (List (List ℕ))) PullFault → Type 0
IsTurned login asked d e before after old new Still result =
    (p : Point (List (List ℕ))) → p.state ≡ old.state → p.memory ≡ asked →
    TurnsTo SameNames (PullRound login) (PullAsks login) (BrokenPull login) p d e (IsKeptBy before after Still p)
    (IsCarried (stored old) (stored new) p) Still new.state result
