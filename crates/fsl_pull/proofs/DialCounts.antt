-- The dial's count of faults over a round and a whole sync.
use Rattle.std.specs.Prelude.{◌≡◌, ℕ, List, [], ◌∷◌, length, map, Option, Some, None, Result, Ok, Err}
use Rattle.std.proofs.Common.{inl, inr, refl, ap, subst, ◌∙◌}
use Rattle.fsl_order.specs.Causes.{Rose}
use Rattle.fsl_outside.specs.Connections.{LinkState}
use Rattle.fsl_disk.specs.Disk.{DiskState}
use Rattle.fsl_wire.specs.declared.WireCard.{WireCard}
use Rattle.fsl_repo.specs.Machine.{State}
use Rattle.fsl_repo.specs.Whole.{Seen, stored}
use Rattle.fsl_pull.specs.declared.PullFault.{PullFault}
use Rattle.fsl_pull.specs.declared.PullFault.TheVariants as fault
use Rattle.fsl_pull.specs.Rounds.{Point, Then}
use Rattle.fsl_pull.specs.Asking.{IsDialCounted}
use Rattle.fsl_pull.specs.Turns.{ComesTo, IsKeptBy, IsCarried}
use Rattle.fsl_pull.specs.Arrivals.{IsPartlyTaken}
use Rattle.fsl_pull.specs.PullTurns.{Finish, SameNames, IsReplied, IsTaken}
use Rattle.fsl_pull.specs.Pushes.{Sending, names_of, IsPushReply}
use Rattle.fsl_pull.specs.Sent.{SentNames}
use Rattle.fsl_pull.specs.PushTurns.{sending, Remembers, IsPushTaken}

-- what takes a reply calls no dial, so its answer is never that the dial failed
pub no_dial : {M A : Type 0} (Remembers : M → A → Type 0) (p : Point M) (Says Carries : Then M → Type 0) (InPart : State → Type 0) (new : State) (result : Result (Option A) PullFault) (d e : LinkState)
    → ComesTo Remembers p Says Carries InPart new result → e.faults ≡ d.faults → IsDialCounted d e result
no_dial Remembers p Says Carries InPart new (Ok (Some next)) d e h same = same
no_dial Remembers p Says Carries InPart new (Ok None) d e h same = same
no_dial Remembers p Says Carries InPart new (Err fault.Link) d e (inl (inl h)) same = absurd h.0
no_dial Remembers p Says Carries InPart new (Err fault.Link) d e (inl (inr h)) same = let no = h.0 in cc
no_dial Remembers p Says Carries InPart new (Err fault.Link) d e (inr h) same = let no = h.0 in cc
no_dial Remembers p Says Carries InPart new (Err (fault.NotEmpty n)) d e h same = same
no_dial Remembers p Says Carries InPart new (Err (fault.NotRepository n)) d e h same = same
no_dial Remembers p Says Carries InPart new (Err (fault.Project n)) d e h same = same
no_dial Remembers p Says Carries InPart new (Err (fault.Stopped n)) d e h same = same
no_dial Remembers p Says Carries InPart new (Err fault.Disk) d e h same = same
no_dial Remembers p Says Carries InPart new (Err (fault.Peer why)) d e h same = same
no_dial Remembers p Says Carries InPart new (Err (fault.TooLarge name size)) d e h same = same
no_dial Remembers p Says Carries InPart new (Err (fault.Full name)) d e h same = same
no_dial Remembers p Says Carries InPart new (Err (fault.Missing name)) d e h same = same
no_dial Remembers p Says Carries InPart new (Err (fault.Damaged name found)) d e h same = same
no_dial Remembers p Says Carries InPart new (Err fault.Rounds) d e h same = same
no_dial Remembers p Says Carries InPart new (Err fault.Memory) d e h same = same

-- a fault of a round is that of the sync, whose rounds before it left the count
pub counts_on : (A B : Type 0) (old before after : LinkState) (why : PullFault) → before.faults ≡ old.faults → IsDialCounted {A = A} before after (Err why) → IsDialCounted {A = B} old after (Err why)
counts_on A B old before after fault.Link e h = subst (λ (n : ℕ). Rose n after.faults) e h
counts_on A B old before after (fault.NotEmpty n) e h = h ∙ e
counts_on A B old before after (fault.NotRepository n) e h = h ∙ e
counts_on A B old before after (fault.Project n) e h = h ∙ e
counts_on A B old before after (fault.Stopped n) e h = h ∙ e
counts_on A B old before after fault.Disk e h = h ∙ e
counts_on A B old before after (fault.Peer why) e h = h ∙ e
counts_on A B old before after (fault.TooLarge name size) e h = h ∙ e
counts_on A B old before after (fault.Full name) e h = h ∙ e
counts_on A B old before after (fault.Missing name) e h = h ∙ e
counts_on A B old before after (fault.Damaged name found) e h = h ∙ e
counts_on A B old before after fault.Rounds e h = h ∙ e
counts_on A B old before after fault.Memory e h = h ∙ e

-- files of these names, without bytes
abbrev pub nameless : List (List ℕ) → List (List ℕ × List ℕ)
nameless names = map (λ n. (n, [])) names

pub names_back : (names : List (List ℕ)) → names_of (nameless names) ≡ names
names_back [] = refl
names_back (n ∷ names) = ap (λ (ns : List (List ℕ)). n ∷ ns) (names_back names)

-- the cards of a pull's reply were taken, and no dial was called
pub taken_counts : (finish : Finish) (asked : List (List ℕ)) (reply : List WireCard) (before after : DiskState) (old new : Seen) (Still : Type 0) (result : Result (Option (List (List ℕ))) PullFault) (d e : LinkState)
    → IsTaken finish asked reply before after old new Still result → e.faults ≡ d.faults → IsDialCounted d e result
taken_counts finish asked reply before after old new Still result d e h same =
    let p : Point (List (List ℕ)) = record { state = old.state; commits = []; count = 0; memory = asked } in
    no_dial SameNames p (λ s. IsReplied finish p reply s × IsKeptBy before after Still p s) (IsCarried (stored old) (stored new) p) (λ left. IsPartlyTaken reply p.state left × Still) new.state result d e
    (h p refl refl) same

-- and those of a push's
pub push_counts : (due : List (List ℕ)) (reply : List WireCard) (before after : DiskState) (old new : Seen) (sent sent_new : SentNames) (Still : Type 0) (result : Result (Option (List (List ℕ))) PullFault) (d e : LinkState)
    → IsPushTaken due reply before after old new sent sent_new Still result → e.faults ≡ d.faults → IsDialCounted d e result
push_counts due reply before after old new sent sent_new Still result d e h same =
    let p : Point Sending = record { state = old.state; commits = []; count = 0; memory = sending sent [] } in
    no_dial (Remembers sent_new) p (λ s. IsPushReply p (nameless due) (Ok reply) s × IsKeptBy before after Still p s) (IsCarried (length sent.order) (length sent_new.order) p)
    (λ left. IsPartlyTaken reply p.state left × Still) new.state result d e (h p (nameless due) refl refl (names_back due)) same
