-- What the code says of one round of a push.
use Rattle.std.specs.Prelude.{◌≡◌, ◌⊎◌, ℕ, Bool, IsTrue, List, [], ◌∷◌, length, Option, Some, None, Result, Ok, Err, if◌then◌else◌}
use Rattle.std.specs.List.{list_all}
use Rattle.fsl_disk.specs.Disk.{DiskState, Quiet}
use Rattle.fsl_outside.specs.Connections.{LinkState}
use Rattle.fsl_order.specs.Names.{has}
use Rattle.fsl_wire.specs.declared.WireCard.{WireCard}
use Rattle.fsl_repo.specs.Machine.{now}
use Rattle.fsl_repo.specs.Whole.{Seen}
use Rattle.fsl_pull.specs.declared.Login.{Login}
use Rattle.fsl_pull.specs.declared.PeerFault.TheVariants as peer
use Rattle.fsl_pull.specs.declared.PullFault.{PullFault}
use Rattle.fsl_pull.specs.declared.PullFault.TheVariants as fault
use Rattle.fsl_pull.specs.declared.pushing.PushStep.{PushStep}
use Rattle.fsl_pull.specs.declared.pushing.PushStep.TheVariants as push_is
use Rattle.fsl_pull.specs.Sent.{SentNames}
use Rattle.fsl_pull.specs.Rounds.{Point}
use Rattle.fsl_pull.specs.Replies.{asked_in}
use Rattle.fsl_pull.specs.Arrivals.{IsPartlyTaken}
use Rattle.fsl_pull.specs.Pushes.{Sending, files_to_send, names_of, asked_here, IsPushReply, PushRound, PushAsks, BrokenPush}
use Rattle.fsl_pull.specs.Reading.{CantRead}
use Rattle.fsl_pull.specs.Asking.{IsIdle}
use Rattle.fsl_pull.specs.Turns.{IsKeptBy, IsCarried, ComesTo, TurnsTo}

-- a push remembers the names that it sent, and those that the last reply asked for
abbrev pub sending : SentNames → List (List ℕ) → Sending
sending sent gimmes = record { sent = sent.order; gimmes = gimmes }

abbrev pub Remembers : SentNames → Sending → List (List ℕ) → Type 0
Remembers sent memory gimmes = memory ≡ sending sent gimmes

-- the names of the files that are due
abbrev pub due_names : Seen → SentNames → List (List ℕ) → List (List ℕ)
due_names seen sent gimmes = names_of (files_to_send (now seen.state) (sending sent gimmes))

-- behind a round without files: the end, or a file that was sent is asked for again, or a round that sends what is asked for now
abbrev pub quiet_by : List (List ℕ) → List (List ℕ) → List (List ℕ) → PushStep
quiet_by sent [] next = push_is.End
quiet_by sent (least ∷ more) next = if list_all (has sent) (least ∷ more) then push_is.Again least else push_is.On next

-- behind a round in which these names were sent
abbrev pub push_by : List (List ℕ) → List (List ℕ) → List (List ℕ) → List (List ℕ) → PushStep
push_by sent [] here next = quiet_by sent here next
push_by sent (name ∷ due) here next = push_is.On next

abbrev pub push_step : SentNames → List (List ℕ) → Seen → List WireCard → PushStep
push_step sent due seen reply = push_by sent.order due (asked_here (now seen.state) reply) (asked_in reply)

abbrev pub push_answer : PushStep → Result (Option (List (List ℕ))) PullFault
push_answer (push_is.On next) = Ok (Some next)
push_answer push_is.End = Ok None
push_answer (push_is.Again name) = Err (fault.Peer (peer.Again name))

-- the cards of a reply to a push of these names were taken, and committed
abbrev pub IsPushTaken : List (List ℕ) → List WireCard → DiskState → DiskState → Seen → Seen → SentNames → SentNames → Type 0
    → Result (Option (List (List ℕ))) PullFault → Type 0
IsPushTaken due reply before after old new sent sent_new Still result =
    (p : Point Sending) (files : List (List ℕ × List ℕ)) → p.state ≡ old.state → p.memory.sent ≡ sent.order → names_of files ≡ due →
    ComesTo (Remembers sent_new) p (λ s. IsPushReply p files (Ok reply) s × IsKeptBy before after Still p s)
    (IsCarried (length sent.order) (length sent_new.order) p) (λ left. IsPartlyTaken reply p.state left × Still) new.state result

-- one round that was made, or whose dial failed, or for which there was no memory. Before it files were read, and so the disk is only so much the same
abbrev pub IsPushMade : Option Login → List (List ℕ) → LinkState → LinkState → DiskState → DiskState → Seen → Seen → SentNames → SentNames
    → Result (Option (List (List ℕ))) PullFault → Type 0
IsPushMade login gimmes d e before after old new sent sent_new result =
    (p : Point Sending) → p.state ≡ old.state → Remembers sent p.memory gimmes →
    TurnsTo (Remembers sent_new) (PushRound login) (PushAsks login) (BrokenPush login) p d e (IsKeptBy before after (Quiet before after) p)
    (IsCarried (length sent.order) (length sent_new.order) p) (Quiet before after) new.state result

-- a file that is due isn't read, and no round is made
pub record IsPushStuck (gimmes : List (List ℕ)) (d e : LinkState) (before after : DiskState) (old new : Seen) (sent : SentNames)
    (result : Result (Option (List (List ℕ))) PullFault) : Type 0 where
  pub why : PullFault
  pub is : result ≡ Err why
  pub idle : IsIdle d e
  pub quiet : Quiet before after
  pub name : List ℕ
  pub due : IsTrue (has (due_names old sent gimmes) name)
  pub cant : CantRead why old.state name new.state

-- one round
abbrev pub IsPushTurned : Option Login → List (List ℕ) → LinkState → LinkState → DiskState → DiskState → Seen → Seen → SentNames → SentNames
    → Result (Option (List (List ℕ))) PullFault → Type 0
IsPushTurned login gimmes d e before after old new sent sent_new result =
    IsPushMade login gimmes d e before after old new sent sent_new result ⊎ IsPushStuck gimmes d e before after old new sent result
