-- What one session does: what it sends, for what it read, with which calls.
use Rattle.std.specs.Prelude.{◌≡◌, ℕ, List, [], ◌∷◌, ◌++◌, Option, Some, None, Ok, Err}
use Rattle.fsl_outside.specs.Memory.{next}
use Rattle.fsl_outside.specs.Connections.{Connection, Between, IsSent}
use Rattle.fsl_http.specs.declared.request.Asked.{Asked}
use Rattle.fsl_http.specs.declared.request.Asked.TheVariants as asked_as
use Rattle.fsl_http.specs.Asking.{IsAnswered}
use Rattle.fsl_http.specs.Reading.{IsBroken}
use Rattle.fsl_http.specs.Replies.{reply_text}
use Rattle.fsl_http.specs.Sending.{IsCut}
use Rattle.fsl_record.specs.Receipts.{Brought}
use Rattle.fsl_wire.specs.declared.Caps.{Caps}
use Rattle.fsl_wire.specs.declared.WireCard.{WireCard}
use Rattle.fsl_wire.specs.declared.WireFault.{WireFault}
use Rattle.fsl_wire.specs.declared.WireFault.TheVariants as wire_fault
use Rattle.fsl_wire.specs.Messages.{IsMessage, IsFirstFault}
use Rattle.fsl_login.specs.declared.User.{User}
use Rattle.fsl_login.specs.declared.LoginFault.{LoginFault}
use Rattle.fsl_login.specs.Logins.{granted}
use Rattle.fsl_answer.specs.declared.reasons.Refusal.{Refusal}
use Rattle.fsl_answer.specs.Refusals.{refusal}
use Rattle.fsl_repo.specs.declared.Ask.{Ask}
use Rattle.fsl_repo.specs.declared.BuildFault.TheVariants as build_fault
use Rattle.fsl_repo.specs.declared.Event.TheVariants as event
use Rattle.fsl_repo.specs.declared.Answer.{Answer}
use Rattle.fsl_repo.specs.declared.Answer.TheVariants as answer
use Rattle.fsl_serve.specs.declared.said.Halt.{Halt}
use Rattle.fsl_serve.specs.declared.said.Halt.TheVariants as halt
use Rattle.fsl_serve.specs.declared.said.Said.{Said}
use Rattle.fsl_serve.specs.declared.said.Said.TheVariants as said
use Rattle.fsl_serve.specs.declared.said.SessionEnd.{SessionEnd}
use Rattle.fsl_serve.specs.declared.said.SessionEnd.TheVariants as end_as
use Rattle.fsl_serve.specs.Session.{events, first_events, receipt_of, malformed_body, login_body, refusal_body}
use Rattle.fsl_serve.specs.Calls.{Call, asked, told, GoOn, Phase}

-- a reply: its status and its body
abbrev pub Reply : Type 0
Reply = ℕ × List ℕ

-- what is sent where a session ends early
abbrev pub halted : Halt → Reply
halted halt.Stopped = (500, [])
halted halt.Memory = (503, [])

-- what is sent after the answers of the build and of the commit: 500 where one of them tells of the disk
abbrev pub concluded : Answer → Answer → Reply
concluded built (answer.Commit (Err e)) = (500, [])
concluded (answer.Build (Err build_fault.Disk)) committed = (500, [])
concluded (answer.Build (Err (build_fault.Damaged name found))) committed = (500, [])
concluded (answer.Build (Ok reply)) (answer.Commit (Ok count)) = (200, reply)
concluded built committed = (503, [])

-- one build and one commit, and the reply by their answers
abbrev pub IsConcluded : Ask → List Call → Reply → Type 0
IsConcluded ask made reply =
    (built : Answer) × (committed : Answer) × (made ≡ (event.Build ask, built) ∷ (event.Commit, committed) ∷ []) × (reply ≡ concluded built committed)

-- the calls for a message that nothing refuses: all events, with one build and one commit; or an early end
pub data IsRun (message : List WireCard) (caps : Caps) (receipt : Brought) (made : List Call) (reply : Reply) : Type 0 where
  whole : (first : List Call) (build commit : Call) → made ≡ first ++ build ∷ commit ∷ [] → GoOn first → events message caps receipt (told made) ≡ asked made → reply ≡ concluded build.1 commit.1 → IsRun message caps receipt made reply
  early : (h : Halt) → Phase (first_events message caps receipt) made (Some h) → reply ≡ halted h → IsRun message caps receipt made reply

-- the line of a fault
abbrev pub line_of : WireFault → ℕ
line_of (wire_fault.Unknown line) = line
line_of (wire_fault.Args line) = line
line_of (wire_fault.Delta line) = line
line_of (wire_fault.Size line) = line
line_of (wire_fault.Short line) = line
line_of wire_fault.Memory = 0

-- what is said to a message, the moment that the clock was asked for, and the calls: the first of these that holds, or want of memory;
-- the clock is asked once where nothing refuses, and there its moment is that of every receipt
pub data IsJudged (users : List User) (project : List ℕ) (message : List WireCard) (moment : Option ℕ) (made : List Call) (reply : Reply) : Type 0 where
  no_login : (fault : LoginFault) → granted users message ≡ Err fault → moment ≡ None → made ≡ [] → reply ≡ (200, login_body) → IsJudged users project message moment made reply
  not_allowed : (caps : Caps) (r : Refusal) → granted users message ≡ Ok caps → refusal message caps project ≡ Some r → moment ≡ None → made ≡ [] → reply ≡ (200, refusal_body r) → IsJudged users project message moment made reply
  run : (caps : Caps) (now : ℕ) → granted users message ≡ Ok caps → refusal message caps project ≡ None → moment ≡ Some now → IsRun message caps (receipt_of message now) made reply → IsJudged users project message moment made reply
  no_memory : moment ≡ None → made ≡ [] → reply ≡ (503, []) → IsJudged users project message moment made reply

-- the one reply to what was asked, the moment and the calls: the first of these that holds, or want of memory
pub data IsReplied (users : List User) (project : List ℕ) (request : Asked) (moment : Option ℕ) (made : List Call) (reply : Reply) : Type 0 where
  refused : (status : ℕ) → request ≡ asked_as.Refused status → moment ≡ None → made ≡ [] → reply ≡ (status, []) → IsReplied users project request moment made reply
  malformed : (body : List ℕ) (fault : WireFault) → request ≡ asked_as.Body body → IsFirstFault body fault → moment ≡ None → made ≡ [] → reply ≡ (200, malformed_body (line_of fault)) → IsReplied users project request moment made reply
  judged : (body : List ℕ) (message : List WireCard) → request ≡ asked_as.Body body → IsMessage body message → IsJudged users project message moment made reply → IsReplied users project request moment made reply
  no_memory : (body : List ℕ) → request ≡ asked_as.Body body → moment ≡ None → made ≡ [] → reply ≡ (503, []) → IsReplied users project request moment made reply

-- the connection took all of the reply, or after a failed write a front of it
abbrev pub Took : Connection → Connection → Reply → SessionEnd → Type 0
Took c d reply end_as.Closed = ⊥
Took c d reply (end_as.Answered status) = IsSent c d (reply_text reply.0 reply.1)
Took c d reply end_as.Link = IsCut c d (reply_text reply.0 reply.1)

-- the end of a session with that reply
abbrev pub Ends : Reply → SessionEnd → Type 0
Ends reply end_as.Closed = ⊥
Ends reply (end_as.Answered status) = status ≡ reply.0
Ends reply end_as.Link = Unit {0}

-- one session, and the moment that its clock was asked for: no byte came; or a read failed; or what was read got its reply; or there was no memory to read it
pub data IsSession (users : List User) (project : List ℕ) (old new : Option Connection) (moment : Option ℕ) (made : List Call) (end : SessionEnd) : Type 0 where
  closed : Between old new (λ c d. IsAnswered c d asked_as.Closed) → moment ≡ None → made ≡ [] → end ≡ end_as.Closed → IsSession users project old new moment made end
  broken : Between old new (λ c d. IsBroken c d (next c.failed)) → moment ≡ None → made ≡ [] → end ≡ end_as.Link → IsSession users project old new moment made end
  replied : (request : Asked) (reply : Reply) → IsReplied users project request moment made reply → Between old new (λ c d. (mid : Connection) × IsAnswered c mid request × Took mid d reply end) → Ends reply end → IsSession users project old new moment made end
  unread : moment ≡ None → made ≡ [] → Between old new (λ c d. (mid : Connection) × IsBroken c mid c.failed × Took mid d (503, []) end) → Ends (503, []) end → IsSession users project old new moment made end

-- what a thing to be said sends
abbrev pub sent_of : Said → Reply
sent_of (said.Refused status) = (status, [])
sent_of (said.Text text) = (200, text)
sent_of (said.Built reply) = (200, reply)
sent_of (said.Halted h) = halted h
