-- What is said to a request, and one session, put together.
use Rattle.std.proofs.Common.{◌≡◌, ◌⊎◌, inl, inr, ℕ, List, [], Some, None, Ok, Err, refl}
use Rattle.std.specs.Prelude.{Option}
use Rattle.fsl_outside.specs.Connections.{Connection, Between}
use Rattle.fsl_http.specs.declared.request.Asked.TheVariants as asked_as
use Rattle.fsl_wire.specs.declared.Caps.{Caps}
use Rattle.fsl_wire.specs.declared.WireCard.{WireCard}
use Rattle.fsl_wire.specs.declared.WireFault.{WireFault}
use Rattle.fsl_wire.specs.declared.WireFault.TheVariants as wire_fault
use Rattle.fsl_wire.specs.Messages.{IsFirstFault, IsReadFault}
use Rattle.fsl_login.specs.declared.User.{User}
use Rattle.fsl_login.specs.declared.LoginFault.{LoginFault}
use Rattle.fsl_login.specs.Logins.{granted}
use Rattle.fsl_answer.specs.declared.Refusal.{Refusal}
use Rattle.fsl_answer.specs.Refusals.{refusal}
use Rattle.fsl_serve.specs.Session.{malformed_body, login_body, refusal_body}
use Rattle.fsl_serve.specs.Sessions.{Reply, IsJudged, IsReplied, line_of}
use Rattle.fsl_serve.specs.Sessions.IsJudged.{no_login, not_allowed, no_memory}
use Rattle.fsl_serve.specs.Sessions.IsReplied.{malformed, no_memory as no_memory_replied}

pub said_no_login : (users : List User) (project : List ℕ) (m : List WireCard) (fault : LoginFault) (sent : Reply) → granted users m ≡ Err fault → (sent ≡ (200, login_body)) ⊎ (sent ≡ (503, [])) → IsJudged users project m None [] sent
said_no_login users project m fault sent g (inl p) = no_login fault g refl refl p
said_no_login users project m fault sent g (inr p) = no_memory refl refl p

pub said_not_allowed : (users : List User) (project : List ℕ) (m : List WireCard) (caps : Caps) (r : Refusal) (sent : Reply) → granted users m ≡ Ok caps → refusal m caps project ≡ Some r → (sent ≡ (200, refusal_body r)) ⊎ (sent ≡ (503, [])) → IsJudged users project m None [] sent
said_not_allowed users project m caps r sent g f (inl p) = not_allowed caps r g f refl refl p
said_not_allowed users project m caps r sent g f (inr p) = no_memory refl refl p

line_said : (users : List User) (project body : List ℕ) (fault : WireFault) (sent : Reply) → IsFirstFault body fault → (sent ≡ (200, malformed_body (line_of fault))) ⊎ (sent ≡ (503, [])) → IsReplied users project (asked_as.Body body) None [] sent
line_said users project body fault sent f (inl p) = malformed body fault refl f refl refl p
line_said users project body fault sent f (inr p) = no_memory_replied body refl refl refl p

pub said_malformed : (users : List User) (project body : List ℕ) (fault : WireFault) (sent : Reply) → IsReadFault body fault → (sent ≡ (200, malformed_body (line_of fault))) ⊎ (sent ≡ (503, [])) → (fault ≡ wire_fault.Memory → sent ≡ (503, [])) → IsReplied users project (asked_as.Body body) None [] sent
said_malformed users project body (wire_fault.Unknown n) sent f p q = line_said users project body (wire_fault.Unknown n) sent f p
said_malformed users project body (wire_fault.Args n) sent f p q = line_said users project body (wire_fault.Args n) sent f p
said_malformed users project body (wire_fault.Delta n) sent f p q = line_said users project body (wire_fault.Delta n) sent f p
said_malformed users project body (wire_fault.Size n) sent f p q = line_said users project body (wire_fault.Size n) sent f p
said_malformed users project body (wire_fault.Short n) sent f p q = line_said users project body (wire_fault.Short n) sent f p
said_malformed users project body wire_fault.Memory sent f p q = no_memory_replied body refl refl refl (q refl)

pub between_both : (o m n : Option Connection) (P Q : Connection → Connection → Type 0) → Between o m P → Between m n Q → Between o n (λ c d. (mid : Connection) × P c mid × Q mid d)
between_both None None None P Q p q = tt
between_both None None (Some n) P Q p q = absurd q
between_both None (Some m) n P Q p q = absurd p
between_both (Some o) None n P Q p q = absurd p
between_both (Some o) (Some m) None P Q p q = absurd q
between_both (Some o) (Some m) (Some n) P Q p q = (m, p, q)
