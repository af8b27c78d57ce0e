-- One round of a pull over a network.
use Rattle.std.specs.Prelude.{◌≡◌, ℕ, List, [], ◌∷◌, Option, Some, None, Result, Ok, Err, map}
use Rattle.std.proofs.Common.{refl, sym, ap, ◌∙◌, inl, inr}
use Rattle.std.specs.Option.{option_map_or}
use Rattle.fsl_disk.specs.Disk.{DiskState}
use Rattle.fsl_outside.specs.Connections.{LinkState}
use Rattle.fsl_name.specs.Name.{name_text}
use Rattle.fsl_record.specs.declared.Config.{Config}
use Rattle.fsl_wire.specs.declared.WireCard.{WireCard}
use Rattle.fsl_wire.specs.declared.WireCard.TheVariants as cards
use Rattle.fsl_wire.specs.Writing.{message_bytes}
use Rattle.fsl_repo.specs.Machine.{State, now}
use Rattle.fsl_repo.specs.Whole.{Seen, stored}
use Rattle.fsl_http.specs.Responses.{IsLeft}
use Rattle.fsl_http.specs.Exchanges.{HasJoined}
use Rattle.fsl_pull.specs.declared.Login.{Login}
use Rattle.fsl_pull.specs.declared.PeerFault.{PeerFault}
use Rattle.fsl_pull.specs.declared.PullFault.{PullFault}
use Rattle.fsl_pull.specs.declared.PullFault.TheVariants as fault
use Rattle.fsl_pull.specs.Rounds.{Point, Then, goes_on, ends}
use Rattle.fsl_pull.specs.Requests.{signed_bytes, pull_cards, request_bytes}
use Rattle.fsl_pull.specs.Arrivals.{IsPartlyTaken}
use Rattle.fsl_pull.specs.Pulls.{unread, missing_fault, IsPullReply, PullRound, PullAsks, BrokenPull}
use Rattle.fsl_pull.specs.Asking.{IsAsked, IsLinkLost}
use Rattle.fsl_pull.specs.Turns.{IsKeptBy, IsCarried, IsMade, ComesTo, TurnsTo}
use Rattle.fsl_pull.specs.PullTurns.{SameNames, IsTaken, IsTurned}

abbrev Names : Type 0
Names = List (List ℕ)

-- the bytes that a pull of a repository with these codes asks for
abbrev pub asked_bytes : Option Login → Config → List (List ℕ) → List ℕ
asked_bytes login config names = signed_bytes login (message_bytes (cards.Pull (name_text config.server) (name_text config.project) ∷ map cards.Gimme names))

module _ (login : Option Login) (asked : Names) (d e : LinkState) (before after : DiskState) (old new : Seen) (Still : Type 0) (request : List ℕ) (config : Config) (has : (now old.state).config ≡ Some config) (bytes : request ≡ asked_bytes login config asked) where
  asks : (p : Point Names) → p.state ≡ old.state → p.memory ≡ asked → PullAsks login p request
  asks p at m =
      bytes
      ∙ (λ i. signed_bytes login (message_bytes (cards.Pull (option_map_or (λ c. name_text c.server) (sym has i) []) (option_map_or (λ c. name_text c.project) (sym has i) []) ∷ map cards.Gimme (sym m i))))
      ∙ ap (λ (s : State). request_bytes login (pull_cards (now s) p.memory)) (sym at)

  -- a reply that is wrong
  pub unread_turn : (why : PeerFault) → IsAsked d e request (Err why) → new.state ≡ old.state → Still → IsTurned login asked d e before after old new Still (Err (fault.Peer why))
  unread_turn why (reply, made, read) same still p at m =
      inl (inl (
        tt,
        (
          unread p why,
          ((record { request = request; reply = reply }, made, (asks p at m, (Err why, read, refl))), inl (still, refl)),
          refl,
          at ∙ sym same,
        ),
      ))

  -- the dial failed
  pub lost_turn : IsLinkLost d e request → new.state ≡ old.state → Still → IsTurned login asked d e before after old new Still (Err fault.Link)
  lost_turn lost same still p at m = inr (still, inl (refl, same ∙ sym at, (request, asks p at m, lost)))

  -- there was no memory for the reply
  pub left_turn : HasJoined d e (λ c. IsLeft c request) → new.state ≡ old.state → Still → IsTurned login asked d e before after old new Still (Err fault.Memory)
  left_turn left same still p at m = inr (still, inr (refl, inl (same ∙ sym at, inr (request, asks p at m, left))))

  -- the cards of the reply were taken
  pub taken_turn : (reply : List WireCard) (result : Result (Option Names) PullFault) → IsAsked d e request (Ok reply) → IsTaken missing_fault asked reply before after old new Still result → IsTurned login asked d e before after old new Still result
  taken_turn reply result (came, made, read) taken p at m = by result (taken p at m)
    where
      says : (s : Then Names) → IsPullReply p (Ok reply) s → IsMade d e (λ r. PullRound login p r s)
      says s h = (record { request = request; reply = came }, made, (asks p at m, (Ok reply, read, h)))

      by : (result : Result (Option Names) PullFault) → ComesTo SameNames p (λ s. IsPullReply p (Ok reply) s × IsKeptBy before after Still p s) (IsCarried (stored old) (stored new) p) (λ left. IsPartlyTaken reply p.state left × Still) new.state result
          → TurnsTo SameNames (PullRound login) (PullAsks login) (BrokenPull login) p d e (IsKeptBy before after Still p) (IsCarried (stored old) (stored new) p) Still new.state result
      by (Ok (Some names)) (q, ((h, kept), carried), is, mem) = (q, (says (goes_on q) h, kept, carried), is, mem)
      by (Ok None) (end, ((h, kept), carried), none, is) = (end, (says (ends end) h, kept, carried), none, is)
      by (Err why) (inl (inl (refusal, (end, (h, kept), some, is)))) = inl (inl (refusal, (end, (says (ends end) h, kept), some, is)))
      by (Err why) (inl (inr (disk, (s, (h, kept), un)))) = inl (inr (disk, (s, (says s h, kept), un)))
      by (Err why) (inr (memory, (partly, still))) = inr (still, inr (memory, inr (record { request = request; reply = came }, made, (asks p at m, (reply, read, partly)))))

-- nothing was done
pub no_turn : (login : Option Login) (asked : Names) (d : LinkState) (before after : DiskState) (old new : Seen) (Still : Type 0) → new.state ≡ old.state → Still → IsTurned login asked d d before after old new Still (Err fault.Memory)
no_turn login asked d before after old new Still same still p at m = inr (still, inr (refl, inl (same ∙ sym at, inl (refl, refl))))
