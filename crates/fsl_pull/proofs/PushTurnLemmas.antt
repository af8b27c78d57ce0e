-- One round of a push over a network.
use Rattle.std.specs.Prelude.{◌≡◌, ℕ, Bool, IsTrue, List, [], length, Option, Some, None, Result, Ok, Err}
use Rattle.std.proofs.Common.{refl, sym, ap, subst, ◌∙◌, inl, inr}
use Rattle.fsl_order.specs.Names.{has}
use Rattle.fsl_disk.specs.Disk.{DiskState, Quiet}
use Rattle.fsl_disk.proofs.Moments.{modelled_after}
use Rattle.fsl_record.specs.declared.Record.{Record}
use Rattle.fsl_outside.specs.Connections.{LinkState}
use Rattle.fsl_wire.specs.declared.WireCard.{WireCard}
use Rattle.fsl_repo.specs.Machine.{State, AreItems, now, unclustered_names}
use Rattle.fsl_repo.specs.Whole.{Seen}
use Rattle.fsl_http.specs.Responses.{IsLeft}
use Rattle.fsl_http.specs.Exchanges.{HasJoined}
use Rattle.fsl_pull.specs.declared.Login.{Login}
use Rattle.fsl_pull.specs.declared.PeerFault.{PeerFault}
use Rattle.fsl_pull.specs.declared.PullFault.{PullFault}
use Rattle.fsl_pull.specs.declared.PullFault.TheVariants as fault
use Rattle.fsl_pull.specs.Rounds.{Point, Then, goes_on, ends}
use Rattle.fsl_pull.specs.Requests.{push_cards, request_bytes}
use Rattle.fsl_pull.specs.Arrivals.{IsPartlyTaken}
use Rattle.fsl_pull.specs.Pulls.{unread}
use Rattle.fsl_pull.specs.Pushes.{Sending, files_to_send, names_of, IsPushReply, PushRound, PushAsks, BrokenPush}
use Rattle.fsl_pull.specs.Reading.{AreReadAs}
use Rattle.fsl_pull.specs.Reads.{FilesFail, IsPushed}
use Rattle.fsl_pull.specs.Kept.{StandsForSome}
use Rattle.fsl_pull.specs.Asking.{IsAsked, IsLinkLost, IsDialCounted}
use Rattle.fsl_pull.specs.Sent.{SentNames}
use Rattle.fsl_pull.specs.Turns.{commits_of, IsKeptBy, IsCarried, IsMade, ComesTo, TurnsTo}
use Rattle.fsl_pull.specs.PushTurns.{sending, Remembers, due_names, IsPushTaken, IsPushTurned}
use Rattle.fsl_pull.proofs.KeptLemmas.{some_more, rests_first}
use Rattle.fsl_pull.proofs.PushRuns.{read_longer}
use Rattle.fsl_pull.proofs.ReadLemmas.{held_of}
use Rattle.fsl_pull.proofs.SentLemmas.{files_again}

abbrev Files : Type 0
Files = List (List ℕ × List ℕ)

abbrev Names : Type 0
Names = List (List ℕ)

module _ (login : Option Login) (gimmes : Names) (d e : LinkState) (before after : DiskState) (old new : Seen) (sent sent_new : SentNames) (request : List ℕ) (names due : Names) (items : AreItems (now old.state).held old.items) (free : names ≡ unclustered_names old.items) (chosen : due ≡ due_names old sent gimmes) (asked : IsPushed login old.state names due request) where
  abbrev Turned : Result (Option Names) PullFault → Type 0
  Turned result = IsPushTurned login gimmes d e before after old new sent sent_new result

  -- the files of the names that are due are the files to send
  to_send : held_of old.state due ≡ files_to_send (now old.state) (sending sent gimmes)
  to_send = ap (held_of old.state) chosen ∙ files_again (now old.state) (sending sent gimmes)

  read_here : AreReadAs old.state.honest (files_to_send (now old.state) (sending sent gimmes)) asked.0
  read_here = subst (λ (fs : Files). AreReadAs old.state.honest fs asked.0) to_send asked.1

  asks : (p : Point Sending) → p.state ≡ old.state → Remembers sent p.memory gimmes → PushAsks login p request
  asks p at m = (
    names,
    (old.items, subst (λ (s : State). AreItems (now s).held old.items) (sym at) items, free),
    record {
      files = asked.0;
      read = subst (λ (fs : Files). AreReadAs p.state.honest fs asked.0) (λ i. files_to_send (now (sym at i)) (sym m i)) (subst (λ (b : Bool). AreReadAs b (files_to_send (now old.state) (sending sent gimmes)) asked.0) (ap (λ (s : State). s.honest) (sym at)) read_here);
      bytes = asked.2 ∙ (λ i. request_bytes login (push_cards (now (sym at i)) names asked.0));
    },
  )

  -- a reply that is wrong
  pub unread_turn : (why : PeerFault) → IsAsked d e request (Err why) → new.state ≡ old.state → Quiet before after → Turned (Err (fault.Peer why))
  unread_turn why (reply, made, read) same still = inl (λ p at m.
      let a = asks p at m in
      inl (inl (
        tt,
        (
          unread p why,
          ((record { request = request; reply = reply }, made, (a.0, a.1, a.2, (Err why, read, refl))), inl (still, refl)),
          refl,
          at ∙ sym same,
        ),
      )))

  -- the dial failed
  pub lost_turn : IsLinkLost d e request → new.state ≡ old.state → Quiet before after → Turned (Err fault.Link)
  lost_turn lost same still = inl (λ p at m. inr (still, inl (refl, same ∙ sym at, (request, asks p at m, lost))))

  -- there was no memory for the reply
  pub left_turn : HasJoined d e (λ c. IsLeft c request) → new.state ≡ old.state → Quiet before after → Turned (Err fault.Memory)
  left_turn left same still = inl (λ p at m. inr (still, inr (refl, inl (same ∙ sym at, inr (request, asks p at m, left)))))

  -- the cards of the reply were taken, of a repository that was only read before
  module _ (mid : DiskState) (old2 : Seen) (Still : Type 0) (quiet : Quiet before mid) (only_now : (c : List ℕ) → IsTrue before.is_model → before.since before.moment c → before.images c) (to_quiet : Still → Quiet before after) (same : old2.state ≡ old.state) where
    kept_from : (p : Point Sending) (reply : List WireCard) (files : Files) (s : Then Sending) → IsPushReply p files (Ok reply) s → IsKeptBy mid after Still p s → IsKeptBy before after (Quiet before after) p s
    kept_from p reply files s h (inl (still, is)) = inl (to_quiet still, is)
    kept_from p reply files s h (inr k) =
        let w = read_longer p files (Ok reply) s h in
        inr (λ base are model here.
        rests_first before mid after (StandsForSome base (commits_of s)) quiet model.model (λ c. only_now c model.model)
        (λ c left. subst (λ (m : List (List Record)). StandsForSome base m c) (sym w.1) (some_more base p.commits w.0 c (here c left)))
        (k base are (modelled_after before mid quiet.keeps model) (λ c left. here c (quiet.images model.model c left))))

    pub taken_turn : (reply : List WireCard) (result : Result (Option Names) PullFault) → IsAsked d e request (Ok reply) → IsPushTaken due reply mid after old2 new sent sent_new Still result → Turned result
    taken_turn reply result (came, made, read) taken = inl (λ p at m.
        by p at m result (taken p (files_to_send (now p.state) p.memory) (at ∙ sym same) (ap (λ (k : Sending). k.sent) m) (sym (chosen ∙ (λ i. names_of (files_to_send (now (sym at i)) (sym m i)))))))
      where
        says : (p : Point Sending) → p.state ≡ old.state → Remembers sent p.memory gimmes → (s : Then Sending) → IsPushReply p (files_to_send (now p.state) p.memory) (Ok reply) s → IsMade d e (λ r. PushRound login p r s)
        says p at m s h = let a = asks p at m in (record { request = request; reply = came }, made, (a.0, a.1, a.2, (Ok reply, read, h)))

        by : (p : Point Sending) (at : p.state ≡ old.state) (m : Remembers sent p.memory gimmes) (result : Result (Option Names) PullFault)
            → ComesTo (Remembers sent_new) p (λ s. IsPushReply p (files_to_send (now p.state) p.memory) (Ok reply) s × IsKeptBy mid after Still p s) (IsCarried (length sent.order) (length sent_new.order) p) (λ left. IsPartlyTaken reply p.state left × Still) new.state result
            → TurnsTo (Remembers sent_new) (PushRound login) (PushAsks login) (BrokenPush login) p d e (IsKeptBy before after (Quiet before after) p) (IsCarried (length sent.order) (length sent_new.order) p) (Quiet before after) new.state result
        by p at m (Ok (Some next)) (q, ((h, kept), carried), is, mem) = (q, (says p at m (goes_on q) h, kept_from p reply (files_to_send (now p.state) p.memory) (goes_on q) h kept, carried), is, mem)
        by p at m (Ok None) (end, ((h, kept), carried), none, is) = (end, (says p at m (ends end) h, kept_from p reply (files_to_send (now p.state) p.memory) (ends end) h kept, carried), none, is)
        by p at m (Err why) (inl (inl (refusal, (end, (h, kept), some, is)))) = inl (inl (refusal, (end, (says p at m (ends end) h, kept_from p reply (files_to_send (now p.state) p.memory) (ends end) h kept), some, is)))
        by p at m (Err why) (inl (inr (disk, (s, (h, kept), un)))) = inl (inr (disk, (s, (says p at m s h, kept_from p reply (files_to_send (now p.state) p.memory) s h kept), un)))
        by p at m (Err why) (inr (memory, (partly, still))) = inr (to_quiet still, inr (memory, inr (record { request = request; reply = came }, made, (asks p at m, (reply, read, partly)))))

-- nothing was done
pub no_turn : (login : Option Login) (gimmes : Names) (d : LinkState) (before after : DiskState) (old new : Seen) (sent sent_new : SentNames) → new.state ≡ old.state → Quiet before after
    → IsPushTurned login gimmes d d before after old new sent sent_new (Err fault.Memory)
no_turn login gimmes d before after old new sent sent_new same still = inl (λ p at m. inr (still, inr (refl, inl (same ∙ sym at, inl (refl, refl)))))

-- a file that is due isn't read, or there was no memory for it
pub unsent_turn : (login : Option Login) (gimmes : Names) (d : LinkState) (before after : DiskState) (old new : Seen) (sent sent_new : SentNames) (due : Names) (why : PullFault) → due ≡ due_names old sent gimmes → FilesFail why old.state due new.state → Quiet before after
    → IsPushTurned login gimmes d d before after old new sent sent_new (Err why)
unsent_turn login gimmes d before after old new sent sent_new due why chosen (inl (is, same)) still =
    subst (λ (w : PullFault). IsPushTurned login gimmes d d before after old new sent sent_new (Err w)) (sym is) (no_turn login gimmes d before after old new sent sent_new same still)
unsent_turn login gimmes d before after old new sent sent_new due why chosen (inr (name, has_name, cant)) still =
    inr (record { why = why; is = refl; idle = (refl, refl); quiet = still; name = name; due = subst (λ (ns : Names). IsTrue (has ns name)) chosen has_name; cant = cant })

-- no dial is called for it
pub unsent_counts : (A : Type 0) (d : LinkState) (s : State) (due : Names) (why : PullFault) (left : State) → FilesFail why s due left → IsDialCounted {A = A} d d (Err why)
unsent_counts A d s due (fault.NotEmpty n) left h = refl
unsent_counts A d s due (fault.NotRepository n) left h = refl
unsent_counts A d s due (fault.Project n) left h = refl
unsent_counts A d s due (fault.Stopped n) left h = refl
unsent_counts A d s due fault.Link left (inl h) = absurd (no h.0)
  where
    no : fault.Link ≡ fault.Memory → ⊥
    no e = cc
unsent_counts A d s due fault.Link left (inr h) = absurd h.2
unsent_counts A d s due fault.Disk left h = refl
unsent_counts A d s due (fault.Damaged name found) left h = refl
unsent_counts A d s due (fault.Peer why) left h = refl
unsent_counts A d s due (fault.TooLarge name size) left h = refl
unsent_counts A d s due (fault.Full name) left h = refl
unsent_counts A d s due (fault.Missing name) left h = refl
unsent_counts A d s due fault.Rounds left h = refl
unsent_counts A d s due fault.Memory left h = refl
