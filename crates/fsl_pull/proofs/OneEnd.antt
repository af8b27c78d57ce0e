-- Syncs have one end at most.
use Rattle.std.specs.Prelude.{◌≡◌, ℕ, ◌+◌, ◌==◌, Bool, true, false, List, [], ◌∷◌, ◌++◌, length, map, Option, Some, None, Result, Ok, Err, MatchBool, MatchOption, if◌then◌else◌}
use Rattle.std.proofs.Common.{refl, sym, ap, subst, ◌∙◌, inl, inr, arith, length-append}
use Rattle.fsl_wire.specs.declared.WireCard.{WireCard}
use Rattle.fsl_wire.specs.declared.WireCard.TheVariants as cards
use Rattle.fsl_wire.specs.declared.WireFault.{WireFault}
use Rattle.fsl_wire.specs.Messages.{IsNumberedMessage, IsFirstFault}
use Rattle.fsl_wire.proofs.OneWay.{one_numbered, reads_one_way}
use Rattle.fsl_repo.specs.declared.Arrival.{Arrival}
use Rattle.fsl_repo.specs.declared.Arrival.TheVariants as arrival
use Rattle.fsl_repo.specs.Machine.{State, now, arrived, unclustered_names}
use Rattle.fsl_repo.proofs.OneList.{are_one_list}
use Rattle.fsl_repo.proofs.OneArrival.{one_arrival}
use Rattle.fsl_http.specs.Responses.{Exchanged, no_head, status, long, short, body}
use Rattle.fsl_pull.specs.declared.Login.{Login}
use Rattle.fsl_pull.specs.declared.PeerFault.{PeerFault}
use Rattle.fsl_pull.specs.declared.PeerFault.TheVariants as peer
use Rattle.fsl_pull.specs.declared.PullFault.{PullFault}
use Rattle.fsl_pull.specs.declared.PullFault.TheVariants as fault
use Rattle.fsl_pull.specs.Rounds.{Round, Point, End, Then, goes_on, ends, Course, GoOn, EndsIn, IsSync, given_up, state_of}
use Rattle.fsl_pull.specs.Requests.{request_bytes, push_cards}
use Rattle.fsl_pull.specs.Replies.{fault_line, cards_read, IsBodyRead, IsReplyRead, sequel_in}
use Rattle.fsl_pull.specs.Arrivals.{Taken, Takes, AreWants, AreUnclustered, stopped_by, is_onward}
use Rattle.fsl_pull.specs.Pulls.{pull_then, uncommitted, unread, IsPulled, IsPullReply, PullRound, pull_start, stopped_end}
use Rattle.fsl_pull.specs.Pushes.{Sending, files_to_send, asked_here, sent_on, push_ended, quiet_then, push_then, push_uncommitted, IsPushReply, IsPushRequest, PushRound, push_start}
use Rattle.fsl_pull.specs.Clones.{Cloning, project_in, first_record, begun_with, clone_then, IsCloned, IsBegun, IsCloneReply, CloneRound, clone_start, not_empty_end}
use Rattle.fsl_pull.specs.Locals.{local_reply, IsLocalReply, local_then, IsLocalTaken, LocalRound, AreLocalRounds, project_code, other_project_end}
use Rattle.fsl_pull.specs.Laws.{replies, SyncsHaveOneEnd}
use Rattle.fsl_pull.proofs.Settled.{Told}
use Rattle.fsl_pull.proofs.TakesLemmas.{FileTaken}
use Rattle.fsl_pull.proofs.ReadLemmas.{same_read, held_of}
use Rattle.fsl_pull.proofs.EndsWell.{one_wants, end_is}
use Rattle.std.proofs.lemmas.List.{length-map, append-nil}
use Rattle.std.specs.Str.{bytes_eq}
use Rattle.std.specs.List.{list_all}
use Rattle.fsl_order.specs.Names.{has}

-- ---- rounds of which one thing is said

-- a round with one reply has one request, and one thing is said of it
abbrev pub IsDetermined : {M Q A : Type 0} → Course M Q A → Type 0
IsDetermined {M} {Q} {A} R = (p : Point M) (r q : Round Q A) (a b : Then M) → q.reply ≡ r.reply → R p r a → R p q b → (q ≡ r) × (b ≡ a)

-- or one thing, whatever its request is
abbrev pub IsDecided : {M Q A : Type 0} → Course M Q A → Type 0
IsDecided {M} {Q} {A} R = (p : Point M) (r q : Round Q A) (a b : Then M) → q.reply ≡ r.reply → R p r a → R p q b → b ≡ a

pub decided : {M Q A : Type 0} (R : Course M Q A) → IsDetermined R → IsDecided R
decided R one p r q a b same h k = (one p r q a b same h k).1

point_one : {M : Type 0} (p q : Point M) → goes_on q ≡ goes_on p → q ≡ p
point_one p q h = cc

apart : {M : Type 0} (e : End) (p : Point M) → ends e ≡ goes_on p → ⊥
apart e p h = cc

module _ {M Q A : Type 0} (R : Course M Q A) (one : IsDetermined R) where
  first_reply : (r q : Round Q A) (rs qs : List (Round Q A)) (more : List A) → replies (q ∷ qs) ≡ replies (r ∷ rs) ++ more → q.reply ≡ r.reply
  first_reply r q rs qs more e = cc

  other_replies : (r q : Round Q A) (rs qs : List (Round Q A)) (more : List A) → replies (q ∷ qs) ≡ replies (r ∷ rs) ++ more → replies qs ≡ replies rs ++ more
  other_replies r q rs qs more e = cc

  both_end : (p : Point M) (xs ys : List (Round Q A)) (more : List A) (e f : End) → replies ys ≡ replies xs ++ more → EndsIn R p xs e → EndsIn R p ys f → (ys ≡ xs) × (f ≡ e)
  both_end p [] ys more e f same h k = absurd h
  both_end p (r ∷ rs) [] more e f same h k = absurd k
  both_end p (r ∷ rs) (q ∷ qs) more e f same (inl h) (inl k) =
      let is = one p r q (ends e) (ends f) (first_reply r q rs qs more same) h.1 k.1 in
      (λ i. is.0 i ∷ (k.0 ∙ sym h.0) i, end_is M f e is.1)
  both_end p (r ∷ rs) (q ∷ qs) more e f same (inl h) (inr k) =
      absurd (apart e k.0 (sym (one p r q (ends e) (goes_on k.0) (first_reply r q rs qs more same) h.1 k.1).1))
  both_end p (r ∷ rs) (q ∷ qs) more e f same (inr h) (inl k) =
      absurd (apart f h.0 (one p r q (goes_on h.0) (ends f) (first_reply r q rs qs more same) h.1 k.1).1)
  both_end p (r ∷ rs) (q ∷ qs) more e f same (inr h) (inr k) =
      let is = one p r q (goes_on h.0) (goes_on k.0) (first_reply r q rs qs more same) h.1 k.1 in
      let rest = both_end h.0 rs qs more e f (other_replies r q rs qs more same) h.2 (subst (λ (m : Point M). EndsIn R m qs f) (point_one h.0 k.0 is.1) k.2) in
      (λ i. is.0 i ∷ rest.0 i, rest.1)

  -- rounds of which none is the end go on where others are at their end
  go_past : (p : Point M) (xs ys : List (Round Q A)) (more : List A) (e : End) (z : Point M) → replies ys ≡ replies xs ++ more → EndsIn R p xs e → GoOn R p ys z → ⊥
  go_past p [] ys more e z same h k = h
  go_past p (r ∷ rs) [] more e z same h k = none same
    where
      none : [] ≡ replies (r ∷ rs) ++ more → ⊥
      none x = cc
  go_past p (r ∷ rs) (q ∷ qs) more e z same (inl h) k =
      apart e k.0 (sym (one p r q (ends e) (goes_on k.0) (first_reply r q rs qs more same) h.1 k.1).1)
  go_past p (r ∷ rs) (q ∷ qs) more e z same (inr h) k =
      let is = one p r q (goes_on h.0) (goes_on k.0) (first_reply r q rs qs more same) h.1 k.1 in
      go_past h.0 rs qs more e z (other_replies r q rs qs more same) h.2 (subst (λ (m : Point M). GoOn R m qs z) (point_one h.0 k.0 is.1) k.2)

  both_go : (p : Point M) (xs ys : List (Round Q A)) (y z : Point M) → replies ys ≡ replies xs ++ [] → GoOn R p xs y → GoOn R p ys z → (ys ≡ xs) × (z ≡ y)
  both_go p [] [] y z same h k = (refl, k ∙ sym h)
  both_go p [] (q ∷ qs) y z same h k = absurd (none same)
    where
      none : replies (q ∷ qs) ≡ [] → ⊥
      none x = cc
  both_go p (r ∷ rs) [] y z same h k = absurd (none same)
    where
      none : [] ≡ replies (r ∷ rs) ++ [] → ⊥
      none x = cc
  both_go p (r ∷ rs) (q ∷ qs) y z same h k =
      let is = one p r q (goes_on h.0) (goes_on k.0) (first_reply r q rs qs [] same) h.1 k.1 in
      let rest = both_go h.0 rs qs y z (other_replies r q rs qs [] same) h.2 (subst (λ (m : Point M). GoOn R m qs z) (point_one h.0 k.0 is.1) k.2) in
      (λ i. is.0 i ∷ rest.0 i, rest.1)

  counted : (xs ys : List (Round Q A)) (more : List A) → replies ys ≡ replies xs ++ more → length ys ≡ length xs + length more
  counted xs ys more e =
      sym (length-map ys (λ (r : Round Q A). r.reply)) ∙ ap length e ∙ length-append (replies xs) more
      ∙ ap (λ (n : ℕ). n + length more) (length-map xs (λ (r : Round Q A). r.reply))

  no_more : (more : List A) → length more ≡ 0 → more ≡ []
  no_more [] e = refl
  no_more (x ∷ more) e = absurd (omega (arith, e))

  pub one_sync : (p : Point M) (xs ys : List (Round Q A)) (more : List A) (e f : End) → replies ys ≡ replies xs ++ more → IsSync R p xs e → IsSync R p ys f → (ys ≡ xs) × (f ≡ e)
  one_sync p xs ys more e f same (inl h) (inl k) = both_end p xs ys more e f same h.1 k.1
  one_sync p xs ys more e f same (inl h) (inr k) = absurd (go_past p xs ys more e k.1.0 same h.1 k.1.1)
  one_sync p xs ys more e f same (inr h) (inl k) =
      let none = no_more more (omega (arith, counted xs ys more same, h.0, k.0)) in
      absurd (go_past p ys xs [] f h.1.0 (sym (same ∙ ap (λ (m : List A). replies xs ++ m) none ∙ append-nil (replies xs)) ∙ sym (append-nil (replies ys))) k.1 h.1.1)
  one_sync p xs ys more e f same (inr h) (inr k) =
      let none = no_more more (omega (arith, counted xs ys more same, h.0, k.0)) in
      let is = both_go p xs ys h.1.0 k.1.0 (same ∙ ap (λ (m : List A). replies xs ++ m) none) h.1.1 k.1.1 in
      (is.0, k.1.2 ∙ ap (given_up fault.Rounds) is.1 ∙ sym h.1.2)

-- ---- rounds whose requests have no part in it

module _ {M Q A : Type 0} (R : Course M Q A) (one : IsDecided R) where
  first_came : (r q : Round Q A) (rs qs : List (Round Q A)) (more : List A) → replies (q ∷ qs) ≡ replies (r ∷ rs) ++ more → q.reply ≡ r.reply
  first_came r q rs qs more e = cc

  others_came : (r q : Round Q A) (rs qs : List (Round Q A)) (more : List A) → replies (q ∷ qs) ≡ replies (r ∷ rs) ++ more → replies qs ≡ replies rs ++ more
  others_came r q rs qs more e = cc

  abbrev Alike : List (Round Q A) → List (Round Q A) → Type 0
  Alike xs ys = replies ys ≡ replies xs

  one_reply : (r q : Round Q A) (rs qs : List (Round Q A)) → rs ≡ [] → qs ≡ [] → q.reply ≡ r.reply → Alike (r ∷ rs) (q ∷ qs)
  one_reply r q rs qs e f same = λ i. same i ∷ (ap replies f ∙ sym (ap replies e)) i

  ends_alike : (p : Point M) (xs ys : List (Round Q A)) (more : List A) (e f : End) → replies ys ≡ replies xs ++ more → EndsIn R p xs e → EndsIn R p ys f → Alike xs ys × (f ≡ e)
  ends_alike p [] ys more e f same h k = absurd h
  ends_alike p (r ∷ rs) [] more e f same h k = absurd k
  ends_alike p (r ∷ rs) (q ∷ qs) more e f same (inl h) (inl k) =
      let came = first_came r q rs qs more same in (one_reply r q rs qs h.0 k.0 came, end_is M f e (one p r q (ends e) (ends f) came h.1 k.1))
  ends_alike p (r ∷ rs) (q ∷ qs) more e f same (inl h) (inr k) = absurd (apart e k.0 (sym (one p r q (ends e) (goes_on k.0) (first_came r q rs qs more same) h.1 k.1)))
  ends_alike p (r ∷ rs) (q ∷ qs) more e f same (inr h) (inl k) = absurd (apart f h.0 (one p r q (goes_on h.0) (ends f) (first_came r q rs qs more same) h.1 k.1))
  ends_alike p (r ∷ rs) (q ∷ qs) more e f same (inr h) (inr k) =
      let came = first_came r q rs qs more same in
      let is = one p r q (goes_on h.0) (goes_on k.0) came h.1 k.1 in
      let rest = ends_alike h.0 rs qs more e f (others_came r q rs qs more same) h.2 (subst (λ (m : Point M). EndsIn R m qs f) (point_one h.0 k.0 is) k.2) in
      (λ i. came i ∷ rest.0 i, rest.1)

  never_past : (p : Point M) (xs ys : List (Round Q A)) (more : List A) (e : End) (z : Point M) → replies ys ≡ replies xs ++ more → EndsIn R p xs e → GoOn R p ys z → ⊥
  never_past p [] ys more e z same h k = h
  never_past p (r ∷ rs) [] more e z same h k = none same
    where
      none : [] ≡ replies (r ∷ rs) ++ more → ⊥
      none x = cc
  never_past p (r ∷ rs) (q ∷ qs) more e z same (inl h) k = apart e k.0 (sym (one p r q (ends e) (goes_on k.0) (first_came r q rs qs more same) h.1 k.1))
  never_past p (r ∷ rs) (q ∷ qs) more e z same (inr h) k =
      let is = one p r q (goes_on h.0) (goes_on k.0) (first_came r q rs qs more same) h.1 k.1 in
      never_past h.0 rs qs more e z (others_came r q rs qs more same) h.2 (subst (λ (m : Point M). GoOn R m qs z) (point_one h.0 k.0 is) k.2)

  go_alike : (p : Point M) (xs ys : List (Round Q A)) (y z : Point M) → replies ys ≡ replies xs ++ [] → GoOn R p xs y → GoOn R p ys z → Alike xs ys × (z ≡ y)
  go_alike p [] [] y z same h k = (refl, k ∙ sym h)
  go_alike p [] (q ∷ qs) y z same h k = absurd (none same)
    where
      none : replies (q ∷ qs) ≡ [] → ⊥
      none x = cc
  go_alike p (r ∷ rs) [] y z same h k = absurd (none same)
    where
      none : [] ≡ replies (r ∷ rs) ++ [] → ⊥
      none x = cc
  go_alike p (r ∷ rs) (q ∷ qs) y z same h k =
      let came = first_came r q rs qs [] same in
      let is = one p r q (goes_on h.0) (goes_on k.0) came h.1 k.1 in
      let rest = go_alike h.0 rs qs y z (others_came r q rs qs [] same) h.2 (subst (λ (m : Point M). GoOn R m qs z) (point_one h.0 k.0 is) k.2) in
      (λ i. came i ∷ rest.0 i, rest.1)

  how_many : (xs ys : List (Round Q A)) (more : List A) → replies ys ≡ replies xs ++ more → length ys ≡ length xs + length more
  how_many xs ys more e =
      sym (length-map ys (λ (r : Round Q A). r.reply)) ∙ ap length e ∙ length-append (replies xs) more
      ∙ ap (λ (n : ℕ). n + length more) (length-map xs (λ (r : Round Q A). r.reply))

  none_left : (more : List A) → length more ≡ 0 → more ≡ []
  none_left [] e = refl
  none_left (x ∷ more) e = absurd (omega (arith, e))

  pub alike_sync : (p : Point M) (xs ys : List (Round Q A)) (more : List A) (e f : End) → replies ys ≡ replies xs ++ more → IsSync R p xs e → IsSync R p ys f → Alike xs ys × (f ≡ e)
  alike_sync p xs ys more e f same (inl h) (inl k) = ends_alike p xs ys more e f same h.1 k.1
  alike_sync p xs ys more e f same (inl h) (inr k) = absurd (never_past p xs ys more e k.1.0 same h.1 k.1.1)
  alike_sync p xs ys more e f same (inr h) (inl k) =
      let none = none_left more (omega (arith, how_many xs ys more same, h.0, k.0)) in
      absurd (never_past p ys xs [] f h.1.0 (sym (same ∙ ap (λ (m : List A). replies xs ++ m) none ∙ append-nil (replies xs)) ∙ sym (append-nil (replies ys))) k.1 h.1.1)
  alike_sync p xs ys more e f same (inr h) (inr k) =
      let none = none_left more (omega (arith, how_many xs ys more same, h.0, k.0)) in
      let is = go_alike p xs ys h.1.0 k.1.0 (same ∙ ap (λ (m : List A). replies xs ++ m) none) h.1.1 k.1.1 in
      (is.0, k.1.2 ∙ ap (given_up fault.Rounds) is.1 ∙ sym h.1.2)

-- ---- replies

no_lines : {P : Type 0} (text : List ℕ) (f : WireFault) (lines : List (ℕ × WireCard)) → IsFirstFault text f → IsNumberedMessage text lines → P
no_lines text f lines h k = absurd (reads_one_way.not_both text (map (λ l. l.1) lines) f (lines, k, refl) h)

body_one : (text : List ℕ) (a b : Result (List WireCard) PeerFault) → IsBodyRead text a → IsBodyRead text b → b ≡ a
body_one text a b (inl h) (inl k) = k.2 ∙ ap (λ (f : WireFault). Err (peer.Line (fault_line f))) (reads_one_way.one_fault text k.0 h.0 k.1 h.1) ∙ sym h.2
body_one text a b (inl h) (inr k) = no_lines text h.0 k.0 h.1 k.1
body_one text a b (inr h) (inl k) = no_lines text k.0 h.0 k.1 h.1
body_one text a b (inr h) (inr k) = k.2 ∙ ap cards_read (one_numbered text k.0 h.0 k.1 h.1) ∙ sym h.2

pub read_one : (r : Exchanged) (a b : Result (List WireCard) PeerFault) → IsReplyRead r a → IsReplyRead r b → b ≡ a
read_one no_head a b h k = k ∙ sym h
read_one (status n) a b h k = k ∙ sym h
read_one (long n) a b h k = k ∙ sym h
read_one (short n) a b h k = k ∙ sym h
read_one (body text) a b h k = body_one text a b h k

-- ---- arrivals

file_one : (s : State) (name bytes : List ℕ) (due : Option ℕ) (rest : List WireCard) (answer : Told) (t u : Taken) → ((s2 : State) (x y : Taken) → Takes s2 due rest x → Takes s2 due rest y → y ≡ x) → FileTaken s name bytes due rest t answer → FileTaken s name bytes due rest u answer → u ≡ t
file_one s name bytes due rest (Ok a) t u others h k =
    k.2 ∙ ap (λ (m : Taken). record m { arrivals = a ∷ m.arrivals }) (others (arrived s name None bytes false (Ok a)) h.0 k.0 h.1 k.1) ∙ sym h.2
file_one s name bytes due rest (Err why) t u others h k = k ∙ sym h

sequel_one : (b : Bool) (s : State) (rest : List WireCard) (why : PullFault) (t u : Taken) → ((x y : Taken) → Takes s None rest x → Takes s None rest y → y ≡ x) → MatchBool b (Takes s None rest t) (t ≡ stopped_by s why) → MatchBool b (Takes s None rest u) (u ≡ stopped_by s why) → u ≡ t
sequel_one true s rest why t u others h k = others t u h k
sequel_one false s rest why t u others h k = k ∙ sym h

pub takes_one : (s : State) (due : Option ℕ) (reply : List WireCard) (t u : Taken) → Takes s due reply t → Takes s due reply u → u ≡ t
takes_one s due [] t u h k = k ∙ sym h
takes_one s due (cards.File name bytes ∷ rest) t u h k =
    file_one s name bytes due rest h.0 t u (λ s2 x y. takes_one s2 due rest x y) h.2
    (subst (FileTaken s name bytes due rest u) (one_arrival s name bytes false k.0 h.0 k.1 h.1) k.2)
takes_one s (Some from) (cards.CloneSeqno next ∷ rest) t u h k = sequel_one (is_onward from next) s rest (fault.Peer (peer.Sequence next)) t u (λ x y. takes_one s None rest x y) h k
takes_one s None (cards.CloneSeqno next ∷ rest) t u h k = takes_one s None rest t u h k
takes_one s due (cards.Login user nonce signature tail line ∷ rest) t u h k = takes_one s due rest t u h k
takes_one s due (cards.Push server project ∷ rest) t u h k = takes_one s due rest t u h k
takes_one s due (cards.Pull server project ∷ rest) t u h k = takes_one s due rest t u h k
takes_one s due (cards.Clone from ∷ rest) t u h k = takes_one s due rest t u h k
takes_one s due (cards.Private ∷ rest) t u h k = takes_one s due rest t u h k
takes_one s due (cards.Igot name private ∷ rest) t u h k = takes_one s due rest t u h k
takes_one s due (cards.Gimme name ∷ rest) t u h k = takes_one s due rest t u h k
takes_one s due (cards.Error text ∷ rest) t u h k = takes_one s due rest t u h k
takes_one s due (cards.Message text ∷ rest) t u h k = takes_one s due rest t u h k
takes_one s due (cards.SendPrivate ∷ rest) t u h k = takes_one s due rest t u h k

pub one_unclustered : (s : State) (a b : List (List ℕ)) → AreUnclustered s a → AreUnclustered s b → a ≡ b
one_unclustered s a b h k = h.2 ∙ ap unclustered_names (are_one_list (now s).held h.0 k.0 h.1 k.1) ∙ sym k.2

same_round : {Q A : Type 0} (r q : Round Q A) → q.request ≡ r.request → q.reply ≡ r.reply → q ≡ r
same_round r q e f = λ i. record { request = e i; reply = f i }

-- ---- pulls

pulled_one : (p : Point (List (List ℕ))) (reply : List WireCard) (t : Taken) (o : Option PullFault) (a b : Then (List (List ℕ)))
    → MatchOption o ((wanted : List (List ℕ)) × AreWants t.state wanted × (a ≡ pull_then p reply t wanted)) (λ why. a ≡ ends (uncommitted p t why))
    → MatchOption o ((wanted : List (List ℕ)) × AreWants t.state wanted × (b ≡ pull_then p reply t wanted)) (λ why. b ≡ ends (uncommitted p t why)) → b ≡ a
pulled_one p reply t None a b h k = k.2 ∙ ap (pull_then p reply t) (one_wants t.state k.0 h.0 k.1 h.1) ∙ sym h.2
pulled_one p reply t (Some why) a b h k = k ∙ sym h

pull_reply_one : (p : Point (List (List ℕ))) (read : Result (List WireCard) PeerFault) (a b : Then (List (List ℕ))) → IsPullReply p read a → IsPullReply p read b → b ≡ a
pull_reply_one p (Ok reply) a b h k =
    pulled_one p reply h.0 (h.0).fault a b h.2 (subst (λ (t : Taken). IsPulled p reply t b) (takes_one p.state None reply h.0 k.0 h.1 k.1) k.2)
pull_reply_one p (Err why) a b h k = k ∙ sym h

pub pull_determined : (login : Option Login) → IsDetermined (PullRound login)
pull_determined login p r q a b same h k = (
  same_round r q (k.0 ∙ sym h.0) same,
  pull_reply_one p h.1.0 a b h.1.2
      (subst (λ (x : Result (List WireCard) PeerFault). IsPullReply p x b) (read_one r.reply h.1.0 k.1.0 h.1.1 (subst (λ (x : Exchanged). IsReplyRead x k.1.0) same k.1.1)) k.1.2),
)

-- ---- pushes

push_taken_one : (p : Point Sending) (files : List (List ℕ × List ℕ)) (reply : List WireCard) (t : Taken) (o : Option PullFault) (a b : Then Sending)
    → MatchOption o (a ≡ push_then p reply t files) (λ why. a ≡ ends (push_uncommitted p t why)) → MatchOption o (b ≡ push_then p reply t files) (λ why. b ≡ ends (push_uncommitted p t why)) → b ≡ a
push_taken_one p files reply t None a b h k = k ∙ sym h
push_taken_one p files reply t (Some why) a b h k = k ∙ sym h

push_reply_one : (p : Point Sending) (files : List (List ℕ × List ℕ)) (read : Result (List WireCard) PeerFault) (a b : Then Sending) → IsPushReply p files read a → IsPushReply p files read b → b ≡ a
push_reply_one p files (Ok reply) a b h k =
    push_taken_one p files reply h.0 (h.0).fault a b h.2
    (subst (λ (t : Taken). MatchOption t.fault (b ≡ push_then p reply t files) (λ why. b ≡ ends (push_uncommitted p t why))) (takes_one p.state None reply h.0 k.0 h.1 k.1) k.2)
push_reply_one p files (Err why) a b h k = k ∙ sym h

pub push_decided : (login : Option Login) → IsDecided (PushRound login)
push_decided login p r q a b same h k =
    push_reply_one p (files_to_send (now p.state) p.memory) h.3.0 a b h.3.2
    (subst (λ (x : Result (List WireCard) PeerFault). IsPushReply p (files_to_send (now p.state) p.memory) x b) (read_one r.reply h.3.0 k.3.0 h.3.1 (subst (λ (x : Exchanged). IsReplyRead x k.3.0) same k.3.1)) k.3.2)

-- what arrives doesn't change of which kind the disk is
arrived_kind : (s : State) (name bytes : List ℕ) (a : Arrival) → (arrived s name None bytes false (Ok a)).honest ≡ s.honest
arrived_kind s name bytes arrival.Shunned = refl
arrived_kind s name bytes arrival.Present = refl
arrived_kind s name bytes arrival.Published = refl
arrived_kind s name bytes arrival.Stored = refl

file_kind : (s : State) (name bytes : List ℕ) (due : Option ℕ) (rest : List WireCard) (t : Taken) (answer : Told) → ((s2 : State) (x : Taken) → Takes s2 due rest x → x.state.honest ≡ s2.honest) → FileTaken s name bytes due rest t answer → t.state.honest ≡ s.honest
file_kind s name bytes due rest t (Ok a) others h =
    ap (λ (x : Taken). x.state.honest) h.2 ∙ others (arrived s name None bytes false (Ok a)) h.0 h.1 ∙ arrived_kind s name bytes a
file_kind s name bytes due rest t (Err why) others h = ap (λ (x : Taken). x.state.honest) h

pub taken_kind : (s : State) (reply : List WireCard) (t : Taken) → Takes s None reply t → t.state.honest ≡ s.honest
taken_kind s [] t h = ap (λ (x : Taken). x.state.honest) h
taken_kind s (cards.File name bytes ∷ rest) t h = file_kind s name bytes None rest t h.0 (λ s2 x. taken_kind s2 rest x) h.2
taken_kind s (cards.CloneSeqno next ∷ rest) t h = taken_kind s rest t h
taken_kind s (cards.Login user nonce signature tail line ∷ rest) t h = taken_kind s rest t h
taken_kind s (cards.Push server project ∷ rest) t h = taken_kind s rest t h
taken_kind s (cards.Pull server project ∷ rest) t h = taken_kind s rest t h
taken_kind s (cards.Clone from ∷ rest) t h = taken_kind s rest t h
taken_kind s (cards.Private ∷ rest) t h = taken_kind s rest t h
taken_kind s (cards.Igot name private ∷ rest) t h = taken_kind s rest t h
taken_kind s (cards.Gimme name ∷ rest) t h = taken_kind s rest t h
taken_kind s (cards.Error text ∷ rest) t h = taken_kind s rest t h
taken_kind s (cards.Message text ∷ rest) t h = taken_kind s rest t h
taken_kind s (cards.SendPrivate ∷ rest) t h = taken_kind s rest t h

abbrev kind_of : Then Sending → Bool
kind_of step = (state_of step).honest

then_kind : (p : Point Sending) (reply : List WireCard) (t : Taken) (files : List (List ℕ × List ℕ)) → kind_of (push_then p reply t files) ≡ t.state.honest
then_kind p reply t [] = by (asked_here (now t.state) reply)
  where
    by_all : (b : Bool) (least : List ℕ) → kind_of (if b then ends (push_ended p t (Some (fault.Peer (peer.Again least)))) else goes_on (sent_on p reply t [])) ≡ t.state.honest
    by_all true least = refl
    by_all false least = refl

    by : (here : List (List ℕ)) → kind_of (quiet_then p reply t here) ≡ t.state.honest
    by [] = refl
    by (least ∷ more) = by_all (list_all (has p.memory.sent) (least ∷ more)) least
then_kind p reply t (f ∷ files) = refl

taken_kind_by : (p : Point Sending) (reply : List WireCard) (t : Taken) (files : List (List ℕ × List ℕ)) (o : Option PullFault) (step : Then Sending) → MatchOption o (step ≡ push_then p reply t files) (λ why. step ≡ ends (push_uncommitted p t why)) → kind_of step ≡ t.state.honest
taken_kind_by p reply t files None step h = ap kind_of h ∙ then_kind p reply t files
taken_kind_by p reply t files (Some why) step h = ap kind_of h

reply_kind : (p : Point Sending) (files : List (List ℕ × List ℕ)) (read : Result (List WireCard) PeerFault) (step : Then Sending) → IsPushReply p files read step → kind_of step ≡ p.state.honest
reply_kind p files (Ok reply) step h = taken_kind_by p reply h.0 files (h.0).fault step h.2 ∙ taken_kind p.state reply h.0 h.1
reply_kind p files (Err why) step h = ap kind_of h

-- a push over a disk that tells its contents and meets the disk model
abbrev HonestRound : Option Login → Point Sending → Round (List ℕ) Exchanged → Then Sending → Type 0
HonestRound login p r step = PushRound login p r step × (p.state.honest ≡ true)

request_one : (login : Option Login) (p : Point Sending) (names : List (List ℕ)) (request : List ℕ) → p.state.honest ≡ true → IsPushRequest login p names request → request ≡ request_bytes login (push_cards (now p.state) names (files_to_send (now p.state) p.memory))
request_one login p names request is h =
    h.bytes ∙ ap (λ (files : List (List ℕ × List ℕ)). request_bytes login (push_cards (now p.state) names files)) (same_read p.state.honest (files_to_send (now p.state) p.memory) h.files is h.read)

honest_determined : (login : Option Login) → IsDetermined (HonestRound login)
honest_determined login p r q a b same (h, is) (k, _) = (
  same_round r q (
      request_one login p k.0 q.request is k.2
      ∙ ap (λ (names : List (List ℕ)). request_bytes login (push_cards (now p.state) names (files_to_send (now p.state) p.memory))) (one_unclustered p.state k.0 h.0 k.1 h.1)
      ∙ sym (request_one login p h.0 r.request is h.2)
      ) same,
  push_decided login p r q a b same h k,
)

module _ (login : Option Login) where
  kind_on : (p m : Point Sending) (r : Round (List ℕ) Exchanged) → PushRound login p r (goes_on m) → p.state.honest ≡ true → m.state.honest ≡ true
  kind_on p m r h is = reply_kind p (files_to_send (now p.state) p.memory) h.3.0 (goes_on m) h.3.2 ∙ is

  honest_ends : (p : Point Sending) (rounds : List (Round (List ℕ) Exchanged)) (e : End) → p.state.honest ≡ true → EndsIn (PushRound login) p rounds e → EndsIn (HonestRound login) p rounds e
  honest_ends p [] e is h = h
  honest_ends p (r ∷ rounds) e is (inl h) = inl (h.0, (h.1, is))
  honest_ends p (r ∷ rounds) e is (inr h) = inr (h.0, (h.1, is), honest_ends h.0 rounds e (kind_on p h.0 r h.1 is) h.2)

  honest_go : (p : Point Sending) (rounds : List (Round (List ℕ) Exchanged)) (q : Point Sending) → p.state.honest ≡ true → GoOn (PushRound login) p rounds q → GoOn (HonestRound login) p rounds q
  honest_go p [] q is h = h
  honest_go p (r ∷ rounds) q is h = (h.0, (h.1, is), honest_go h.0 rounds q (kind_on p h.0 r h.1 is) h.2)

  honest_sync : (p : Point Sending) (rounds : List (Round (List ℕ) Exchanged)) (e : End) → p.state.honest ≡ true → IsSync (PushRound login) p rounds e → IsSync (HonestRound login) p rounds e
  honest_sync p rounds e is (inl h) = inl (h.0, honest_ends p rounds e is h.1)
  honest_sync p rounds e is (inr h) = inr (h.0, (h.1.0, honest_go p rounds h.1.0 is h.1.1, h.1.2))

-- ---- clones

clone_taken_one : (p : Point Cloning) (reply : List WireCard) (t : Taken) (o : Option PullFault) (a b : Then Cloning)
    → MatchOption o (a ≡ clone_then p t (sequel_in reply)) (λ why. a ≡ ends (uncommitted p t why)) → MatchOption o (b ≡ clone_then p t (sequel_in reply)) (λ why. b ≡ ends (uncommitted p t why)) → b ≡ a
clone_taken_one p reply t None a b h k = k ∙ sym h
clone_taken_one p reply t (Some why) a b h k = k ∙ sym h

cloned_one : (p : Point Cloning) (reply : List WireCard) (a b : Then Cloning) → IsCloned p reply a → IsCloned p reply b → b ≡ a
cloned_one p reply a b h k =
    clone_taken_one p reply h.0 (h.0).fault a b h.2
    (subst (λ (t : Taken). MatchOption t.fault (b ≡ clone_then p t (sequel_in reply)) (λ why. b ≡ ends (uncommitted p t why))) (takes_one p.state (Some p.memory.from) reply h.0 k.0 h.1 k.1) k.2)

begun_one : (server : List ℕ) (fields : List (List ℕ)) (p : Point Cloning) (reply : List WireCard) (o : Option (List ℕ)) (a b : Then Cloning)
    → MatchOption o (a ≡ ends (unread p peer.NoPush)) (λ project. IsCloned (begun_with p (first_record project server fields)) reply a)
    → MatchOption o (b ≡ ends (unread p peer.NoPush)) (λ project. IsCloned (begun_with p (first_record project server fields)) reply b) → b ≡ a
begun_one server fields p reply None a b h k = k ∙ sym h
begun_one server fields p reply (Some project) a b h k = cloned_one (begun_with p (first_record project server fields)) reply a b h k

begin_or_go_on_one : (server : List ℕ) (fields : List (List ℕ)) (p : Point Cloning) (reply : List WireCard) (t : Bool) (a b : Then Cloning)
    → MatchBool t (IsCloned p reply a) (IsBegun server fields p reply a) → MatchBool t (IsCloned p reply b) (IsBegun server fields p reply b) → b ≡ a
begin_or_go_on_one server fields p reply true a b h k = cloned_one p reply a b h k
begin_or_go_on_one server fields p reply false a b h k = begun_one server fields p reply (project_in reply) a b h k

clone_reply_one : (server : List ℕ) (fields : List (List ℕ)) (p : Point Cloning) (read : Result (List WireCard) PeerFault) (a b : Then Cloning) → IsCloneReply server fields p read a → IsCloneReply server fields p read b → b ≡ a
clone_reply_one server fields p (Ok reply) a b h k = begin_or_go_on_one server fields p reply p.memory.begun a b h k
clone_reply_one server fields p (Err why) a b h k = k ∙ sym h

pub clone_determined : (server : List ℕ) (fields : List (List ℕ)) (login : Option Login) → IsDetermined (CloneRound server fields login)
clone_determined server fields login p r q a b same h k = (
  same_round r q (k.0 ∙ sym h.0) same,
  clone_reply_one server fields p h.1.0 a b h.1.2
      (subst (λ (x : Result (List WireCard) PeerFault). IsCloneReply server fields p x b) (read_one r.reply h.1.0 k.1.0 h.1.1 (subst (λ (x : Exchanged). IsReplyRead x k.1.0) same k.1.1)) k.1.2),
)

-- ---- pulls from another repository

local_taken_one : (p : Point (List (List ℕ))) (reply : List WireCard) (t : Taken) (o : Option PullFault) (a b : Then (List (List ℕ)))
    → MatchOption o ((wanted : List (List ℕ)) × AreWants t.state wanted × (a ≡ local_then p reply t wanted)) (λ why. a ≡ ends (uncommitted p t why))
    → MatchOption o ((wanted : List (List ℕ)) × AreWants t.state wanted × (b ≡ local_then p reply t wanted)) (λ why. b ≡ ends (uncommitted p t why)) → b ≡ a
local_taken_one p reply t None a b h k = k.2 ∙ ap (local_then p reply t) (one_wants t.state k.0 h.0 k.1 h.1) ∙ sym h.2
local_taken_one p reply t (Some why) a b h k = k ∙ sym h

-- over a disk that tells its contents and meets the disk model what a peer gives are its own bytes
given_one : (peer : State) (unclustered asked : List (List ℕ)) (reply : List WireCard) → peer.honest ≡ true → IsLocalReply peer unclustered asked reply → reply ≡ local_reply unclustered (held_of peer asked)
given_one peer unclustered asked reply is h = h.2 ∙ ap (local_reply unclustered) (same_read peer.honest (held_of peer asked) h.0 is h.1)

pub local_round_one : (peer : State) (is : peer.honest ≡ true) (unclustered : List (List ℕ)) (p : Point (List (List ℕ))) (r q : Round (List (List ℕ)) (List WireCard)) (a b : Then (List (List ℕ))) → LocalRound peer unclustered p r a → LocalRound peer unclustered p q b → (q ≡ r) × (b ≡ a)
local_round_one peer is unclustered p r q a b h k =
    let same : q.reply ≡ r.reply = given_one peer unclustered p.memory q.reply is k.1 ∙ sym (given_one peer unclustered p.memory r.reply is h.1) in (
      same_round r q (k.0 ∙ sym h.0) same,
      local_taken_one p r.reply h.2.0 (h.2.0).fault a b h.2.2
          (subst (λ (t : Taken). IsLocalTaken p r.reply t b) (takes_one p.state None r.reply h.2.0 k.2.0 h.2.1 (subst (λ (x : List WireCard). Takes p.state None x k.2.0) same k.2.1))
          (subst (λ (x : List WireCard). IsLocalTaken p x k.2.0 b) same k.2.2)),
    )

-- ---- the law

same_stop : {Q A : Type 0} (xs ys : List (Round Q A)) (e f g : End) → (xs ≡ []) × (e ≡ g) → (ys ≡ []) × (f ≡ g) → (ys ≡ xs) × (f ≡ e)
same_stop xs ys e f g h k = (k.0 ∙ sym h.0, k.1 ∙ sym h.1)

pull_by : (login : Option Login) (s : State) (o : Option ℕ) (xs ys : List (Round (List ℕ) Exchanged)) (more : List Exchanged) (e f : End) → replies ys ≡ replies xs ++ more
    → MatchOption o ((wanted : List (List ℕ)) × AreWants s wanted × IsSync (PullRound login) (pull_start s wanted) xs e) (λ faults. (xs ≡ []) × (e ≡ stopped_end s faults))
    → MatchOption o ((wanted : List (List ℕ)) × AreWants s wanted × IsSync (PullRound login) (pull_start s wanted) ys f) (λ faults. (ys ≡ []) × (f ≡ stopped_end s faults)) → (ys ≡ xs) × (f ≡ e)
pull_by login s None xs ys more e f same h k =
    one_sync (PullRound login) (pull_determined login) (pull_start s h.0) xs ys more e f same h.2
    (subst (λ (w : List (List ℕ)). IsSync (PullRound login) (pull_start s w) ys f) (one_wants s k.0 h.0 k.1 h.1) k.2)
pull_by login s (Some faults) xs ys more e f same h k = same_stop xs ys e f (stopped_end s faults) h k

push_by : (login : Option Login) (s : State) (o : Option ℕ) (xs ys : List (Round (List ℕ) Exchanged)) (more : List Exchanged) (e f : End) → replies ys ≡ replies xs ++ more
    → MatchOption o (IsSync (PushRound login) (push_start s) xs e) (λ faults. (xs ≡ []) × (e ≡ stopped_end s faults))
    → MatchOption o (IsSync (PushRound login) (push_start s) ys f) (λ faults. (ys ≡ []) × (f ≡ stopped_end s faults)) → (replies ys ≡ replies xs) × (f ≡ e) × (s.honest ≡ true → ys ≡ xs)
push_by login s None xs ys more e f same h k =
    let alike = alike_sync (PushRound login) (push_decided login) (push_start s) xs ys more e f same h k in (
      alike.0,
      alike.1,
      λ is. (one_sync (HonestRound login) (honest_determined login) (push_start s) xs ys more e f same (honest_sync login (push_start s) xs e is h) (honest_sync login (push_start s) ys f is k)).0,
    )
push_by login s (Some faults) xs ys more e f same h k =
    let stop = same_stop xs ys e f (stopped_end s faults) h k in (ap replies stop.0, stop.1, λ is. stop.0)

clone_by : (server : List ℕ) (fields : List (List ℕ)) (login : Option Login) (len faults : ℕ) (honest : Bool) (b : Bool) (xs ys : List (Round (List ℕ) Exchanged)) (more : List Exchanged) (e f : End) → replies ys ≡ replies xs ++ more
    → MatchBool b (IsSync (CloneRound server fields login) (clone_start faults honest) xs e) ((xs ≡ []) × (e ≡ not_empty_end faults honest len))
    → MatchBool b (IsSync (CloneRound server fields login) (clone_start faults honest) ys f) ((ys ≡ []) × (f ≡ not_empty_end faults honest len)) → (ys ≡ xs) × (f ≡ e)
clone_by server fields login len faults honest true xs ys more e f same h k =
    one_sync (CloneRound server fields login) (clone_determined server fields login) (clone_start faults honest) xs ys more e f same h k
clone_by server fields login len faults honest false xs ys more e f same h k = same_stop xs ys e f (not_empty_end faults honest len) h k

-- rounds of which each says what the next one is
all_local : (peer : State) (is : peer.honest ≡ true) (unclustered : List (List ℕ)) (p : Point (List (List ℕ))) (xs ys : List (Round (List (List ℕ)) (List WireCard))) (e f : End) → EndsIn (LocalRound peer unclustered) p xs e → EndsIn (LocalRound peer unclustered) p ys f → (ys ≡ xs) × (f ≡ e)
all_local peer is unclustered p [] ys e f h k = absurd h
all_local peer is unclustered p (r ∷ rs) [] e f h k = absurd k
all_local peer is unclustered p (r ∷ rs) (q ∷ qs) e f (inl h) (inl k) =
    let one = local_round_one peer is unclustered p r q (ends e) (ends f) h.1 k.1 in (λ i. one.0 i ∷ (k.0 ∙ sym h.0) i, end_is (List (List ℕ)) f e one.1)
all_local peer is unclustered p (r ∷ rs) (q ∷ qs) e f (inl h) (inr k) = absurd (apart e k.0 (sym (local_round_one peer is unclustered p r q (ends e) (goes_on k.0) h.1 k.1).1))
all_local peer is unclustered p (r ∷ rs) (q ∷ qs) e f (inr h) (inl k) = absurd (apart f h.0 (local_round_one peer is unclustered p r q (goes_on h.0) (ends f) h.1 k.1).1)
all_local peer is unclustered p (r ∷ rs) (q ∷ qs) e f (inr h) (inr k) =
    let one = local_round_one peer is unclustered p r q (goes_on h.0) (goes_on k.0) h.1 k.1 in
    let rest = all_local peer is unclustered h.0 rs qs e f h.2 (subst (λ (m : Point (List (List ℕ))). EndsIn (LocalRound peer unclustered) m qs f) (point_one h.0 k.0 one.1) k.2) in
    (λ i. one.0 i ∷ rest.0 i, rest.1)

local_rounds_one : (s peer : State) (is : peer.honest ≡ true) (xs ys : List (Round (List (List ℕ)) (List WireCard))) (e f : End) → AreLocalRounds s peer xs e → AreLocalRounds s peer ys f → (ys ≡ xs) × (f ≡ e)
local_rounds_one s peer is xs ys e f h k =
    let unclustered = one_unclustered peer k.0 h.0 k.1 h.1 in
    let wanted = one_wants s k.2.0 h.2.0 k.2.1 h.2.1 in
    all_local peer is h.0 (pull_start s h.2.0) xs ys e f h.2.2
    (subst (λ (w : List (List ℕ)). EndsIn (LocalRound peer h.0) (pull_start s w) ys f) wanted
    (subst (λ (u : List (List ℕ)). EndsIn (LocalRound peer u) (pull_start s k.2.0) ys f) unclustered k.2.2))

local_by : (s peer : State) (is : peer.honest ≡ true) (o : Option ℕ) (xs ys : List (Round (List (List ℕ)) (List WireCard))) (e f : End)
    → MatchOption o (AreLocalRounds s peer xs e) (λ faults. (xs ≡ []) × (e ≡ stopped_end s faults)) → MatchOption o (AreLocalRounds s peer ys f) (λ faults. (ys ≡ []) × (f ≡ stopped_end s faults)) → (ys ≡ xs) × (f ≡ e)
local_by s peer is None xs ys e f h k = local_rounds_one s peer is xs ys e f h k
local_by s peer is (Some faults) xs ys e f h k = same_stop xs ys e f (stopped_end s faults) h k

local_all : (s peer : State) (is : peer.honest ≡ true) (b : Bool) (xs ys : List (Round (List (List ℕ)) (List WireCard))) (e f : End)
    → MatchBool b (MatchOption s.stopped (AreLocalRounds s peer xs e) (λ faults. (xs ≡ []) × (e ≡ stopped_end s faults))) ((xs ≡ []) × (e ≡ other_project_end s (project_code (now peer))))
    → MatchBool b (MatchOption s.stopped (AreLocalRounds s peer ys f) (λ faults. (ys ≡ []) × (f ≡ stopped_end s faults))) ((ys ≡ []) × (f ≡ other_project_end s (project_code (now peer)))) → (ys ≡ xs) × (f ≡ e)
local_all s peer is true xs ys e f h k = local_by s peer is s.stopped xs ys e f h k
local_all s peer is false xs ys e f h k = same_stop xs ys e f (other_project_end s (project_code (now peer))) h k

pub syncs_have_one_end : SyncsHaveOneEnd
syncs_have_one_end =
    record {
      pull = λ login s xs ys more e f same h k. pull_by login s s.stopped xs ys more e f same h k;
      push = λ login s xs ys more e f same h k. push_by login s s.stopped xs ys more e f same h k;
      clone = λ server fields login len faults honest xs ys more e f same h k. clone_by server fields login len faults honest (len == 0) xs ys more e f same h k;
      local = λ s peer xs ys e f is h k. local_all s peer is (bytes_eq (project_code (now s)) (project_code (now peer))) xs ys e f h k;
    }
