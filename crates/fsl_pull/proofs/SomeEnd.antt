-- Syncs have an end: of each list of replies some first ones are a sync that ended, or all go on.
use Rattle.std.specs.Prelude.{◌≡◌, ℕ, ◌+◌, ◌^◌, ◌==◌, ◌⊎◌, Bool, true, false, nat_lt, List, [], ◌∷◌, ◌++◌, length, Option, Some, None, Result, Ok, Err, MatchBool, MatchOption}
use Rattle.std.proofs.Common.{refl, ap, ◌∙◌, inl, inr, arith, length-append}
use Rattle.std.proofs.lemmas.List.{length-map}
use Rattle.std.specs.Str.{bytes_eq}
use Rattle.std.specs.FinMap as map_of
use Rattle.std.specs.FinSet as set
use Rattle.fsl_name.specs.Name.{name_of}
use Rattle.fsl_record.specs.declared.Record.TheVariants as record_of
use Rattle.fsl_wire.specs.declared.WireCard.{WireCard}
use Rattle.fsl_wire.specs.declared.WireCard.TheVariants as cards
use Rattle.fsl_blobs.specs.Fold.{HeldSet, Contents, after}
use Rattle.fsl_wire.specs.declared.WireFault.{WireFault}
use Rattle.fsl_wire.specs.Messages.{IsMessage, IsFirstFault}
use Rattle.fsl_wire.proofs.OneWay.{reads_one_way}
use Rattle.fsl_repo.proofs.SomeArrival.{some_items}
use Rattle.fsl_cross.specs.declared.Item.{Item}
use Rattle.fsl_repo.specs.declared.Arrival.{Arrival}
use Rattle.fsl_repo.specs.declared.Arrival.TheVariants as arrival
use Rattle.fsl_repo.specs.declared.ArriveFault.{ArriveFault}
use Rattle.fsl_repo.specs.declared.ArriveFault.TheVariants as arrive_fault
use Rattle.fsl_repo.specs.Machine.{State, now, AreItems, wants, unclustered_names, room, again, IsRoom, IsArrivalOf, IsArrival, arrived}
use Rattle.fsl_http.specs.Responses.{Exchanged, no_head, status, long, short, body}
use Rattle.fsl_pull.specs.declared.Login.{Login}
use Rattle.fsl_pull.specs.declared.PeerFault.{PeerFault}
use Rattle.fsl_pull.specs.declared.PeerFault.TheVariants as peer
use Rattle.fsl_pull.specs.declared.PullFault.{PullFault}
use Rattle.fsl_pull.specs.declared.PullFault.TheVariants as fault
use Rattle.fsl_pull.specs.Rounds.{Round, Point, End, Then, goes_on, ends, Course, GoOn, EndsIn, IsSync, given_up, most_rounds}
use Rattle.fsl_pull.specs.Requests.{request_bytes, pull_cards, push_cards, clone_cards}
use Rattle.fsl_pull.specs.Replies.{IsReplyRead, sequel_in, cards_read, fault_line}
use Rattle.fsl_pull.specs.Arrivals.{Taken, Takes, AreWants, AreUnclustered, arrival_fault, stopped_by, is_onward}
use Rattle.fsl_pull.specs.Pulls.{pull_then, uncommitted, unread, IsPullReply, PullRound, pull_start, stopped_end, IsPull}
use Rattle.fsl_pull.specs.Pushes.{Sending, files_to_send, push_then, push_uncommitted, IsPushReply, PushRound, push_start, IsPush}
use Rattle.fsl_pull.specs.Clones.{Cloning, project_in, first_record, begun_with, clone_then, IsCloned, IsBegun, IsCloneReply, CloneRound, clone_start, not_empty_end, IsClone}
use Rattle.fsl_pull.specs.Locals.{local_reply, local_then, LocalRound}
use Rattle.fsl_pull.proofs.ReadLemmas.{as_they_are, held_of}
use Rattle.fsl_pull.specs.Laws.{replies, HasSomeEnd, SyncsHaveSomeEnd}

-- ---- rounds, of which one thing is said of each reply

abbrev pub HasStep : {M Q A : Type 0} → Course M Q A → Type 0
HasStep {M} {Q} {A} R = (p : Point M) (a : A) → (q : Q) × (step : Then M) × R p (record { request = q; reply = a }) step

-- the rounds are a sync that ended, or all of them go on and no reply is left
abbrev pub IsFollowed : {M Q A : Type 0} → Course M Q A → Point M → List (Round Q A) → List A → Type 0
IsFollowed {M} R p rounds rest = ((e : End) × EndsIn R p rounds e) ⊎ ((q : Point M) × GoOn R p rounds q × (rest ≡ []))

-- some first replies end the sync, or all of them go on
abbrev pub Followed : {M Q A : Type 0} → Course M Q A → Point M → List A → Type 0
Followed {M} {Q} {A} R p came = (rounds : List (Round Q A)) × (rest : List A) × (came ≡ replies rounds ++ rest) × IsFollowed R p rounds rest

module _ {M Q A : Type 0} (R : Course M Q A) (some : HasStep R) where
  abbrev on : (p m : Point M) (r : Round Q A) (rest : List A) → R p r (goes_on m) → (rounds : List (Round Q A)) → IsFollowed R m rounds rest → IsFollowed R p (r ∷ rounds) rest
  on p m r rest is rounds (inl h) = inl (h.0, inr (m, is, h.1))
  on p m r rest is rounds (inr h) = inr (h.0, (m, is, h.1), h.2)

  abbrev one_more : (p m : Point M) (r : Round Q A) (came : List A) → R p r (goes_on m) → Followed R m came → Followed R p (r.reply ∷ came)
  one_more p m r came is more = (r ∷ more.0, more.1, ap (λ (xs : List A). r.reply ∷ xs) more.2, on p m r more.1 is more.0 more.3)

  abbrev by_step : (p : Point M) (r : Round Q A) (came : List A) (step : Then M) → R p r step → ((m : Point M) → Followed R m came) → Followed R p (r.reply ∷ came)
  by_step p r came (goes_on m) is others = one_more p m r came is (others m)
  by_step p r came (ends e) is others = (r ∷ [], came, refl, inl (e, inl (refl, is)))

  abbrev pub follow : (p : Point M) (came : List A) → Followed R p came
  follow p [] = ([], [], refl, inr (p, refl, refl))
  follow p (a ∷ came) = by_step p (record { request = (some p a).0; reply = a }) came (some p a).1 (some p a).2 (λ m. follow m came)

  counted : (rounds : List (Round Q A)) (came rest : List A) → came ≡ replies rounds ++ rest → length came ≡ length rounds + length rest
  counted rounds came rest e = ap length e ∙ length-append (replies rounds) rest ∙ ap (λ (n : ℕ). n + length rest) (length-map rounds (λ (r : Round Q A). r.reply))

  -- of came many replies came a sync may have, some first ones are a sync
  pub some_sync : (p : Point M) (came : List A) → length came ≡ most_rounds → (rounds : List (Round Q A)) × (rest : List A) × (e : End) × (came ≡ replies rounds ++ rest) × IsSync R p rounds e
  some_sync p came many = by_end (follow p came)
    where
      by_end : Followed R p came → (rounds : List (Round Q A)) × (rest : List A) × (e : End) × (came ≡ replies rounds ++ rest) × IsSync R p rounds e
      by_end (rounds, rest, split, inl h) = (rounds, rest, h.0, split, inl (omega (arith, counted rounds came rest split, many), h.1))
      by_end (rounds, rest, split, inr h) =
          let none : length rest ≡ 0 = ap length h.2 in
          (rounds, rest, given_up fault.Rounds h.0, split, inr (omega (arith, counted rounds came rest split, many, none), (h.0, h.1, refl)))

-- ---- what is said of each reply, where held artifacts have items and replies read

module _ (items_for : (held : HeldSet) → (items : List Item) × AreItems held items) (read_for : (a : Exchanged) → (read : Result (List WireCard) PeerFault) × IsReplyRead a read) where
  abbrev pub wants_for : (s : State) → (names : List (List ℕ)) × AreWants s names
  wants_for s = (wants (now s) (items_for (now s).held).0, ((items_for (now s).held).0, (items_for (now s).held).1, refl))

  abbrev pub unclustered_for : (s : State) → (names : List (List ℕ)) × AreUnclustered s names
  unclustered_for s = (unclustered_names (items_for (now s).held).0, ((items_for (now s).held).0, (items_for (now s).held).1, refl))

  -- ---- arrivals

  abbrev Told : Type 0
  Told = Result Arrival ArriveFault

  abbrev Some_of : (Told → Type 0) → Type 0
  Some_of P = (a : Told) × P a

  abbrev by_test : (t : Bool) (P Q : Told → Type 0) → Some_of P → Some_of Q → Some_of (λ a. MatchBool t (P a) (Q a))
  by_test true P Q p q = p
  by_test false P Q p q = q

  abbrev by_option : {X : Type 0} (o : Option X) (P : Told → Type 0) (Q : X → Told → Type 0) → Some_of P → ((x : X) → Some_of (Q x)) → Some_of (λ a. MatchOption o (P a) (λ x. Q x a))
  by_option None P Q p q = p
  by_option (Some x) P Q p q = q x

  abbrev room_for : (c : Contents) → Some_of (IsRoom c)
  room_for c = (room c (items_for c.held).0, ((items_for c.held).0, (items_for c.held).1, refl))

  abbrev arrival_of_for : (c : Contents) (name bytes : List ℕ) (private : Bool) → Some_of (IsArrivalOf c name bytes private)
  arrival_of_for c name bytes private =
      by_test (set.contains c.shunned name) (λ r. r ≡ Ok arrival.Shunned)
      (λ r. MatchOption (map_of.get c.held name) (IsRoom (after c (record_of.Blob private name None bytes)) r) (λ held. r ≡ Ok (again held private)))
      (Ok arrival.Shunned, refl)
      (by_option (map_of.get c.held name) (IsRoom (after c (record_of.Blob private name None bytes))) (λ held r. r ≡ Ok (again held private))
      (room_for (after c (record_of.Blob private name None bytes))) (λ held. (Ok (again held private), refl)))

  abbrev arrival_for : (s : State) (name bytes : List ℕ) (private : Bool) → Some_of (IsArrival s name bytes private)
  arrival_for s name bytes private =
      by_option s.stopped
      (λ r.
      MatchBool (nat_lt (2 ^ 24) (length bytes)) (r ≡ Err (arrive_fault.TooLarge (length bytes)))
      (MatchBool (bytes_eq (name_of bytes) name) (IsArrivalOf (now s) name bytes private r) (r ≡ Err (arrive_fault.NameWrong (name_of bytes)))))
      (λ faults r. r ≡ Err (arrive_fault.Stopped faults))
      (by_test (nat_lt (2 ^ 24) (length bytes)) (λ r. r ≡ Err (arrive_fault.TooLarge (length bytes)))
      (λ r. MatchBool (bytes_eq (name_of bytes) name) (IsArrivalOf (now s) name bytes private r) (r ≡ Err (arrive_fault.NameWrong (name_of bytes))))
      (Err (arrive_fault.TooLarge (length bytes)), refl)
      (by_test (bytes_eq (name_of bytes) name) (IsArrivalOf (now s) name bytes private) (λ r. r ≡ Err (arrive_fault.NameWrong (name_of bytes)))
      (arrival_of_for (now s) name bytes private) (Err (arrive_fault.NameWrong (name_of bytes)), refl)))
      (λ faults. (Err (arrive_fault.Stopped faults), refl))

  -- ---- the cards of a reply

  abbrev Taking : State → Option ℕ → List WireCard → Type 0
  Taking s due reply = (t : Taken) × Takes s due reply t

  abbrev by_answer : (s : State) (name bytes : List ℕ) (due : Option ℕ) (rest : List WireCard) (answer : Told) → IsArrival s name bytes false answer → ((s2 : State) → Taking s2 due rest) → Taking s due (cards.File name bytes ∷ rest)
  by_answer s name bytes due rest (Ok a) is others =
      (record (others (arrived s name None bytes false (Ok a))).0 { arrivals = a ∷ (others (arrived s name None bytes false (Ok a))).0.arrivals }, (Ok a, is, ((others (arrived s name None bytes false (Ok a))).0, (others (arrived s name None bytes false (Ok a))).1, refl)))
  by_answer s name bytes due rest (Err why) is others = (stopped_by s (arrival_fault name why), (Err why, is, refl))

  abbrev by_sequel : (b : Bool) (s : State) (rest : List WireCard) (why : PullFault) → ((s2 : State) → Taking s2 None rest) → (t : Taken) × MatchBool b (Takes s None rest t) (t ≡ stopped_by s why)
  by_sequel true s rest why others = others s
  by_sequel false s rest why others = (stopped_by s why, refl)

  abbrev pub take_for : (s : State) (due : Option ℕ) (reply : List WireCard) → Taking s due reply
  take_for s due [] = (record { state = s; arrivals = []; fault = None }, refl)
  take_for s due (cards.File name bytes ∷ rest) = by_answer s name bytes due rest (arrival_for s name bytes false).0 (arrival_for s name bytes false).1 (λ s2. take_for s2 due rest)
  take_for s (Some from) (cards.CloneSeqno next ∷ rest) = by_sequel (is_onward from next) s rest (fault.Peer (peer.Sequence next)) (λ s2. take_for s2 None rest)
  take_for s None (cards.CloneSeqno next ∷ rest) = take_for s None rest
  take_for s due (cards.Login user nonce signature tail line ∷ rest) = take_for s due rest
  take_for s due (cards.Push server project ∷ rest) = take_for s due rest
  take_for s due (cards.Pull server project ∷ rest) = take_for s due rest
  take_for s due (cards.Clone from ∷ rest) = take_for s due rest
  take_for s due (cards.Private ∷ rest) = take_for s due rest
  take_for s due (cards.Igot name private ∷ rest) = take_for s due rest
  take_for s due (cards.Gimme name ∷ rest) = take_for s due rest
  take_for s due (cards.Error text ∷ rest) = take_for s due rest
  take_for s due (cards.Message text ∷ rest) = take_for s due rest
  take_for s due (cards.SendPrivate ∷ rest) = take_for s due rest

  -- ---- a pull

  abbrev Names : Type 0
  Names = List (List ℕ)

  abbrev pulled_by : (p : Point Names) (reply : List WireCard) (t : Taken) (o : Option PullFault) →
      (step : Then Names) × MatchOption o ((wanted : Names) × AreWants t.state wanted × (step ≡ pull_then p reply t wanted)) (λ why. step ≡ ends (uncommitted p t why))
  pulled_by p reply t None = (pull_then p reply t (wants_for t.state).0, ((wants_for t.state).0, (wants_for t.state).1, refl))
  pulled_by p reply t (Some why) = (ends (uncommitted p t why), refl)

  abbrev pull_reply_for : (p : Point Names) (read : Result (List WireCard) PeerFault) → (step : Then Names) × IsPullReply p read step
  pull_reply_for p (Err why) = (ends (unread p why), refl)
  pull_reply_for p (Ok reply) =
      ((pulled_by p reply (take_for p.state None reply).0 (take_for p.state None reply).0.fault).0, ((take_for p.state None reply).0, (take_for p.state None reply).1, (pulled_by p reply (take_for p.state None reply).0 (take_for p.state None reply).0.fault).1))

  abbrev pub pull_step : (login : Option Login) → HasStep (PullRound login)
  pull_step login p a =
      (request_bytes login (pull_cards (now p.state) p.memory), (pull_reply_for p (read_for a).0).0, (refl, ((read_for a).0, (read_for a).1, (pull_reply_for p (read_for a).0).1)))

  -- ---- a push

  abbrev pushed_by : (p : Point Sending) (reply : List WireCard) (files : List (List ℕ × List ℕ)) (t : Taken) (o : Option PullFault) →
      (step : Then Sending) × MatchOption o (step ≡ push_then p reply t files) (λ why. step ≡ ends (push_uncommitted p t why))
  pushed_by p reply files t None = (push_then p reply t files, refl)
  pushed_by p reply files t (Some why) = (ends (push_uncommitted p t why), refl)

  abbrev push_reply_for : (p : Point Sending) (files : List (List ℕ × List ℕ)) (read : Result (List WireCard) PeerFault) → (step : Then Sending) × IsPushReply p files read step
  push_reply_for p files (Err why) = (ends (unread p why), refl)
  push_reply_for p files (Ok reply) =
      ((pushed_by p reply files (take_for p.state None reply).0 (take_for p.state None reply).0.fault).0, ((take_for p.state None reply).0, (take_for p.state None reply).1, (pushed_by p reply files (take_for p.state None reply).0 (take_for p.state None reply).0.fault).1))

  abbrev pub push_step : (login : Option Login) → HasStep (PushRound login)
  push_step login p a = (
    request_bytes login (push_cards (now p.state) (unclustered_for p.state).0 (files_to_send (now p.state) p.memory)),
    (push_reply_for p (files_to_send (now p.state) p.memory) (read_for a).0).0,
    ((unclustered_for p.state).0, (unclustered_for p.state).1, record { files = files_to_send (now p.state) p.memory; read = as_they_are p.state.honest (files_to_send (now p.state) p.memory); bytes = refl }, ((read_for a).0, (read_for a).1, (push_reply_for p (files_to_send (now p.state) p.memory) (read_for a).0).1)),
  )

  -- ---- a clone

  abbrev cloned_by : (p : Point Cloning) (reply : List WireCard) (t : Taken) (o : Option PullFault) →
      (step : Then Cloning) × MatchOption o (step ≡ clone_then p t (sequel_in reply)) (λ why. step ≡ ends (uncommitted p t why))
  cloned_by p reply t None = (clone_then p t (sequel_in reply), refl)
  cloned_by p reply t (Some why) = (ends (uncommitted p t why), refl)

  abbrev cloned_for : (p : Point Cloning) (reply : List WireCard) → (step : Then Cloning) × IsCloned p reply step
  cloned_for p reply = (
    (cloned_by p reply (take_for p.state (Some p.memory.from) reply).0 (take_for p.state (Some p.memory.from) reply).0.fault).0,
    ((take_for p.state (Some p.memory.from) reply).0, (take_for p.state (Some p.memory.from) reply).1, (cloned_by p reply (take_for p.state (Some p.memory.from) reply).0 (take_for p.state (Some p.memory.from) reply).0.fault).1),
  )

  abbrev begun_by : (server : List ℕ) (fields : List (List ℕ)) (p : Point Cloning) (reply : List WireCard) (o : Option (List ℕ)) →
      (step : Then Cloning) × MatchOption o (step ≡ ends (unread p peer.NoPush)) (λ project. IsCloned (begun_with p (first_record project server fields)) reply step)
  begun_by server fields p reply None = (ends (unread p peer.NoPush), refl)
  begun_by server fields p reply (Some project) = cloned_for (begun_with p (first_record project server fields)) reply

  abbrev clone_by : (server : List ℕ) (fields : List (List ℕ)) (p : Point Cloning) (reply : List WireCard) (b : Bool) →
      (step : Then Cloning) × MatchBool b (IsCloned p reply step) (IsBegun server fields p reply step)
  clone_by server fields p reply true = cloned_for p reply
  clone_by server fields p reply false = begun_by server fields p reply (project_in reply)

  abbrev clone_reply_for : (server : List ℕ) (fields : List (List ℕ)) (p : Point Cloning) (read : Result (List WireCard) PeerFault) → (step : Then Cloning) × IsCloneReply server fields p read step
  clone_reply_for server fields p (Err why) = (ends (unread p why), refl)
  clone_reply_for server fields p (Ok reply) = clone_by server fields p reply p.memory.begun

  abbrev pub clone_step : (server : List ℕ) (fields : List (List ℕ)) (login : Option Login) → HasStep (CloneRound server fields login)
  clone_step server fields login p a =
      (request_bytes login (clone_cards p.memory.from), (clone_reply_for server fields p (read_for a).0).0, (refl, ((read_for a).0, (read_for a).1, (clone_reply_for server fields p (read_for a).0).1)))

  -- ---- a pull from another repository

  abbrev local_by : (p : Point Names) (reply : List WireCard) (t : Taken) (o : Option PullFault) →
      (step : Then Names) × MatchOption o ((wanted : Names) × AreWants t.state wanted × (step ≡ local_then p reply t wanted)) (λ why. step ≡ ends (uncommitted p t why))
  local_by p reply t None = (local_then p reply t (wants_for t.state).0, ((wants_for t.state).0, (wants_for t.state).1, refl))
  local_by p reply t (Some why) = (ends (uncommitted p t why), refl)

  -- one round, whose request is known before, and whose reply may have the bytes as they are held
  abbrev pub own_reply : State → Names → Names → List WireCard
  own_reply peer unclustered asked = local_reply unclustered (held_of peer asked)

  abbrev pub local_step : (peer : State) (unclustered : Names) (p : Point Names) → (step : Then Names) × LocalRound peer unclustered p (record { request = p.memory; reply = own_reply peer unclustered p.memory }) step
  local_step peer unclustered p = (
    (local_by p (own_reply peer unclustered p.memory) (take_for p.state None (own_reply peer unclustered p.memory)).0 (take_for p.state None (own_reply peer unclustered p.memory)).0.fault).0,
    (
      refl,
      (held_of peer p.memory, as_they_are peer.honest (held_of peer p.memory), refl),
      (
        (take_for p.state None (own_reply peer unclustered p.memory)).0,
        (take_for p.state None (own_reply peer unclustered p.memory)).1,
        (local_by p (own_reply peer unclustered p.memory) (take_for p.state None (own_reply peer unclustered p.memory)).0 (take_for p.state None (own_reply peer unclustered p.memory)).0.fault).1,
      ),
    ),
  )

-- ---- each sync has an end

read_text : (text : List ℕ) → ((found : List WireCard) × IsMessage text found) ⊎ ((why : WireFault) × IsFirstFault text why) → (read : Result (List WireCard) PeerFault) × IsReplyRead (body text) read
read_text text (inl h) = (cards_read h.1.0, inr (h.1.0, h.1.1, refl))
read_text text (inr h) = (Err (peer.Line (fault_line h.0)), inl (h.0, h.1, refl))

pub some_read : (a : Exchanged) → (read : Result (List WireCard) PeerFault) × IsReplyRead a read
some_read no_head = (Err peer.Head, refl)
some_read (status n) = (Err (peer.Http n), refl)
some_read (long n) = (Err (peer.Long n), refl)
some_read (short n) = (Err (peer.Short n), refl)
some_read (body text) = read_text text (reads_one_way.some text)

pull_ends : (login : Option Login) (s : State) → HasSomeEnd (IsPull login s)
pull_ends login s came many = by_stopped s.stopped
  where
    by_stopped : (o : Option ℕ) →
        (rounds : List (Round (List ℕ) Exchanged)) × (rest : List Exchanged) × (e : End) × (came ≡ replies rounds ++ rest)
        × MatchOption o ((wanted : List (List ℕ)) × AreWants s wanted × IsSync (PullRound login) (pull_start s wanted) rounds e) (λ faults. (rounds ≡ []) × (e ≡ stopped_end s faults))
    by_stopped (Some faults) = ([], came, stopped_end s faults, refl, (refl, refl))
    by_stopped None =
        let w = wants_for some_items some_read s in
        let is = some_sync (PullRound login) (pull_step some_items some_read login) (pull_start s w.0) came many in
        (is.0, is.1, is.2, is.3, (w.0, w.1, is.4))

push_ends : (login : Option Login) (s : State) → HasSomeEnd (IsPush login s)
push_ends login s came many = by_stopped s.stopped
  where
    by_stopped : (o : Option ℕ) →
        (rounds : List (Round (List ℕ) Exchanged)) × (rest : List Exchanged) × (e : End) × (came ≡ replies rounds ++ rest)
        × MatchOption o (IsSync (PushRound login) (push_start s) rounds e) (λ faults. (rounds ≡ []) × (e ≡ stopped_end s faults))
    by_stopped (Some faults) = ([], came, stopped_end s faults, refl, (refl, refl))
    by_stopped None = some_sync (PushRound login) (push_step some_items some_read login) (push_start s) came many

clone_ends : (server : List ℕ) (fields : List (List ℕ)) (login : Option Login) (len faults : ℕ) (honest : Bool) → HasSomeEnd (IsClone server fields login len faults honest)
clone_ends server fields login len faults honest came many = by_len (len == 0)
  where
    by_len : (b : Bool) →
        (rounds : List (Round (List ℕ) Exchanged)) × (rest : List Exchanged) × (e : End) × (came ≡ replies rounds ++ rest)
        × MatchBool b (IsSync (CloneRound server fields login) (clone_start faults honest) rounds e) ((rounds ≡ []) × (e ≡ not_empty_end faults honest len))
    by_len true = some_sync (CloneRound server fields login) (clone_step some_items some_read server fields login) (clone_start faults honest) came many
    by_len false = ([], came, not_empty_end faults honest len, refl, (refl, refl))

pub syncs_have_some_end : SyncsHaveSomeEnd
syncs_have_some_end = record { pull = pull_ends; push = push_ends; clone = clone_ends }
