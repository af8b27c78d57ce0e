-- The cards of a reply are taken one after another.
use Rattle.std.specs.Prelude.{◌≡◌, ℕ, ◌+◌, ◌<◌, ◌≤◌, ◌||◌, ◌⊎◌, Bool, true, false, List, [], ◌∷◌, ◌++◌, length, take, drop, get_or, Option, Some, None, Result, Ok, Err, MatchBool}
use Rattle.std.specs.List.{list_any}
use Rattle.std.proofs.Common.{refl, sym, ap, subst, ◌∙◌, inl, inr, cond, append_assoc}
use Rattle.std.proofs.lemmas.List.{append-nil, take_more, take_all, take-append-drop}
use Rattle.fsl_repo.proofs.Loops.{rest_is}
use Rattle.std.proofs.lemmas.List.Sums.{sum_by-append}
use Rattle.fsl_record.specs.declared.Record.{Record}
use Rattle.fsl_record.specs.declared.Record.TheVariants as record_of
use Rattle.fsl_wire.specs.declared.WireCard.{WireCard}
use Rattle.fsl_wire.specs.declared.WireCard.TheVariants as cards
use Rattle.fsl_repo.specs.declared.Arrival.{Arrival}
use Rattle.fsl_repo.specs.declared.Arrival.TheVariants as arrival
use Rattle.fsl_repo.specs.declared.ArriveFault.{ArriveFault}
use Rattle.fsl_repo.specs.declared.ArriveFault.TheVariants as arrive_fault
use Rattle.fsl_repo.specs.Machine.{State, arrived}
use Rattle.fsl_repo.specs.Whole.{Seen, is_blob, blobs}
use Rattle.fsl_pull.specs.declared.PullFault.{PullFault}
use Rattle.fsl_pull.specs.declared.PullFault.TheVariants as fault
use Rattle.fsl_pull.specs.declared.PeerFault.TheVariants as peer
use Rattle.fsl_pull.specs.Arrivals.{Taken, Takes, arrival_fault, stopped_by, is_onward, is_stored, has_moved, stored_in, any_moved}
use Rattle.fsl_pull.specs.Taking.{IsRefusal, IsArrived, GoesOnFrom, Appends, TakesTo, TakesSome, TakesCard, TakesFront, TakesAll}

-- ---- lists

or_on : (a b c : Bool) → (a || (b || c)) ≡ ((a || b) || c)
or_on true b c = refl
or_on false b c = refl

pub any_both : (p : Arrival → Bool) (xs ys : List Arrival) → list_any p (xs ++ ys) ≡ (list_any p xs || list_any p ys)
any_both p [] ys = refl
any_both p (x ∷ xs) ys = ap (λ (b : Bool). p x || b) (any_both p xs ys) ∙ or_on (p x) (list_any p xs) (list_any p ys)

pub stored_both : (xs ys : List Arrival) → stored_in (xs ++ ys) ≡ stored_in xs + stored_in ys
stored_both xs ys = sum_by-append (λ a. cond (is_stored a) 1 0) xs ys

pub blobs_both : (xs ys : List Record) → blobs (xs ++ ys) ≡ blobs xs + blobs ys
blobs_both xs ys = sum_by-append (λ r. cond (is_blob r) 1 0) xs ys

-- ---- nothing and one thing after another

pub appends_none : (old new : Seen) → new.state ≡ old.state → new.loaded ≡ old.loaded → Appends old new []
appends_none old new same loaded =
    record {
      loaded = loaded;
      more = [];
      records = ap (λ (s : State). s.records) same ∙ sym (append-nil old.state.records);
      committed = ap (λ (s : State). s.committed) same;
      stopped = ap (λ (s : State). s.stopped) same;
      faults = ap (λ (s : State). s.faults) same;
      stored = refl;
    }

pub appends_on : (old mid new : Seen) (xs ys : List Arrival) → Appends old mid xs → Appends mid new ys → Appends old new (xs ++ ys)
appends_on old mid new xs ys h k =
    record {
      loaded = k.loaded ∙ h.loaded;
      more = h.more ++ k.more;
      records = k.records ∙ ap (λ (r : List Record). r ++ k.more) h.records ∙ append_assoc old.state.records h.more k.more;
      committed = k.committed ∙ h.committed;
      stopped = k.stopped ∙ h.stopped;
      faults = k.faults ∙ h.faults;
      stored = blobs_both h.more k.more ∙ (λ i. h.stored i + k.stored i) ∙ sym (stored_both xs ys);
    }

pub takes_none : (s : State) (due : Option ℕ) (left : State) → left ≡ s → TakesTo s due [] left due []
takes_none s due left same = record { go = λ rest t h. subst (λ (x : State). Takes x due rest t) same h }

pub takes_on : (s : State) (due : Option ℕ) (xs : List WireCard) (mid : State) (due_mid : Option ℕ) (ys : List WireCard) (left : State) (due_left : Option ℕ) (xa ya : List Arrival) → TakesTo s due xs mid due_mid xa → TakesTo mid due_mid ys left due_left ya → TakesTo s due (xs ++ ys) left due_left (xa ++ ya)
takes_on s due xs mid due_mid ys left due_left xa ya h k =
    record {
      go = λ rest t last.
          subst (λ (r : List WireCard). Takes s due r (record t { arrivals = (xa ++ ya) ++ t.arrivals })) (sym (append_assoc xs ys rest))
          (subst (λ (a : List Arrival). Takes s due (xs ++ (ys ++ rest)) (record t { arrivals = a })) (sym (append_assoc xa ya t.arrivals))
          (h.go (ys ++ rest) (record t { arrivals = ya ++ t.arrivals }) (k.go rest t last)));
    }

pub some_none : (old : Seen) (due : Option ℕ) → TakesSome old due [] false old due
some_none old due = record { done = []; takes = takes_none old.state due old.state refl; is_moved = refl; appends = appends_none old old refl refl }

pub some_on : (old : Seen) (due : Option ℕ) (xs : List WireCard) (a : Bool) (mid : Seen) (due_mid : Option ℕ) (ys : List WireCard) (b : Bool) (new : Seen) (due_left : Option ℕ) → TakesSome old due xs a mid due_mid → TakesSome mid due_mid ys b new due_left → TakesSome old due (xs ++ ys) (a || b) new due_left
some_on old due xs a mid due_mid ys b new due_left h k =
    record {
      done = h.done ++ k.done;
      takes = takes_on old.state due xs mid.state due_mid ys new.state due_left h.done k.done h.takes k.takes;
      is_moved = (λ i. h.is_moved i || k.is_moved i) ∙ sym (any_both has_moved h.done k.done);
      appends = appends_on old mid new h.done k.done h.appends k.appends;
    }

-- ---- one card

-- the arrivals of one file
one_file : (old new : Seen) (name bytes : List ℕ) (a : Arrival) → new.loaded ≡ old.loaded → new.state ≡ arrived old.state name None bytes false (Ok a) → Appends old new (a ∷ [])
one_file old new name bytes arrival.Shunned loaded is =
    record {
      loaded = loaded;
      more = [];
      records = ap (λ (s : State). s.records) is ∙ sym (append-nil old.state.records);
      committed = ap (λ (s : State). s.committed) is;
      stopped = ap (λ (s : State). s.stopped) is;
      faults = ap (λ (s : State). s.faults) is;
      stored = refl;
    }
one_file old new name bytes arrival.Present loaded is =
    record {
      loaded = loaded;
      more = [];
      records = ap (λ (s : State). s.records) is ∙ sym (append-nil old.state.records);
      committed = ap (λ (s : State). s.committed) is;
      stopped = ap (λ (s : State). s.stopped) is;
      faults = ap (λ (s : State). s.faults) is;
      stored = refl;
    }
one_file old new name bytes arrival.Published loaded is =
    record {
      loaded = loaded;
      more = record_of.Publish name ∷ [];
      records = ap (λ (s : State). s.records) is;
      committed = ap (λ (s : State). s.committed) is;
      stopped = ap (λ (s : State). s.stopped) is;
      faults = ap (λ (s : State). s.faults) is;
      stored = refl;
    }
one_file old new name bytes arrival.Stored loaded is =
    record {
      loaded = loaded;
      more = record_of.Blob false name None bytes ∷ [];
      records = ap (λ (s : State). s.records) is;
      committed = ap (λ (s : State). s.committed) is;
      stopped = ap (λ (s : State). s.stopped) is;
      faults = ap (λ (s : State). s.faults) is;
      stored = refl;
    }

moved_one : (a : Arrival) → has_moved a ≡ any_moved (a ∷ [])
moved_one a = by (has_moved a)
  where
    by : (b : Bool) → b ≡ (b || false)
    by true = refl
    by false = refl

not_memory : (a : Arrival) → Ok a ≡ Err arrive_fault.Memory → ⊥
not_memory a e = cc

pub file_taken : (old new : Seen) (due : Option ℕ) (name bytes : List ℕ) (a : Arrival) → IsArrived old name bytes (Ok a) new → TakesSome old due (cards.File name bytes ∷ []) (has_moved a) new due
file_taken old new due name bytes a (loaded, inl (is, state)) =
    record {
      done = a ∷ [];
      takes = record { go = λ rest t h. (Ok a, is, (t, subst (λ (s : State). Takes s due rest t) state h, refl)) };
      is_moved = moved_one a;
      appends = one_file old new name bytes a loaded state;
    }
file_taken old new due name bytes a (loaded, inr (is, state)) = absurd (not_memory a is)

refused_by : (name : List ℕ) (e : ArriveFault) → (e ≡ arrive_fault.Memory) ⊎ IsRefusal (arrival_fault name e)
refused_by name (arrive_fault.Stopped faults) = inr tt
refused_by name (arrive_fault.TooLarge size) = inr tt
refused_by name (arrive_fault.NameWrong found) = inr tt
refused_by name (arrive_fault.Full bytes count missed) = inr tt
refused_by name arrive_fault.Memory = inl refl

abbrev err_of : ArriveFault → Result Arrival ArriveFault
err_of e = Err e

error_is : (a b : ArriveFault) → err_of a ≡ err_of b → a ≡ b
error_is a b e = cc

pub file_refused : (old new : Seen) (due : Option ℕ) (name bytes : List ℕ) (e : ArriveFault) → IsArrived old name bytes (Err e) new → TakesCard old due (cards.File name bytes) (Err (arrival_fault name e)) new due
file_refused old new due name bytes e (loaded, inl (is, state)) = by (refused_by name e)
  where
    by : (e ≡ arrive_fault.Memory) ⊎ IsRefusal (arrival_fault name e) → TakesCard old due (cards.File name bytes) (Err (arrival_fault name e)) new due
    by (inl memory) = inr (ap (arrival_fault name) memory, state, loaded)
    by (inr refusal) = inl (record { refusal = refusal; takes = λ rest. (Err e, is, refl); state = state; loaded = loaded })
file_refused old new due name bytes e (loaded, inr (is, state)) = inr (ap (arrival_fault name) (error_is e arrive_fault.Memory is), state, loaded)

-- the first number that says where a clone goes on
abbrev done_of : Result (Unit {0}) PullFault
done_of = Ok tt

done_is : {P : Type 0} (why : PullFault) → done_of ≡ Err why → P
done_is why e = absurd (no why e)
  where
    no : (why : PullFault) → done_of ≡ Err why → ⊥
    no why e = cc

onward_ok : (b : Bool) (s : State) (from next : ℕ) (due_left : Option ℕ) → MatchBool b ((done_of ≡ Ok tt) × (due_left ≡ None)) (done_of ≡ Err (fault.Peer (peer.Sequence next)))
    → (rest : List WireCard) (t : Taken) → Takes s due_left rest t → MatchBool b (Takes s None rest t) (t ≡ stopped_by s (fault.Peer (peer.Sequence next)))
onward_ok true s from next due_left h rest t k = subst (λ (d : Option ℕ). Takes s d rest t) h.1 k
onward_ok false s from next due_left h rest t k = done_is (fault.Peer (peer.Sequence next)) h

still : (old new : Seen) (due due_left : Option ℕ) (card : WireCard) → new.state ≡ old.state → new.loaded ≡ old.loaded → ((rest : List WireCard) (t : Taken) → Takes old.state due_left rest t → Takes old.state due (card ∷ rest) t) → TakesSome old due (card ∷ []) false new due_left
still old new due due_left card same loaded go =
    record {
      done = [];
      takes = record { go = λ rest t h. go rest t (subst (λ (s : State). Takes s due_left rest t) same h) };
      is_moved = refl;
      appends = appends_none old new same loaded;
    }

pub seqno_taken : (old new : Seen) (due due_left : Option ℕ) (next : ℕ) → GoesOnFrom due next done_of due_left → new.state ≡ old.state → new.loaded ≡ old.loaded → TakesSome old due (cards.CloneSeqno next ∷ []) false new due_left
seqno_taken old new None due_left next h same loaded =
    still old new None due_left (cards.CloneSeqno next) same loaded (λ rest t k. subst (λ (d : Option ℕ). Takes old.state d rest t) h.1 k)
seqno_taken old new (Some from) due_left next h same loaded =
    still old new (Some from) due_left (cards.CloneSeqno next) same loaded (onward_ok (is_onward from next) old.state from next due_left h)

abbrev wrong_of : PullFault → Result (Unit {0}) PullFault
wrong_of why = Err why

wrong_not_done : (why : PullFault) → wrong_of why ≡ Ok tt → ⊥
wrong_not_done why e = cc

wrong_is : (a b : PullFault) → wrong_of a ≡ wrong_of b → a ≡ b
wrong_is a b e = cc

onward_wrong : (b : Bool) (s : State) (next : ℕ) (due_left : Option ℕ) (why : PullFault) → MatchBool b ((wrong_of why ≡ Ok tt) × (due_left ≡ None)) (wrong_of why ≡ Err (fault.Peer (peer.Sequence next)))
    → (why ≡ fault.Peer (peer.Sequence next)) × ((rest : List WireCard) (t : Taken) → t ≡ stopped_by s (fault.Peer (peer.Sequence next)) → MatchBool b (Takes s None rest t) (t ≡ stopped_by s (fault.Peer (peer.Sequence next))))
onward_wrong true s next due_left why h = absurd (wrong_not_done why h.0)
onward_wrong false s next due_left why h = (wrong_is why (fault.Peer (peer.Sequence next)) h, λ rest t k. k)

pub seqno_wrong : (old new : Seen) (due due_left : Option ℕ) (next : ℕ) (why : PullFault) → GoesOnFrom due next (wrong_of why) due_left → new.state ≡ old.state → new.loaded ≡ old.loaded → TakesCard old due (cards.CloneSeqno next) (Err why) new due_left
seqno_wrong old new None due_left next why h same loaded = absurd (wrong_not_done why h.0)
seqno_wrong old new (Some from) due_left next why h same loaded =
    let k = onward_wrong (is_onward from next) old.state next due_left why h in
    inl (record {
      refusal = subst IsRefusal (sym k.0) tt;
      takes = λ rest. k.1 rest (stopped_by old.state why) (ap (stopped_by old.state) k.0);
      state = same;
      loaded = loaded;
    })

-- every other card
pub is_taken : WireCard → Bool
is_taken (cards.File name bytes) = true
is_taken (cards.CloneSeqno next) = true
is_taken card = false

pub other_taken : (old new : Seen) (due : Option ℕ) (card : WireCard) → ((name bytes : List ℕ) → card ≡ cards.File name bytes → ⊥) → ((next : ℕ) → card ≡ cards.CloneSeqno next → ⊥) → new.state ≡ old.state → new.loaded ≡ old.loaded → TakesSome old due (card ∷ []) false new due
other_taken old new due (cards.File name bytes) file seqno same loaded = absurd (file name bytes refl)
other_taken old new due (cards.CloneSeqno next) file seqno same loaded = absurd (seqno next refl)
other_taken old new due (cards.Login user nonce signature tail line) file seqno same loaded = still old new due due (cards.Login user nonce signature tail line) same loaded (λ rest t h. h)
other_taken old new due (cards.Push server project) file seqno same loaded = still old new due due (cards.Push server project) same loaded (λ rest t h. h)
other_taken old new due (cards.Pull server project) file seqno same loaded = still old new due due (cards.Pull server project) same loaded (λ rest t h. h)
other_taken old new due (cards.Clone from) file seqno same loaded = still old new due due (cards.Clone from) same loaded (λ rest t h. h)
other_taken old new due cards.Private file seqno same loaded = still old new due due cards.Private same loaded (λ rest t h. h)
other_taken old new due (cards.Igot name private) file seqno same loaded = still old new due due (cards.Igot name private) same loaded (λ rest t h. h)
other_taken old new due (cards.Gimme name) file seqno same loaded = still old new due due (cards.Gimme name) same loaded (λ rest t h. h)
other_taken old new due (cards.Error text) file seqno same loaded = still old new due due (cards.Error text) same loaded (λ rest t h. h)
other_taken old new due (cards.Message text) file seqno same loaded = still old new due due (cards.Message text) same loaded (λ rest t h. h)
other_taken old new due cards.SendPrivate file seqno same loaded = still old new due due cards.SendPrivate same loaded (λ rest t h. h)

-- ---- all cards

-- up to a card that is wrong
pub stops_there : (old : Seen) (due : Option ℕ) (front : List WireCard) (a : Bool) (mid : Seen) (due_mid : Option ℕ) (card : WireCard) (rest all : List WireCard) (why : PullFault) (new : Seen) (due_left : Option ℕ) → all ≡ front ++ card ∷ rest → TakesSome old due front a mid due_mid → TakesCard mid due_mid card (Err why) new due_left → TakesAll old due all (Err why) new
stops_there old due front a mid due_mid card rest all why new due_left whole h (inl k) =
    inl (record {
      refusal = k.refusal;
      done = h.done ++ [];
      takes =
          subst (λ (s : State). Takes old.state due all (record { state = s; arrivals = h.done ++ []; fault = Some why })) (sym k.state)
          (subst (λ (cs : List WireCard). Takes old.state due cs (record { state = mid.state; arrivals = h.done ++ []; fault = Some why })) (sym whole)
          ((h.takes).go (card ∷ rest) (stopped_by mid.state why) (k.takes rest)));
      appends = appends_on old mid new h.done [] h.appends (appends_none mid new k.state k.loaded);
    })
stops_there old due front a mid due_mid card rest all why new due_left whole h (inr k) =
    inr (
      k.0,
      record {
        front = front;
        rest = card ∷ rest;
        whole = whole;
        due_left = due_mid;
        done = h.done ++ [];
        takes = subst (λ (s : State). TakesTo old.state due front s due_mid (h.done ++ [])) (sym k.1) (subst (λ (d : List Arrival). TakesTo old.state due front mid.state due_mid d) (sym (append-nil h.done)) h.takes);
        appends = appends_on old mid new h.done [] h.appends (appends_none mid new k.1 k.2);
      },
    )

-- what was taken, of all cards
pub whole_taken : (old : Seen) (due : Option ℕ) (all : List WireCard) (a : Bool) (new : Seen) (due_left : Option ℕ) (h : TakesSome old due all a new due_left) → Takes old.state due all (record { state = new.state; arrivals = h.done; fault = None })
whole_taken old due all a new due_left h =
    subst (λ (cs : List WireCard). Takes old.state due cs (record { state = new.state; arrivals = h.done; fault = None })) (append-nil all)
    (subst (λ (d : List Arrival). Takes old.state due (all ++ []) (record { state = new.state; arrivals = d; fault = None })) (append-nil h.done)
    ((h.takes).go [] (record { state = new.state; arrivals = []; fault = None }) refl))

-- of some first cards
pub front_taken : (old : Seen) (due : Option ℕ) (all : List WireCard) (new : Seen) (h : TakesFront old due all new) → Takes old.state due h.front (record { state = new.state; arrivals = h.done; fault = None })
front_taken old due all new h =
    subst (λ (cs : List WireCard). Takes old.state due cs (record { state = new.state; arrivals = h.done; fault = None })) (append-nil h.front)
    (subst (λ (d : List Arrival). Takes old.state due (h.front ++ []) (record { state = new.state; arrivals = d; fault = None })) (append-nil h.done)
    ((h.takes).go [] (record { state = new.state; arrivals = []; fault = None }) refl))

-- ---- as the code has it

pub file_ok : (old new : Seen) (due : Option ℕ) (card : WireCard) (name bytes b : List ℕ) (a : Arrival) (m : Bool) → card ≡ cards.File name bytes → b ≡ bytes → m ≡ has_moved a → IsArrived old name b (Ok a) new → TakesSome old due (card ∷ []) m new due
file_ok old new due card name bytes b a m is same moves h =
    subst (λ (c : WireCard). TakesSome old due (c ∷ []) m new due) (sym is)
    (subst (λ (x : Bool). TakesSome old due (cards.File name bytes ∷ []) x new due) (sym moves)
    (file_taken old new due name bytes a (subst (λ (x : List ℕ). IsArrived old name x (Ok a) new) same h)))

pub file_wrong : (old new : Seen) (due : Option ℕ) (card : WireCard) (name bytes b : List ℕ) (e : ArriveFault) (why : PullFault) → card ≡ cards.File name bytes → b ≡ bytes → why ≡ arrival_fault name e → IsArrived old name b (Err e) new → TakesCard old due card (Err why) new due
file_wrong old new due card name bytes b e why is same fails h =
    subst (λ (c : WireCard). TakesCard old due c (Err why) new due) (sym is)
    (subst (λ (x : PullFault). TakesCard old due (cards.File name bytes) (Err x) new due) (sym fails)
    (file_refused old new due name bytes e (subst (λ (x : List ℕ). IsArrived old name x (Err e) new) same h)))

pub seqno_ok : (old : Seen) (due due_left : Option ℕ) (card : WireCard) (next : ℕ) → card ≡ cards.CloneSeqno next → GoesOnFrom due next (Ok tt) due_left → TakesSome old due (card ∷ []) false old due_left
seqno_ok old due due_left card next is h = subst (λ (c : WireCard). TakesSome old due (c ∷ []) false old due_left) (sym is) (seqno_taken old old due due_left next h refl refl)

-- the cards from one of them on
pub around : (all : List WireCard) (i : ℕ) (card : WireCard) → i < length all → card ≡ get_or all i card → all ≡ take i all ++ card ∷ drop (i + 1) all
around all i card lt is = sym (take-append-drop i all) ∙ ap (λ (cs : List WireCard). take i all ++ cs) (rest_is all i card lt is)

take_on : (all : List WireCard) (i : ℕ) (card : WireCard) → i < length all → card ≡ get_or all i card → take (i + 1) all ≡ take i all ++ card ∷ []
take_on all i card lt is = take_more all i card lt ∙ ap (λ (c : WireCard). take i all ++ c ∷ []) (sym is)

pub card_on : (old : Seen) (due : Option ℕ) (all : List WireCard) (i : ℕ) (a : Bool) (mid : Seen) (due_mid : Option ℕ) (card : WireCard) (b m : Bool) (new : Seen) (due_left : Option ℕ) → i < length all → card ≡ get_or all i card → m ≡ (a || b) → TakesSome old due (take i all) a mid due_mid → TakesSome mid due_mid (card ∷ []) b new due_left → TakesSome old due (take (i + 1) all) m new due_left
card_on old due all i a mid due_mid card b m new due_left lt is either h k =
    subst (λ (x : Bool). TakesSome old due (take (i + 1) all) x new due_left) (sym either)
    (subst (λ (cs : List WireCard). TakesSome old due cs (a || b) new due_left) (sym (take_on all i card lt is))
    (some_on old due (take i all) a mid due_mid (card ∷ []) b new due_left h k))

pub all_on : (old : Seen) (due : Option ℕ) (all : List WireCard) (i : ℕ) (a : Bool) (new : Seen) (due_left : Option ℕ) → length all ≤ i → TakesSome old due (take i all) a new due_left → TakesSome old due all a new due_left
all_on old due all i a new due_left le h = subst (λ (cs : List WireCard). TakesSome old due cs a new due_left) (take_all i all le) h
