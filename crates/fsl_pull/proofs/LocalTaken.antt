-- What a peer gives was taken, and what was announced before it.
use Rattle.std.specs.Prelude.{◌≡◌, ℕ, ◌+◌, ◌<◌, ◌≤◌, ◌||◌, Bool, true, false, length, take, drop, get_or, List, [], ◌∷◌, ◌++◌, map, option_to_list, Option, Some, None, Result, Ok, Err}
use Rattle.std.proofs.Common.{refl, sym, ap, subst, ◌∙◌, inl, inr, append_assoc}
use Rattle.std.proofs.lemmas.List.{append-nil, take_all}
use Rattle.fsl_wire.specs.declared.WireCard.{WireCard}
use Rattle.fsl_repo.specs.Machine.{State}
use Rattle.fsl_repo.specs.Whole.{Seen}
use Rattle.fsl_pull.specs.declared.PullFault.{PullFault}
use Rattle.fsl_pull.specs.Requests.{igot_card, file_card}
use Rattle.fsl_pull.specs.Replies.{announced_in}
use Rattle.fsl_repo.specs.declared.Arrival.{Arrival}
use Rattle.fsl_repo.specs.declared.ArriveFault.{ArriveFault}
use Rattle.fsl_pull.specs.Reads.{IsPublicRead}
use Rattle.fsl_pull.specs.Arrivals.{Taken, Takes, arrival_fault, has_moved}
use Rattle.fsl_pull.specs.Pushes.{AreRead}
use Rattle.fsl_pull.specs.Locals.{local_reply}
use Rattle.fsl_pull.specs.Taking.{IsArrived, TakesSome, TakesFront, TakesAll}
use Rattle.fsl_pull.specs.Reading.{CantRead}
use Rattle.fsl_pull.specs.LocalTurns.{TakesOne, TakesGiven, TakesAsked}
use Rattle.fsl_pull.proofs.ReadLemmas.{held_of, held_read, more_read, around_name, name_on}
use Rattle.fsl_pull.proofs.TakingLemmas.{some_none, some_on, stops_there, file_ok, file_wrong}

-- ---- announced names change nothing

igots_go : (s : State) (names : List (List ℕ)) (rest : List WireCard) (t : Taken) → Takes s None rest t → Takes s None (map igot_card names ++ rest) t
igots_go s [] rest t h = h
igots_go s (n ∷ names) rest t h = igots_go s names rest t h

pub behind_igots : (old : Seen) (names : List (List ℕ)) (files : List WireCard) (result : Result Bool PullFault) (new : Seen) → TakesAll old None files result new → TakesAll old None (map igot_card names ++ files) result new
behind_igots old names files (Ok moved) new (due, h) = (
  due,
  record {
    done = h.done;
    takes = record {
      go = λ rest t last.
          subst (λ (cs : List WireCard). Takes old.state None cs (record t { arrivals = h.done ++ t.arrivals })) (sym (append_assoc (map igot_card names) files rest))
          (igots_go old.state names (files ++ rest) (record t { arrivals = h.done ++ t.arrivals }) ((h.takes).go rest t last));
    };
    is_moved = h.is_moved;
    appends = h.appends;
  },
)
behind_igots old names files (Err why) new (inl h) =
    inl (record {
      refusal = h.refusal;
      done = h.done;
      takes = igots_go old.state names files (record { state = new.state; arrivals = h.done; fault = Some why }) h.takes;
      appends = h.appends;
    })
behind_igots old names files (Err why) new (inr (memory, h)) =
    inr (
      memory,
      record {
        front = map igot_card names ++ h.front;
        rest = h.rest;
        whole = ap (λ (cs : List WireCard). map igot_card names ++ cs) h.whole ∙ sym (append_assoc (map igot_card names) h.front h.rest);
        due_left = h.due_left;
        done = h.done;
        takes = record {
          go = λ rest t last.
              subst (λ (cs : List WireCard). Takes old.state None cs (record t { arrivals = h.done ++ t.arrivals })) (sym (append_assoc (map igot_card names) h.front rest))
              (igots_go old.state names (h.front ++ rest) (record t { arrivals = h.done ++ t.arrivals }) ((h.takes).go rest t last));
        };
        appends = h.appends;
      },
    )

files_say_nothing : (files : List (List ℕ × List ℕ)) → announced_in (map file_card files) ≡ []
files_say_nothing [] = refl
files_say_nothing (f ∷ files) = files_say_nothing files

-- what a peer's reply announces
pub announced_are : (names : List (List ℕ)) (files : List (List ℕ × List ℕ)) → announced_in (local_reply names files) ≡ names
announced_are [] files = files_say_nothing files
announced_are (n ∷ names) files = ap (λ (ns : List (List ℕ)). n ∷ ns) (announced_are names files)

-- ---- a file more

abbrev Names : Type 0
Names = List (List ℕ)

abbrev Files : Type 0
Files = List (List ℕ × List ℕ)

abbrev card_of : Option (List ℕ × List ℕ) → List WireCard
card_of None = []
card_of (Some f) = file_card f ∷ []

one_card : (o : Option (List ℕ × List ℕ)) → map file_card (option_to_list o) ≡ card_of o
one_card None = refl
one_card (Some f) = refl

files_both : (fs gs : Files) → map file_card (fs ++ gs) ≡ map file_card fs ++ map file_card gs
files_both [] gs = refl
files_both (f ∷ fs) gs = ap (λ (cs : List WireCard). file_card f ∷ cs) (files_both fs gs)

abbrev ok_bool : Bool → Result Bool PullFault
ok_bool b = Ok b

is_false : (a b : Bool) → ok_bool a ≡ ok_bool b → a ≡ b
is_false a b e = cc

or_false : (a : Bool) → a ≡ (a || false)
or_false true = refl
or_false false = refl

given_by : (old : Seen) (front : List WireCard) (a : Bool) (mid : Seen) (o : Option (List ℕ × List ℕ)) (b : Bool) (new : Seen) → TakesSome old None front a mid None → TakesOne mid o (Ok b) new → TakesSome old None (front ++ card_of o) (a || b) new None
given_by old front a mid None b new h k =
    subst (λ (s : Seen). TakesSome old None (front ++ []) (a || b) s None) (sym k.1)
    (subst (λ (cs : List WireCard). TakesSome old None cs (a || b) mid None) (sym (append-nil front))
    (subst (λ (m : Bool). TakesSome old None front m mid None) (or_false a ∙ ap (λ (x : Bool). a || x) (sym (is_false b false k.0))) h))
given_by old front a mid (Some f) b new h k = some_on old None front a mid None (file_card f ∷ []) b new None h k

abbrev wrong_of : PullFault → Result Bool PullFault
wrong_of why = Err why

not_ok : (why : PullFault) (b : Bool) → wrong_of why ≡ Ok b → ⊥
not_ok why b e = cc

not_wrong : (b : Bool) (why : PullFault) → ok_bool b ≡ Err why → ⊥
not_wrong b why e = cc

why_is : (a b : PullFault) → wrong_of a ≡ Err b → a ≡ b
why_is a b e = cc

-- a file that is wrong
given_wrong : (old : Seen) (front : List WireCard) (a : Bool) (mid : Seen) (o : Option (List ℕ × List ℕ)) (rest all : List WireCard) (why : PullFault) (new : Seen) → all ≡ front ++ (card_of o ++ rest) → TakesSome old None front a mid None → TakesOne mid o (Err why) new → TakesAll old None all (Err why) new
given_wrong old front a mid None rest all why new whole h k = absurd (not_ok why false k.0)
given_wrong old front a mid (Some f) rest all why new whole h k = stops_there old None front a mid None (file_card f) rest all why new None whole h k

-- ---- the files of some names

-- those of some first names were taken as they were read
abbrev pub TakenSoFar : State → Names → Seen → Bool → Seen → Type 0
TakenSoFar peer names old moved new = (files : Files) × AreRead peer names files × TakesSome old None (map file_card files) moved new None

pub none_so_far : (peer : State) (old : Seen) → TakenSoFar peer [] old false old
none_so_far peer old = ([], tt, some_none old None)

module _ (peer : State) (old : Seen) (asked : Names) (i : ℕ) (name : List ℕ) (lt : i < length asked) (is : name ≡ get_or asked i name) (a : Bool) (mid : Seen) (h : TakenSoFar peer (take i asked) old a mid) where
  pub given_on : (b : Bool) (new : Seen) (peer_new : State) → TakesGiven peer name mid (Ok b) new peer_new → TakenSoFar peer (take (i + 1) asked) old (a || b) new × (peer_new ≡ peer)
  given_on b new peer_new (inl (o, read, one, same)) =
      let files = h.0 ++ option_to_list o in (
        (
          files,
          subst (λ (ns : Names). AreRead peer ns files) (sym (name_on asked i name lt is)) (more_read peer (take i asked) (name ∷ []) h.0 (option_to_list o) h.1 read),
          subst (λ (cs : List WireCard). TakesSome old None cs (a || b) new None) (sym (files_both h.0 (option_to_list o) ∙ ap (λ (cs : List WireCard). map file_card h.0 ++ cs) (one_card o)))
              (given_by old (map file_card h.0) a mid o b new h.2 one),
        ),
        same,
      )
  given_on b new peer_new (inr (why, is_why, fails, same)) = absurd (not_wrong b why is_why)

  abbrev behind : Names
  behind = drop (i + 1) asked

  pub given_stops : (why : PullFault) (new : Seen) (peer_new : State) → TakesGiven peer name mid (Err why) new peer_new → TakesAsked peer asked old (Err why) new peer_new
  given_stops why new peer_new (inl (o, read, one, same)) =
      let held = held_of peer behind in
      let files = h.0 ++ (option_to_list o ++ held) in
      inl (
        files,
        subst (λ (ns : Names). AreRead peer ns files) (sym (around_name asked i name lt is))
            (more_read peer (take i asked) (name ∷ behind) h.0 (option_to_list o ++ held) h.1 (more_read peer (name ∷ []) behind (option_to_list o) held read (held_read peer behind))),
        given_wrong old (map file_card h.0) a mid o (map file_card held) (map file_card files) why new
            (files_both h.0 (option_to_list o ++ held) ∙ ap (λ (cs : List WireCard). map file_card h.0 ++ cs) (files_both (option_to_list o) held ∙ ap (λ (cs : List WireCard). cs ++ map file_card held) (one_card o))) h.2 one,
        same,
      )
  given_stops why new peer_new (inr (other, is_why, inl (memory, stays), same)) =
      let held = held_of peer (name ∷ behind) in
      let files = h.0 ++ held in
      let front : TakesFront old None (map file_card files) mid =
      record { front = map file_card h.0; rest = map file_card held; whole = files_both h.0 held; due_left = None; done = (h.2).done; takes = (h.2).takes; appends = (h.2).appends } in
      inl (
        files,
        subst (λ (ns : Names). AreRead peer ns files) (sym (around_name asked i name lt is)) (more_read peer (take i asked) (name ∷ behind) h.0 held h.1 (held_read peer (name ∷ behind))),
        inr (why_is why other is_why ∙ memory, subst (TakesFront old None (map file_card files)) (sym same) front),
        stays,
      )
  given_stops why new peer_new (inr (other, is_why, inr (public, cant), same)) =
      inr (
        why,
        refl,
        record {
          front = take i asked;
          name = name;
          rest = behind;
          whole = around_name asked i name lt is;
          public = public;
          files = h.0;
          read = h.1;
          moved = a;
          takes = subst (λ (s : Seen). TakesSome old None (map file_card h.0) a s None) (sym same) h.2;
          cant = subst (λ (w : PullFault). CantRead w peer name peer_new) (sym (why_is why other is_why)) cant;
        },
      )

pub all_given : (peer : State) (old : Seen) (asked : Names) (i : ℕ) (a : Bool) (new : Seen) (peer_new : State) → length asked ≤ i → TakenSoFar peer (take i asked) old a new → peer_new ≡ peer → TakesAsked peer asked old (Ok a) new peer_new
all_given peer old asked i a new peer_new le (files, read, takes) same = inl (files, subst (λ (ns : Names). AreRead peer ns files) (take_all i asked le) read, takes, same)

-- what the code takes of one name
pub one_taken : (peer : State) (name bytes b : List ℕ) (old new : Seen) (a : Arrival) (m : Bool) (peer_new : State) → IsPublicRead peer name (Some bytes) → b ≡ bytes → m ≡ has_moved a → IsArrived old name b (Ok a) new → peer_new ≡ peer → TakesGiven peer name old (Ok m) new peer_new
one_taken peer name bytes b old new a m peer_new read same moves arrived stays =
    let f : List ℕ × List ℕ = (name, bytes) in
    inl (Some f, read.read, file_ok old new None (file_card f) name bytes b a m refl same moves arrived, stays)

pub one_wrong : (peer : State) (name bytes b : List ℕ) (old new : Seen) (e : ArriveFault) (why : PullFault) (peer_new : State) → IsPublicRead peer name (Some bytes) → b ≡ bytes → why ≡ arrival_fault name e → IsArrived old name b (Err e) new → peer_new ≡ peer → TakesGiven peer name old (Err why) new peer_new
one_wrong peer name bytes b old new e why peer_new read same fails arrived stays =
    let f : List ℕ × List ℕ = (name, bytes) in
    inl (Some f, read.read, file_wrong old new None (file_card f) name bytes b e why refl same fails arrived, stays)
