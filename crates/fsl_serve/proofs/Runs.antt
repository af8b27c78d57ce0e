-- The notices of a session, its loops, and its whole run.
use Rattle.std.proofs.Common.{◌≡◌, ℕ, ◌+◌, ◌<◌, length, get_or, drop, List, [], ◌∷◌, ◌++◌, Bool, true, false, Some, None, Ok, Err, refl, ap, sym, ◌∙◌, subst, append_assoc}
use Rattle.std.specs.Prelude.{Option, Result, option_to_list, IfOk, OnOk, OnErr, IsTrue, filter_map}
use Rattle.std.specs.Result.{result_err}
use Rattle.std.proofs.lemmas.List.{append-nil, drop_more}
use Rattle.std.specs.List.{cons_option, list_any}
use Rattle.fsl_disk.specs.Disk.{DiskState}
use Rattle.fsl_answer.specs.Refusals.{is_push}
use Rattle.fsl_answer.specs.Contents.{is_pull}
use Rattle.fsl_repo.specs.declared.Event.{Event}
use Rattle.fsl_repo.specs.declared.Event.TheVariants as event
use Rattle.fsl_repo.specs.declared.Answer.{Answer}
use Rattle.fsl_serve.specs.declared.said.Halt.{Halt}
use Rattle.fsl_serve.specs.declared.said.Halt.TheVariants as halt
use Rattle.fsl_record.specs.Receipts.{Brought}
use Rattle.fsl_wire.specs.declared.Caps.{Caps}
use Rattle.fsl_wire.specs.declared.WireCard.{WireCard}
use Rattle.fsl_serve.specs.Session.{notice, notices, announcement, where_so, arrivals, events, first_events}
use Rattle.fsl_serve.specs.Points.{is_late}
use Rattle.fsl_serve.specs.Sessions.{Reply, IsConcluded, IsRun, halted}
use Rattle.fsl_serve.specs.Sessions.IsRun.{whole, early}
use Rattle.fsl_serve.specs.Calls.{Call, asked, told, halt_of, Gains, GoOn, Phase}
use Rattle.fsl_serve.specs.Calls.Phase.{all, short}
use Rattle.fsl_serve.proofs.Telling.{gains_more, gains_weaker}
use Rattle.fsl_serve.proofs.Phases.{asked_append, told_append, go_on_append, phase_one, phase_more, phase_cut, done_of}

abbrev is_nil : List Event → Type 0
is_nil [] = Unit {0}
is_nil (e ∷ es) = ⊥

not_nil : (e : Event) (es : List Event) → e ∷ es ≡ [] → ⊥
not_nil e es p = subst is_nil (sym p) tt

pub notices_append : (xs ys : List Call) → notices (asked (xs ++ ys)) (told (xs ++ ys)) ≡ notices (asked xs) (told xs) ++ notices (asked ys) (told ys)
notices_append [] ys = refl
notices_append (x ∷ xs) ys = ap (λ w. option_to_list (notice x.0 x.1) ++ w) (notices_append xs ys) ∙ sym (append_assoc (option_to_list (notice x.0 x.1)) (notices (asked xs) (told xs)) (notices (asked ys) (told ys)))

-- further answers add nothing
pub notices_more : (xs : List Call) (more : List Answer) → notices (asked xs) (told xs ++ more) ≡ notices (asked xs) (told xs)
notices_more [] more = refl
notices_more (x ∷ xs) more = ap (λ w. option_to_list (notice x.0 x.1) ++ w) (notices_more xs more)

-- notices of the first events, whatever answers follow
pub notices_front : (es : List Event) (xs : List Call) (more : List Answer) (rest : List Event) → es ++ rest ≡ asked xs → notices es (told xs) ≡ notices es (told xs ++ more)
notices_front [] xs more rest p = refl
notices_front (e ∷ es) [] more rest p = absurd (not_nil e (es ++ rest) p)
notices_front (e ∷ es) (x ∷ xs) more rest p = ap (λ w. option_to_list (notice e x.1) ++ w) (notices_front es xs more rest (ap (drop 1) p))

-- ---- one event

-- an event that was made is a phase
pub one_phase : {D : Type 0} {tells : D → DiskState} (o p : Option (List Call)) (e : Event) (a : Answer) (h : Option Halt) → Gains tells o p (λ made. made ≡ (e, a) ∷ []) → h ≡ halt_of a → Gains tells o p (λ made. Phase (e ∷ []) made h)
one_phase o p e a h g q = gains_weaker o p (λ made. made ≡ (e, a) ∷ []) (λ made. Phase (e ∷ []) made h) g (λ xs r. subst (λ made. Phase (e ∷ []) made h) (sym r) (phase_one e a h q))

pub arrival_noted : {D : Type 0} {tells : D → DiskState} (o p : Option (List Call)) (e : Event) (a : Answer) (old new : List (List ℕ)) → Gains tells o p (λ made. made ≡ (e, a) ∷ []) → halt_of a ≡ None → new ≡ old ++ option_to_list (notice e a)
    → Gains tells o p (λ made. Phase (e ∷ []) made None × (new ≡ old ++ notices (asked made) (told made)))
arrival_noted o p e a old new g q r =
    let R = λ (made : List Call). Phase (e ∷ []) made None × (new ≡ old ++ notices (asked made) (told made)) in
    gains_weaker o p (λ made. made ≡ (e, a) ∷ []) R g
    (λ xs t. subst R (sym t) (all (q, tt) refl refl, r ∙ ap (λ w. old ++ w) (sym (append-nil (option_to_list (notice e a))))))

pub arrival_not_noted : {D : Type 0} {tells : D → DiskState} (o p : Option (List Call)) (e : Event) (a : Answer) → Gains tells o p (λ made. made ≡ (e, a) ∷ []) → halt_of a ≡ None → Gains tells o p (λ made. Phase (e ∷ []) made (Some halt.Memory) × Unit {0})
arrival_not_noted o p e a g q =
    let R = λ (made : List Call). Phase (e ∷ []) made (Some halt.Memory) × Unit {0} in
    gains_weaker o p (λ made. made ≡ (e, a) ∷ []) R g (λ xs t. subst R (sym t) (short [] (q, tt) refl refl, tt))

pub arrival_halted : {D : Type 0} {tells : D → DiskState} (o p : Option (List Call)) (e : Event) (a : Answer) (h : Halt) → Gains tells o p (λ made. made ≡ (e, a) ∷ []) → Some h ≡ halt_of a → Gains tells o p (λ made. Phase (e ∷ []) made (Some h) × Unit {0})
arrival_halted o p e a h g q =
    let R = λ (made : List Call). Phase (e ∷ []) made (Some h) × Unit {0} in
    gains_weaker o p (λ made. made ≡ (e, a) ∷ []) R g (λ xs t. subst R (sym t) (phase_one e a (Some h) q, tt))

-- ---- loops over the cards

-- so far all went on, and this is due yet
pub record IsAt (due : List Event) (made : List Call) (rest : List Event) : Type 0 where
  pub on : GoOn made
  pub is : due ≡ asked made ++ rest

pub at_start : (due : List Event) → IsAt due [] due
at_start due = record { on = tt; is = refl }

pub at_next : (due : List Event) (xs : List Call) (d rest : List Event) (ys : List Call) → IsAt due xs (d ++ rest) → Phase d ys None → IsAt due (xs ++ ys) rest
at_next due xs d rest ys p q =
    let w = done_of d ys q in
    let both : asked xs ++ (d ++ rest) ≡ asked (xs ++ ys) ++ rest = rw (asked_append xs ys, w.1) (sym (append_assoc (asked xs) (asked ys) rest)) in
    record { on = go_on_append xs ys p.on w.0; is = p.is ∙ both }

pub at_halt : (due : List Event) (xs : List Call) (d rest : List Event) (ys : List Call) (h : Halt) → IsAt due xs (d ++ rest) → Phase d ys (Some h) → Phase due (xs ++ ys) (Some h)
at_halt due xs d rest ys h p q =
    let so_far : Phase (asked xs) xs None = all p.on refl refl in
    let two : Phase (asked xs ++ (d ++ rest)) (xs ++ ys) (Some h) = phase_more (asked xs) (d ++ rest) xs ys (Some h) so_far (phase_cut d rest ys h q) in
    subst (λ w. Phase w (xs ++ ys) (Some h)) (sym p.is) two

pub at_no_memory : (due : List Event) (xs : List Call) (rest : List Event) → IsAt due xs rest → Phase due xs (Some halt.Memory)
at_no_memory due xs rest p = short rest p.on p.is refl

pub at_end : (due : List Event) (xs : List Call) → IsAt due xs [] → Phase due xs None
at_end due xs p = all p.on (p.is ∙ append-nil (asked xs)) refl

-- ---- the three stretches before the build

pub where_true : {D : Type 0} {tells : D → DiskState} (o p : Option (List Call)) (b : Bool) (d : List Event) (h : Option Halt) → b ≡ true → Gains tells o p (λ made. Phase d made h) → Gains tells o p (λ made. Phase (where_so b d) made h)
where_true {tells = tells} o p b d h q g = let F : Bool → Type 0 = λ b. Gains tells o p (λ made. Phase (where_so b d) made h) in subst F (sym q) g

-- where a stretch gave an answer
abbrev pub Told : {X : Type 0} → List Event → Result X Halt → (X → List Call → Type 0) → List Call → Type 0
Told due r Q made = Phase due made (result_err r) × IfOk r (λ x. Q x made)

told_ok : {X : Type 0} (due : List Event) (r : Result X Halt) (Q : X → List Call → Type 0) (made : List Call) (x : X) → r ≡ Ok x → Told due r Q made → Phase due made None × Q x made
told_ok {X} due r Q made x p t = let F : Result X Halt → Type 0 = λ r. Told due r Q made in subst F p t

halts_with : {X : Type 0} (due : List Event) (r : Result X Halt) (made : List Call) (h : Halt) → r ≡ Err h → Phase due made (result_err r) → Phase due made (Some h)
halts_with {X} due r made h p t = let F : Result X Halt → Type 0 = λ r. Phase due made (result_err r) in subst F p t

goes_with : {X : Type 0} (due : List Event) (r : Result X Halt) (made : List Call) (x : X) → r ≡ Ok x → Phase due made (result_err r) → Phase due made None
goes_with {X} due r made x p t = let F : Result X Halt → Type 0 = λ r. Phase due made (result_err r) in subst F p t

module _ {X : Type 0} (a b d : List Event) (r : Result (List (List ℕ)) Halt) (s t : Result X Halt) where
  abbrev pub First : List Call → Type 0
  First made = Phase a made (result_err r) × IfOk r (λ texts. texts ≡ notices (asked made) (told made))

  -- what is said of a gate beside the calls
  pub first_halts : {D : Type 0} {tells : D → DiskState} (o p : Option (List Call)) (h : Halt) (Q : List Call → Type 0) → ((xs : List Call) → Phase a xs (Some h) → Q xs) → Gains tells o p First → r ≡ Err h → Gains tells o p (λ made. (Phase ((a ++ b) ++ d) made (Some h) × Unit {0}) × Q made)
  first_halts o p h Q gate g e =
      gains_weaker o p First (λ made. (Phase ((a ++ b) ++ d) made (Some h) × Unit {0}) × Q made) g
      (λ xs f. ((phase_cut (a ++ b) d xs h (phase_cut a b xs h (halts_with a r xs h e f.0)), tt), gate xs (halts_with a r xs h e f.0)))

  pub second_halts : {D : Type 0} {tells : D → DiskState} (o p q : Option (List Call)) (texts : List (List ℕ)) (h : Halt) (Q : List Call → Type 0) → ((xs ys : List Call) → Phase a xs None → Phase b ys (Some h) → Q (xs ++ ys)) → Gains tells o p First → r ≡ Ok texts → Gains tells p q (λ made. Phase b made (result_err s)) → s ≡ Err h
      → Gains tells o q (λ made. (Phase ((a ++ b) ++ d) made (Some h) × Unit {0}) × Q made)
  second_halts o p q texts h Q gate g e k f =
      gains_more o p q First (λ made. Phase b made (result_err s)) (λ made. (Phase ((a ++ b) ++ d) made (Some h) × Unit {0}) × Q made) g k
      (λ xs ys u v.
      let first = goes_with a r xs texts e u.0 in
      let second = halts_with b s ys h f v in
      ((phase_cut (a ++ b) d (xs ++ ys) h (phase_more a b xs ys (Some h) first second), tt), gate xs ys first second))

  abbrev pub Two : List (List ℕ) → List Call → Type 0
  Two texts made = Phase (a ++ b) made None × (texts ≡ notices a (told made))

  pub two_done : {D : Type 0} {tells : D → DiskState} (o p q : Option (List Call)) (texts : List (List ℕ)) (x : X) → Gains tells o p First → r ≡ Ok texts → Gains tells p q (λ made. Phase b made (result_err s)) → s ≡ Ok x → Gains tells o q (Two texts)
  two_done o p q texts x g e k f =
      gains_more o p q First (λ made. Phase b made (result_err s)) (Two texts) g k
      (λ xs ys u v.
      let w = told_ok a r (λ texts made. texts ≡ notices (asked made) (told made)) xs texts e u in
      let due : a ≡ asked xs = (done_of a xs w.0).1 in (
        phase_more a b xs ys None w.0 (goes_with b s ys x f v),
        w.1 ∙ rw (due, told_append xs ys) (sym (notices_more xs (told ys))),
      ))

  abbrev pub Third : List Call → Type 0
  Third made = Phase d made (result_err t) × OnErr t (IsTrue (list_any is_late (asked made)))

  pub third_halts : {D : Type 0} {tells : D → DiskState} (o q z : Option (List Call)) (texts : List (List ℕ)) (h : Halt) (Q : List Call → Type 0) → ((xs ys : List Call) → list_any is_late (asked ys) ≡ true → Q (xs ++ ys)) → Gains tells o q (Two texts) → Gains tells q z Third → t ≡ Err h
      → Gains tells o z (λ made. (Phase ((a ++ b) ++ d) made (Some h) × Unit {0}) × Q made)
  third_halts o q z texts h Q gate g k e =
      gains_more o q z (Two texts) Third (λ made. (Phase ((a ++ b) ++ d) made (Some h) × Unit {0}) × Q made) g k
      (λ xs ys u v.
      let F : Result X Halt → Type 0 = λ t. OnErr t (IsTrue (list_any is_late (asked ys))) in
      ((phase_more (a ++ b) d xs ys (Some h) u.0 (halts_with d t ys h e v.0), tt), gate xs ys (subst F e v.1)))

  pub three_done : {D : Type 0} {tells : D → DiskState} (o q z : Option (List Call)) (texts : List (List ℕ)) (x : X) (Q : Type 0) → Q → Gains tells o q (Two texts) → Gains tells q z Third → t ≡ Ok x → Gains tells o z (λ made. (Phase ((a ++ b) ++ d) made None × (texts ≡ notices a (told made))) × Q)
  three_done o q z texts x Q gate g k e =
      gains_more o q z (Two texts) Third (λ made. (Phase ((a ++ b) ++ d) made None × (texts ≡ notices a (told made))) × Q) g k
      (λ xs ys u v.
      let whole = phase_more (a ++ b) d xs ys None u.0 (goes_with d t ys x e v.0) in
      let due : a ++ b ≡ asked xs = (done_of (a ++ b) xs u.0).1 in (
        (whole, u.1 ∙ notices_front a xs (told ys) b due ∙ sym (ap (λ w. notices a w) (told_append xs ys))),
        gate,
      ))

-- ---- the cards one by one

cons_first : {Y : Type 0} (o : Option Y) (ys : List Y) → cons_option o ys ≡ option_to_list o ++ ys
cons_first None ys = refl
cons_first (Some y) ys = refl

pub filter_map_first : {X Y : Type 0} (f : X → Option Y) (x : X) (xs : List X) → filter_map f (x ∷ xs) ≡ option_to_list (f x) ++ filter_map f xs
filter_map_first f x xs = cons_first (f x) (filter_map f xs)

-- the item at a place, and what follows it
pub at_card : {X : Type 0} (cards : List X) (i : ℕ) (x : X) → i < length cards → x ≡ get_or cards i x → drop i cards ≡ x ∷ drop (i + 1) cards
at_card cards i x l p = drop_more cards i x l ∙ ap (λ w. w ∷ drop (i + 1) cards) (sym p)

-- a stretch of a loop, with what it gives
pub loop_halts : {X : Type 0} {D : Type 0} {tells : D → DiskState} (o p q : Option (List Call)) (due d rest : List Event) (Q R : List Call → Type 0) (r : Result X Halt) (h : Halt) → Gains tells o p (λ made. IsAt due made (d ++ rest) × Q made) → Gains tells p q (λ made. Phase d made (result_err r) × R made) → r ≡ Err h → Gains tells o q (λ made. Phase due made (Some h) × Unit {0})
loop_halts {X} o p q due d rest Q R r h g k e =
    gains_more o p q (λ made. IsAt due made (d ++ rest) × Q made) (λ made. Phase d made (result_err r) × R made) (λ made. Phase due made (Some h) × Unit {0}) g k
    (λ xs ys u v. (at_halt due xs d rest ys h u.0 (halts_with d r ys h e v.0), tt))

pub loop_goes_on : {D : Type 0} {tells : D → DiskState} (o p q : Option (List Call)) (due d rest : List Event) (old mid new : List (List ℕ)) (r : Result (Unit {0}) Halt) → Gains tells o p (λ made. IsAt due made (d ++ rest) × (mid ≡ notices (asked made) (told made))) → Gains tells p q (λ made. Phase d made (result_err r) × OnOk r (new ≡ mid ++ notices (asked made) (told made))) → r ≡ Ok tt
    → Gains tells o q (λ made. IsAt due made rest × (new ≡ notices (asked made) (told made)))
loop_goes_on o p q due d rest old mid new r g k e =
    gains_more o p q (λ made. IsAt due made (d ++ rest) × (mid ≡ notices (asked made) (told made))) (λ made. Phase d made (result_err r) × OnOk r (new ≡ mid ++ notices (asked made) (told made))) (λ made. IsAt due made rest × (new ≡ notices (asked made) (told made))) g k
    (λ xs ys u v.
    let F : Result (Unit {0}) Halt → Type 0 = λ r. Phase d ys (result_err r) × OnOk r (new ≡ mid ++ notices (asked ys) (told ys)) in
    let w = subst F e v in
    (at_next due xs d rest ys u.0 w.0, w.1 ∙ ap (λ z. z ++ notices (asked ys) (told ys)) u.1 ∙ sym (notices_append xs ys)))

pub loop_goes_on_plain : {D : Type 0} {tells : D → DiskState} (o p q : Option (List Call)) (due d rest : List Event) (r : Result (Unit {0}) Halt) → Gains tells o p (λ made. IsAt due made (d ++ rest)) → Gains tells p q (λ made. Phase d made (result_err r)) → r ≡ Ok tt → Gains tells o q (λ made. IsAt due made rest)
loop_goes_on_plain o p q due d rest r g k e =
    gains_more o p q (λ made. IsAt due made (d ++ rest)) (λ made. Phase d made (result_err r)) (λ made. IsAt due made rest) g k
    (λ xs ys u v. at_next due xs d rest ys u (goes_with d r ys tt e v))

pub loop_halts_plain : {D : Type 0} {tells : D → DiskState} (o p q : Option (List Call)) (due d rest : List Event) (r : Result (Unit {0}) Halt) (h : Halt) → Gains tells o p (λ made. IsAt due made (d ++ rest)) → Gains tells p q (λ made. Phase d made (result_err r)) → r ≡ Err h → Gains tells o q (λ made. Phase due made (Some h))
loop_halts_plain o p q due d rest r h g k e =
    gains_more o p q (λ made. IsAt due made (d ++ rest)) (λ made. Phase d made (result_err r)) (λ made. Phase due made (Some h)) g k
    (λ xs ys u v. at_halt due xs d rest ys h u (halts_with d r ys h e v))

-- ---- the whole run

events_made : (m : List WireCard) (caps : Caps) (brought : Brought) (texts : List (List ℕ)) (xs : List Call) (b k : Answer) (rest : List Event) → first_events m caps brought ≡ asked xs → arrivals brought false m ++ rest ≡ asked xs → texts ≡ notices (arrivals brought false m) (told xs)
    → events m caps brought (told (xs ++ (event.Build (record { caps = caps; message = m; notices = texts }), b) ∷ (event.Commit, k) ∷ [])) ≡ asked (xs ++ (event.Build (record { caps = caps; message = m; notices = texts }), b) ∷ (event.Commit, k) ∷ [])
events_made m caps brought texts xs b k rest due front t =
    let ys : List Call = (event.Build (record { caps = caps; message = m; notices = texts }), b) ∷ (event.Commit, k) ∷ [] in
    let n : notices (arrivals brought false m) (told (xs ++ ys)) ≡ texts = ap (λ w. notices (arrivals brought false m) w) (told_append xs ys) ∙ sym (notices_front (arrivals brought false m) xs (told ys) rest front) ∙ sym t in
    let T : List (List ℕ) → List Event = λ n. event.Build (record { caps = caps; message = m; notices = n }) ∷ event.Commit ∷ [] in
    ap (λ w. first_events m caps brought ++ T w) n ∙ ap (λ w. w ++ T texts) due ∙ sym (asked_append xs ys)

-- the calls before the build, with what is said of a gate
abbrev pub Before : List WireCard → Caps → Brought → Result (List (List ℕ)) Halt → (Result (List (List ℕ)) Halt → List Call → Type 0) → List Call → Type 0
Before m caps brought r Q made = (Phase (first_events m caps brought) made (result_err r) × IfOk r (λ t. t ≡ notices (arrivals brought false m) (told made))) × Q r made

pub run_whole : {D : Type 0} {tells : D → DiskState} (o p q : Option (List Call)) (m : List WireCard) (caps : Caps) (brought : Brought) (texts : List (List ℕ)) (r : Result (List (List ℕ)) Halt) (sent : Reply) (Q : Result (List (List ℕ)) Halt → List Call → Type 0) (R : List Call → Type 0) → r ≡ Ok texts
    → ((xs ys : List Call) → Q (Ok texts) xs → list_any is_late (asked ys) ≡ true → R (xs ++ ys)) → Gains tells o p (Before m caps brought r Q)
    → Gains tells p q (λ made. IsConcluded (record { caps = caps; message = m; notices = texts }) made sent) → Gains tells o q (λ made. IsRun m caps brought made sent × R made)
run_whole o p q m caps brought texts r sent Q R e gate g k =
    let announced : List Event = where_so (list_any is_push m) (filter_map (announcement caps) m) in
    let clustered : List Event = where_so (list_any is_pull m) (event.Cluster ∷ []) in
    let due = first_events m caps brought in
    gains_more o p q (Before m caps brought r Q) (λ made. IsConcluded (record { caps = caps; message = m; notices = texts }) made sent) (λ made. IsRun m caps brought made sent × R made) g k
    (λ xs ys u v.
    let w = told_ok due r (λ t made. t ≡ notices (arrivals brought false m) (told made)) xs texts e u.0 in
    let d = done_of due xs w.0 in
    let last : List Call = (event.Build (record { caps = caps; message = m; notices = texts }), v.0) ∷ (event.Commit, v.1) ∷ [] in
    let made : IsRun m caps brought (xs ++ last) sent = whole xs (event.Build (record { caps = caps; message = m; notices = texts }), v.0) (event.Commit, v.1) refl d.0 (events_made m caps brought texts xs v.0 v.1 (announced ++ clustered) d.1 (sym (append_assoc (arrivals brought false m) announced clustered) ∙ d.1) w.1) v.3 in
    let F : Result (List (List ℕ)) Halt → Type 0 = λ r. Q r xs in
    subst (λ z. IsRun m caps brought (xs ++ z) sent × R (xs ++ z)) (sym v.2) (made, gate xs last (subst F e u.1) refl))

pub run_early : {D : Type 0} {tells : D → DiskState} (o p : Option (List Call)) (m : List WireCard) (caps : Caps) (brought : Brought) (r : Result (List (List ℕ)) Halt) (h : Halt) (Q : Result (List (List ℕ)) Halt → List Call → Type 0) → r ≡ Err h
    → Gains tells o p (Before m caps brought r Q) → Gains tells o p (λ made. IsRun m caps brought made (halted h) × Q (Err h) made)
run_early o p m caps brought r h Q e g =
    gains_weaker o p (Before m caps brought r Q) (λ made. IsRun m caps brought made (halted h) × Q (Err h) made) g
    (λ xs u. let F : Result (List (List ℕ)) Halt → Type 0 = λ r. Q r xs in (early h (halts_with (first_events m caps brought) r xs h e u.0.0) refl, subst F e u.1))

pub due_is : {D : Type 0} {tells : D → DiskState} (o p : Option (List Call)) (d e : List Event) (h : Option Halt) → d ≡ e → Gains tells o p (λ made. Phase d made h) → Gains tells o p (λ made. Phase e made h)
due_is {tells = tells} o p d e h q g = let F : List Event → Type 0 = λ d. Gains tells o p (λ made. Phase d made h) in subst F q g
