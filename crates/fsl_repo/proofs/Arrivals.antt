-- What an arrival answers.
use Rattle.std.proofs.Common.{◌≡◌, inl, inr, ℕ, ◌^◌, Bool, true, false, List, [], ◌∷◌, length, Option, Some, None, Result, Ok, Err, refl, sym, ap, subst, ◌∙◌, arith}
use Rattle.std.specs.Prelude.{⊤, ◌&&◌, ◌||◌, not, if◌then◌else◌, nat_lt, nat_le, nat_eq, T, is_none, MatchBool, MatchOption}
use Rattle.std.specs.Option.{option_map_or}
use Rattle.std.specs.Str.{bytes_eq}
use Rattle.std.specs.FinMap as map_of
use Rattle.std.specs.FinSet as set
use Rattle.std.proofs.lemmas.Bool.{le-leb, ltb-false}
use Rattle.std.proofs.Math.Dec.{eqb_refl}
use Rattle.fsl_name.specs.Name.{name_of}
use Rattle.fsl_record.specs.Receipts.{Brought}
use Rattle.fsl_record.specs.declared.Record.TheVariants as record_of
use Rattle.fsl_blobs.specs.Fold.{Held, after}
use Rattle.fsl_blobs.specs.Held.{state_of}
use Rattle.fsl_blobs.specs.declared.BlobState.{BlobState}
use Rattle.fsl_blobs.specs.declared.BlobState.TheVariants as blob
use Rattle.fsl_repo.specs.declared.Arrival.{Arrival}
use Rattle.fsl_repo.specs.declared.Arrival.TheVariants as arrival
use Rattle.fsl_repo.specs.declared.ArriveFault.{ArriveFault}
use Rattle.fsl_repo.specs.declared.ArriveFault.TheVariants as arrive_fault
use Rattle.fsl_repo.specs.Machine.{State, now, again, IsRoom, IsArrival, IsArrivalOf, ArriveStep, IsDueOrMemory, IsStoring, arrived, arrival_wants}
use Rattle.fsl_repo.specs.Arriving.{is_private, IsPublishing}
use Rattle.fsl_blobs.specs.Laws.{ShunnedAreNotHeld}
use Rattle.fsl_repo.proofs.HeldMore.{absent_is}

abbrev Told : Type 0
Told = Result Arrival ArriveFault

-- ---- the state of a name

abbrev told_by : Option Held → Bool → BlobState
told_by o b = option_map_or (λ a. if a.private then blob.Private (length a.bytes) else blob.Public (length a.bytes)) o (if b then blob.Shunned else blob.Absent)

held_state : (a : Bool) (n : ℕ) → (if a then blob.Private n else blob.Public n) ≡ blob.Shunned → ⊥
held_state true n h = cc
held_state false n h = cc

pub shunned_by : (o : Option Held) (b : Bool) → told_by o b ≡ blob.Shunned → b ≡ true
shunned_by None true h = refl
shunned_by None false h = absurd cc
shunned_by (Some a) b h = absurd (held_state a.private (length a.bytes) h)

pub held_by : (private : Bool) (o : Option Held) (b : Bool) (x : BlobState) → told_by o b ≡ x → is_private x ≡ private → (x ≡ blob.Absent → ⊥) → (x ≡ blob.Shunned → ⊥) → (a : Held) × (o ≡ Some a) × (a.private ≡ private)
held_by private None true x h is not_absent not_shunned = absurd (not_shunned (sym h))
held_by private None false x h is not_absent not_shunned = absurd (not_absent (sym h))
held_by private (Some a) b x h is not_absent not_shunned = (a, refl, told a.private refl ∙ ap is_private h ∙ is)
  where
    told : (p : Bool) → a.private ≡ p → a.private ≡ is_private (if a.private then blob.Private (length a.bytes) else blob.Public (length a.bytes))
    told true e = subst (λ (q : Bool). q ≡ is_private (if q then blob.Private (length a.bytes) else blob.Public (length a.bytes))) (sym e) refl
    told false e = subst (λ (q : Bool). q ≡ is_private (if q then blob.Private (length a.bytes) else blob.Public (length a.bytes))) (sym e) refl

pub public_is : (n : ℕ) → ((blob.Public n ≡ blob.Absent → ⊥) × (blob.Public n ≡ blob.Shunned → ⊥))
public_is n = ((λ h. cc), (λ h. cc))

pub private_is : (n : ℕ) → ((blob.Private n ≡ blob.Absent → ⊥) × (blob.Private n ≡ blob.Shunned → ⊥))
private_is n = ((λ h. cc), (λ h. cc))

-- ---- names

true_of : (b : Bool) → T b → b ≡ true
true_of true h = refl
true_of false h = absurd h

pub same_name : (name other : List ℕ) → name ≡ other → bytes_eq other name ≡ true
same_name name other is = subst (λ (n : List ℕ). bytes_eq other n ≡ true) (sym is) (itself other)
  where
    itself : (xs : List ℕ) → bytes_eq xs xs ≡ true
    itself [] = refl
    itself (x ∷ xs) = λ i. true_of (nat_eq x x) (eqb_refl x) i && itself xs i

-- ---- answers that change nothing

early : (s : State) (name : List ℕ) (receipt : Option Brought) (bytes : List ℕ) (private : Bool) (r : Told) → IsArrival s name bytes private r → arrived s name receipt bytes private r ≡ s → ArriveStep s name receipt bytes private r s
early s name receipt bytes private r is same = inl (arrived s name receipt bytes private r, (is, refl), record { state = ap (λ (x : State). record x { faults = s.faults }) (sym same); faults = omega arith })

module _ (s : State) (name : List ℕ) (receipt : Option Brought) (bytes : List ℕ) (private : Bool) where
  abbrev Named : Told → Type 0
  Named r = MatchBool (nat_lt (2 ^ 24) (length bytes)) (r ≡ Err (arrive_fault.TooLarge (length bytes))) (MatchBool (bytes_eq (name_of bytes) name) (IsArrivalOf (now s) name bytes private r) (r ≡ Err (arrive_fault.NameWrong (name_of bytes))))

  pub stopped_step : (n : ℕ) → s.stopped ≡ Some n → ArriveStep s name receipt bytes private (Err (arrive_fault.Stopped n)) s
  stopped_step n is =
      let r : Told = Err (arrive_fault.Stopped n) in
      early s name receipt bytes private r (subst (λ (o : Option ℕ). MatchOption o (Named r) (λ faults. r ≡ Err (arrive_fault.Stopped faults))) (sym is) refl) refl

  module _ (runs : s.stopped ≡ None) where
    running : (r : Told) → Named r → IsArrival s name bytes private r
    running r named = subst (λ (o : Option ℕ). MatchOption o (Named r) (λ faults. r ≡ Err (arrive_fault.Stopped faults))) (sym runs) named

    pub large_step : nat_lt (2 ^ 24) (length bytes) ≡ true → ArriveStep s name receipt bytes private (Err (arrive_fault.TooLarge (length bytes))) s
    large_step is =
        let r : Told = Err (arrive_fault.TooLarge (length bytes)) in
        early s name receipt bytes private r
        (running r (subst (λ (b : Bool). MatchBool b (r ≡ Err (arrive_fault.TooLarge (length bytes))) (MatchBool (bytes_eq (name_of bytes) name) (IsArrivalOf (now s) name bytes private r) (r ≡ Err (arrive_fault.NameWrong (name_of bytes))))) (sym is) refl)) refl

    module _ (small : nat_lt (2 ^ 24) (length bytes) ≡ false) where
      sized : (r : Told) → MatchBool (bytes_eq (name_of bytes) name) (IsArrivalOf (now s) name bytes private r) (r ≡ Err (arrive_fault.NameWrong (name_of bytes))) → IsArrival s name bytes private r
      sized r h = running r (subst (λ (b : Bool). MatchBool b (r ≡ Err (arrive_fault.TooLarge (length bytes))) (MatchBool (bytes_eq (name_of bytes) name) (IsArrivalOf (now s) name bytes private r) (r ≡ Err (arrive_fault.NameWrong (name_of bytes))))) (sym small) h)

      pub wrong_step : bytes_eq (name_of bytes) name ≡ false → ArriveStep s name receipt bytes private (Err (arrive_fault.NameWrong (name_of bytes))) s
      wrong_step is =
          let r : Told = Err (arrive_fault.NameWrong (name_of bytes)) in
          early s name receipt bytes private r (sized r (subst (λ (b : Bool). MatchBool b (IsArrivalOf (now s) name bytes private r) (r ≡ Err (arrive_fault.NameWrong (name_of bytes)))) (sym is) refl)) refl

      module _ (named : bytes_eq (name_of bytes) name ≡ true) where
        right : (r : Told) → IsArrivalOf (now s) name bytes private r → IsArrival s name bytes private r
        right r h = sized r (subst (λ (b : Bool). MatchBool b (IsArrivalOf (now s) name bytes private r) (r ≡ Err (arrive_fault.NameWrong (name_of bytes)))) (sym named) h)

        abbrev At : Bool → Option Held → Told → Type 0
        At b o r = MatchBool b (r ≡ Ok arrival.Shunned) (MatchOption o (IsRoom (after (now s) (record_of.Blob private name None bytes)) r) (λ held. r ≡ Ok (again held private)))

        here : (b : Bool) (o : Option Held) (r : Told) → set.contains (now s).shunned name ≡ b → map_of.get (now s).held name ≡ o → At b o r → IsArrival s name bytes private r
        here b o r shunned held h =
            right r (subst (λ (x : Bool). At x (map_of.get (now s).held name) r) (sym shunned) (subst (λ (x : Option Held). At b x r) (sym held) h))

        pub shunned_step : state_of (now s) name ≡ blob.Shunned → ArriveStep s name receipt bytes private (Ok arrival.Shunned) s
        shunned_step is =
            early s name receipt bytes private (Ok arrival.Shunned)
            (here true (map_of.get (now s).held name) (Ok arrival.Shunned) (shunned_by (map_of.get (now s).held name) (set.contains (now s).shunned name) is) refl refl) refl

        not_shunned : ShunnedAreNotHeld → (a : Held) → map_of.get (now s).held name ≡ Some a → (b : Bool) → set.contains (now s).shunned name ≡ b → set.contains (now s).shunned name ≡ false
        not_shunned law a held true is = let none = law s.records name is in absurd cc
        not_shunned law a held false is = is

        again_step : ShunnedAreNotHeld → (a : Held) → map_of.get (now s).held name ≡ Some a → (r : Arrival) → again a private ≡ r → IsArrival s name bytes private (Ok r)
        again_step law a held r is = here false (Some a) (Ok r) (not_shunned law a held (set.contains (now s).shunned name) refl) held (ap Ok (sym is))

        present : (a : Held) → (not a.private || private) ≡ true → again a private ≡ arrival.Present
        present a is = ap (λ (b : Bool). if b then arrival.Present else arrival.Published) is

        pub public_step : ShunnedAreNotHeld → (n : ℕ) → state_of (now s) name ≡ blob.Public n → ArriveStep s name receipt bytes private (Ok arrival.Present) s
        public_step law n is =
            let held = held_by false (map_of.get (now s).held name) (set.contains (now s).shunned name) (blob.Public n) is refl (public_is n).0 (public_is n).1 in
            early s name receipt bytes private (Ok arrival.Present) (again_step law held.0 held.1 arrival.Present (present held.0 (ap (λ (b : Bool). not b || private) held.2))) refl

        or_true : (b c : Bool) → c ≡ true → (b || c) ≡ true
        or_true true c h = refl
        or_true false c h = h

        pub private_step : ShunnedAreNotHeld → (n : ℕ) → state_of (now s) name ≡ blob.Private n → private ≡ true → ArriveStep s name receipt bytes private (Ok arrival.Present) s
        private_step law n is stays =
            let held = held_by true (map_of.get (now s).held name) (set.contains (now s).shunned name) (blob.Private n) is refl (private_is n).0 (private_is n).1 in
            early s name receipt bytes private (Ok arrival.Present) (again_step law held.0 held.1 arrival.Present (present held.0 (or_true (not held.0.private) private stays))) refl

        wants_by : (o : Option Held) (b : Bool) → set.contains (now s).shunned name ≡ false → map_of.get (now s).held name ≡ o → option_map_or (λ held. held.private && not private) o true ≡ true → arrival_wants s name bytes private ≡ true
        wants_by o b shunned held is =
            (λ i. is_none (runs i) && nat_le (length bytes) (2 ^ 24) && bytes_eq (name_of bytes) name && not (shunned i) && option_map_or (λ held. held.private && not private) (held i) true)
            ∙ (λ i. is_none {T = ℕ} None && small_le i && named i && not false && is i)
          where
            small_le : nat_le (length bytes) (2 ^ 24) ≡ true
            small_le = le-leb (length bytes) (2 ^ 24) (ltb-false (2 ^ 24) (length bytes) small)

        pub published_step : ShunnedAreNotHeld → (n : ℕ) → state_of (now s) name ≡ blob.Private n → private ≡ false → (r : Told) (new : State) → IsDueOrMemory s (IsPublishing s name) (Err arrive_fault.Memory) ⊤ r new → ArriveStep s name receipt bytes private r new
        published_step law n is goes r new (inl told) =
            let held = held_by true (map_of.get (now s).held name) (set.contains (now s).shunned name) (blob.Private n) is refl (private_is n).0 (private_is n).1 in
            let other : (not held.0.private || private) ≡ false = (λ i. not (held.2 i) || goes i) in
            inl (
              told.0,
              (
                subst (λ (x : Told). IsArrival s name bytes private x) (sym told.1.0) (again_step law held.0 held.1 arrival.Published (ap (λ (b : Bool). if b then arrival.Present else arrival.Published) other)),
                told.1.1 ∙ ap (arrived s name receipt bytes private) (sym told.1.0),
              ),
              told.2,
            )
        published_step law n is goes r new (inr told) =
            let held = held_by true (map_of.get (now s).held name) (set.contains (now s).shunned name) (blob.Private n) is refl (private_is n).0 (private_is n).1 in
            inr (told.0, wants_by (Some held.0) true (not_shunned law held.0 held.1 (set.contains (now s).shunned name) refl) held.1 (λ i. held.2 i && not (goes i)), told.2)

        pub stored_step : state_of (now s) name ≡ blob.Absent → (r : Told) (new : State) → IsDueOrMemory s (IsStoring s name receipt bytes private) (Err arrive_fault.Memory) ⊤ r new → ArriveStep s name receipt bytes private r new
        stored_step is r new (inl told) =
            let out = absent_is (now s) name is in
            inl (told.0, (here false None r out.1 out.0 told.1.0, told.1.1), told.2)
        stored_step is r new (inr told) =
            let out = absent_is (now s) name is in
            inr (told.0, wants_by None true out.1 out.0 refl, told.2)
