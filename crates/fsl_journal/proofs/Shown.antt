-- What the front shows that was found by the gates.
use Rattle.std.proofs.Common.{◌≡◌, ◌≢◌, ◌⊎◌, inl, inr, ℕ, ◌+◌, ◌<◌, ◌≤◌, List, [], ◌∷◌, ◌++◌, length, take, refl, sym, ◌∙◌, ap, arith, append_assoc, length-append}
use Rattle.std.specs.Prelude.{slice_index, slice_set}
use Rattle.std.proofs.lemmas.Bool.{cases_eq}
use Rattle.std.proofs.lemmas.List.{take_at, get_or_append_left, get_or-set_other, take_more_set}
use Rattle.fsl_disk.specs.Disk.{Begins}
use Rattle.fsl_disk.specs.Front.{shown, Stays}
use Rattle.fsl_journal.specs.Beside.{IsSeen, closed_front}
use Rattle.fsl_journal.specs.Commit.{marked}
use Rattle.fsl_journal.specs.File.{mark_1}
use Rattle.fsl_journal.specs.Gates.{gate_of, HasGroups, GoesOn}
use Rattle.fsl_journal.proofs.Gates.{parts, upto, length_upto, at_gate, gate_inside}

-- below the gate all but the mark stays
same_below : (mark later : ℕ) (before more : List (List ℕ)) (one other : List ℕ) (k : ℕ) → HasGroups mark before one → HasGroups later (before ++ more) other → k < gate_of before → k ≢ 13 → slice_index other k ≡ slice_index one k
same_below mark later before more one other k has on below other_place =
    ap (λ (l : List ℕ). slice_index l k) (at_gate later before more other on)
    ∙ get_or_append_left (upto later before) (parts more ++ on.gate ∷ on.rest) 0 k (omega (arith, below, length_upto later before))
    ∙ get_or-set_other (upto mark before) 13 k later 0 other_place
    ∙ sym (get_or_append_left (upto mark before) (has.gate ∷ has.rest) 0 k (omega (arith, below, length_upto mark before)))
    ∙ sym (ap (λ (l : List ℕ). slice_index l k) has.layout)

pub shown_is : (gate byte mark later : ℕ) (before more : List (List ℕ)) (now : List ℕ) → HasGroups later (before ++ more) now → gate ≡ gate_of before → shown (closed_front gate byte mark) now ≡ upto mark before ++ byte ∷ []
shown_is gate byte mark later before more now has at =
    let tail = parts more ++ has.gate ∷ has.rest in
    let with_mark : slice_set now 13 mark ≡ upto mark before ++ tail = ap (λ (l : List ℕ). slice_set l 13 mark) (at_gate later before more now has) in
    take_more_set (slice_set now 13 mark) gate byte (omega (arith, at, ap length with_mark, length-append (upto mark before) tail, length_upto mark before, length-append (parts more) (has.gate ∷ has.rest)))
    ∙ ap (λ (l : List ℕ). l ++ byte ∷ []) (ap (λ (l : List ℕ). take gate l) with_mark ∙ take_at (upto mark before) tail gate (length_upto mark before ∙ sym at))

begins_split : (seen rest c : List ℕ) → c ≡ seen ++ rest → Begins seen c
begins_split seen rest c is = ap (λ (l : List ℕ). take (length seen) l) is ∙ take_at seen rest (length seen) refl

-- a front of what the file held when the gate was seen
pub seen_is : (mark byte other : ℕ) (before : List (List ℕ)) (one seen : List ℕ) (has : HasGroups mark before one) → byte ≡ has.gate → (other ≡ mark) ⊎ (mark ≡ mark_1) → seen ≡ upto other before ++ byte ∷ [] → IsSeen one seen
seen_is mark byte other before one seen has byte_is (inl same) is =
    let all : seen ≡ upto mark before ++ has.gate ∷ [] = is ∙ (λ i. upto (same i) before ++ byte_is i ∷ []) in
    inl (begins_split seen has.rest one (has.layout ∙ sym (append_assoc (upto mark before) (has.gate ∷ []) has.rest) ∙ ap (λ (l : List ℕ). l ++ has.rest) (sym all)))
seen_is mark byte other before one seen has byte_is (inr old) is =
    let all : seen ≡ upto other before ++ has.gate ∷ [] = is ∙ (λ i. upto other before ++ byte_is i ∷ []) in
    inr (
      ap (λ (l : List ℕ). slice_index l 13) has.layout ∙ old,
      (
        other,
        begins_split seen has.rest (marked other one) (ap (λ (l : List ℕ). marked other l) has.layout ∙ sym (append_assoc (upto other before) (has.gate ∷ []) has.rest) ∙ ap (λ (l : List ℕ). l ++ has.rest) (sym all)),
      ),
    )

pub stays_is : (held : ℕ → List ℕ) (m now gate byte other mark : ℕ) (before : List (List ℕ)) → HasGroups mark before (held m) → gate ≡ gate_of before → m ≤ now → ((i j : ℕ) → m ≤ i → i ≤ j → GoesOn (held i) (held j)) → Stays (closed_front gate byte other) held now
stays_is held m now gate byte other mark before has at until on n since =
    let then = on m n (omega arith) (omega (arith, until, since)) mark before has in
    let here = on m now (omega arith) until mark before has in (
      omega (arith, gate_inside gate (held n) (record { mark = then.0; before = before; behind = then.1.0; has = then.1.1; at = at })),
      λ k below. by k below (cases_eq k 13) (cases_eq k gate) (same_below mark then.0 before then.1.0 (held m) (held n) k has then.1.1) (same_below mark here.0 before here.1.0 (held m) (held now) k has here.1.1),
    )
  where
    by : (k : ℕ) → k < gate + 1 → (k ≡ 13) ⊎ (k ≡ 13 → ⊥) → (k ≡ gate) ⊎ (k ≡ gate → ⊥) → (k < gate_of before → k ≢ 13 → slice_index (held n) k ≡ slice_index (held m) k) → (k < gate_of before → k ≢ 13 → slice_index (held now) k ≡ slice_index (held m) k)
        → (k ≡ 13) ⊎ (k ≡ gate) ⊎ (slice_index (held n) k ≡ slice_index (held now) k)
    by k below (inl is) _ _ _ = inl is
    by k below (inr _) (inl is) _ _ = inr (inl is)
    by k below (inr off) (inr not_gate) a b =
        let inside : k < gate_of before = omega (arith, below, at, not_gate) in
        inr (inr (a inside off ∙ sym (b inside off)))
