-- What the shape of a text says of its parts.
use Rattle.std.proofs.Common.{◌≡◌, ℕ, zero, suc, ◌-◌, ◌≤◌, ◌++◌, Bool, true, false, inl, inr, List, [], ◌∷◌, length, take, drop, length-drop, length-append, Some, None, refl, sym, ap, ◌∙◌, subst, arith}
use Rattle.std.specs.Prelude.{◌&&◌, ◌||◌, if◌then◌else◌, codes, slice_range}
use Rattle.std.specs.List.{list_all, zip}
use Rattle.std.proofs.lemmas.List.{take-append-le, drop-append-le, drop_all}
use Rattle.std.proofs.Math.Seq.{drop-append-add}
use Rattle.std.specs.Cmp.Lexicographic.{pointwise}
use Rattle.std.proofs.lemmas.Bool.{and_from, or_cases}
use Rattle.fsl_order.proofs.Booleans.{first_holds, second_holds}
use Rattle.fsl_text.specs.Decimals.{is_decimal_digit, decimal_value}
use Rattle.fsl_date.specs.Moment.{fits_place, has_date_shape, civil_in, is_civil, civil_ms, date_in}
use Rattle.fsl_date.proofs.ReadOnly.{no_millis}

module _ (f : ℕ → ℕ → Bool) where
  pub pointwise-zip : (xs ys : List ℕ) → length ys ≡ length xs → pointwise f xs ys ≡ list_all (λ p. f p.0 p.1) (zip xs ys)
  pointwise-zip [] [] e = refl
  pointwise-zip [] (y ∷ ys) e = absurd (omega (arith, e))
  pointwise-zip (x ∷ xs) [] e = absurd (omega (arith, e))
  pointwise-zip (x ∷ xs) (y ∷ ys) e = ap (λ b. f x y && b) (pointwise-zip xs ys (omega (arith, e)))

  pub pointwise-other : (xs ys : List ℕ) → (length ys ≡ length xs → ⊥) → pointwise f xs ys ≡ false
  pointwise-other [] [] e = absurd (e refl)
  pointwise-other [] (y ∷ ys) e = refl
  pointwise-other (x ∷ xs) [] e = refl
  pointwise-other (x ∷ xs) (y ∷ ys) e =
      ap (λ b. f x y && b) (pointwise-other xs ys (λ h. e (omega (arith, h)))) ∙ and_false (f x y)
    where
      and_false : (b : Bool) → (b && false) ≡ false
      and_false true = refl
      and_false false = refl

  pointwise-length : (xs ys : List ℕ) → pointwise f xs ys ≡ true → length ys ≡ length xs
  pointwise-length [] [] h = refl
  pointwise-length [] (y ∷ ys) h = absurd cc
  pointwise-length (x ∷ xs) [] h = absurd cc
  pointwise-length (x ∷ xs) (y ∷ ys) h = omega (arith, pointwise-length xs ys (second_holds (f x y) (pointwise f xs ys) h))

  pointwise-drop : (n : ℕ) (xs ys : List ℕ) → pointwise f xs ys ≡ true → pointwise f (drop n xs) (drop n ys) ≡ true
  pointwise-drop zero xs ys h = h
  pointwise-drop (suc n) [] [] h = refl
  pointwise-drop (suc n) [] (y ∷ ys) h = absurd cc
  pointwise-drop (suc n) (x ∷ xs) [] h = absurd cc
  pointwise-drop (suc n) (x ∷ xs) (y ∷ ys) h = pointwise-drop n xs ys (second_holds (f x y) (pointwise f xs ys) h)

  pointwise-take : (n : ℕ) (xs ys : List ℕ) → pointwise f xs ys ≡ true → pointwise f (take n xs) (take n ys) ≡ true
  pointwise-take zero xs ys h = refl
  pointwise-take (suc n) [] [] h = refl
  pointwise-take (suc n) [] (y ∷ ys) h = absurd cc
  pointwise-take (suc n) (x ∷ xs) [] h = absurd cc
  pointwise-take (suc n) (x ∷ xs) (y ∷ ys) h =
      and_from (f x y) (pointwise f (take n xs) (take n ys)) (first_holds (f x y) (pointwise f xs ys) h) (pointwise-take n xs ys (second_holds (f x y) (pointwise f xs ys) h))

  -- a part of the text fits the same part of the shape
  pub pointwise-range : (xs ys : List ℕ) (from to : ℕ) → pointwise f xs ys ≡ true → pointwise f (slice_range xs from to) (slice_range ys from to) ≡ true
  pointwise-range xs ys from to h = pointwise-take (to - from) (drop from xs) (drop from ys) (pointwise-drop from xs ys h)

abbrev nines : ℕ → List ℕ
nines zero = []
nines (suc n) = 57 ∷ nines n

-- a text that fits nines is digits
nines-digits : (n : ℕ) (text : List ℕ) → pointwise fits_place (nines n) text ≡ true → list_all is_decimal_digit text ≡ true
nines-digits zero [] h = refl
nines-digits zero (b ∷ text) h = absurd cc
nines-digits (suc n) [] h = absurd cc
nines-digits (suc n) (b ∷ text) h =
    and_from (is_decimal_digit b) (list_all is_decimal_digit text)
    (first_holds (is_decimal_digit b) (pointwise fits_place (nines n) text) h) (nines-digits n text (second_holds (is_decimal_digit b) (pointwise fits_place (nines n) text) h))

-- nines of both shapes stand for digits
pub digits_at : (text : List ℕ) (from to n : ℕ) → has_date_shape text ≡ true
    → slice_range (codes "9999-99-99T99:99:99") from to ≡ nines n → slice_range (codes "9999-99-99T99:99:99.999") from to ≡ nines n
    → list_all is_decimal_digit (slice_range text from to) ≡ true
digits_at text from to n h short long =
    elim (or_cases (pointwise fits_place (codes "9999-99-99T99:99:99") text) (pointwise fits_place (codes "9999-99-99T99:99:99.999") text) h) [
      | inl s ↦ nines-digits n (slice_range text from to) (subst (λ (shape : List ℕ). pointwise fits_place shape (slice_range text from to) ≡ true) short (pointwise-range fits_place _ text from to s))
      | inr l ↦ nines-digits n (slice_range text from to) (subst (λ (shape : List ℕ). pointwise fits_place shape (slice_range text from to) ≡ true) long (pointwise-range fits_place _ text from to l))
    ]

-- a text of either shape reaches to the seconds
pub to_seconds : (text : List ℕ) → has_date_shape text ≡ true → 19 ≤ length text
to_seconds text h =
    elim (or_cases (pointwise fits_place (codes "9999-99-99T99:99:99") text) (pointwise fits_place (codes "9999-99-99T99:99:99.999") text) h) [
      | inl s ↦ omega (arith, pointwise-length fits_place (codes "9999-99-99T99:99:99") text s)
      | inr l ↦ omega (arith, pointwise-length fits_place (codes "9999-99-99T99:99:99.999") text l)
    ]

-- a text that is not as long as the second shape says no milliseconds
pub no_fraction : (text : List ℕ) → has_date_shape text ≡ true → (length text ≡ 23 → ⊥) → (civil_in text).milli ≡ 0
no_fraction text h other =
    elim (or_cases (pointwise fits_place (codes "9999-99-99T99:99:99") text) (pointwise fits_place (codes "9999-99-99T99:99:99.999") text) h) [
      | inl s ↦ no_millis text s
      | inr l ↦ absurd (no (sym l ∙ pointwise-other fits_place (codes "9999-99-99T99:99:99.999") text other))
    ]
  where
    no : true ≡ false → ⊥
    no e = cc

-- ---- a date to the second, and the same with no milliseconds behind it

range_before : (text more : List ℕ) (from to : ℕ) → from ≤ to → to ≤ length text → slice_range (text ++ more) from to ≡ slice_range text from to
range_before text more from to h k =
    let long : to - from ≤ length (drop from text) = omega (arith, h, k, length-drop from text) in
    ap (take (to - from)) (drop-append-le from text more (omega (arith, h, k))) ∙ take-append-le (to - from) (drop from text) more long

civil_with_none : (text : List ℕ) → length text ≡ 19 → civil_in (text ++ codes ".000") ≡ civil_in text
civil_with_none text long =
    let before : (from to : ℕ) → from ≤ to → to ≤ 19 → slice_range (text ++ codes ".000") from to ≡ slice_range text from to =
    λ from to h k. range_before text (codes ".000") from to h (omega (arith, k, long)) in
    let year = ap decimal_value (before 0 4 (omega arith) (omega arith)) in
    let month = ap decimal_value (before 5 7 (omega arith) (omega arith)) in
    let day = ap decimal_value (before 8 10 (omega arith) (omega arith)) in
    let hour = ap decimal_value (before 11 13 (omega arith) (omega arith)) in
    let minute = ap decimal_value (before 14 16 (omega arith) (omega arith)) in
    let second = ap decimal_value (before 17 19 (omega arith) (omega arith)) in
    let behind : drop 20 (text ++ codes ".000") ≡ codes "000" = rw long at (drop-append-add text (codes ".000") 1) in
    let none : drop 20 text ≡ [] = drop_all 20 text (omega (arith, long)) in
    let milli = ap (λ (t : List ℕ). decimal_value (take 3 t)) behind ∙ ap (λ (t : List ℕ). decimal_value (take 3 t)) (sym none) in
    λ i. record { year = year i; month = month i; day = day i; hour = hour i; minute = minute i; second = second i; milli = milli i }

pointwise-append : (f : ℕ → ℕ → Bool) (xs ys more rest : List ℕ) → length ys ≡ length xs → pointwise f (xs ++ more) (ys ++ rest) ≡ (pointwise f xs ys && pointwise f more rest)
pointwise-append f [] [] more rest e = refl
pointwise-append f [] (y ∷ ys) more rest e = absurd (omega (arith, e))
pointwise-append f (x ∷ xs) [] more rest e = absurd (omega (arith, e))
pointwise-append f (x ∷ xs) (y ∷ ys) more rest e =
    ap (λ b. f x y && b) (pointwise-append f xs ys more rest (omega (arith, e))) ∙ and_assoc (f x y) (pointwise f xs ys) (pointwise f more rest)
  where
    and_assoc : (a b c : Bool) → (a && (b && c)) ≡ (a && b && c)
    and_assoc true b c = refl
    and_assoc false b c = refl

shape_with_none : (text : List ℕ) → length text ≡ 19 → has_date_shape (text ++ codes ".000") ≡ has_date_shape text
shape_with_none text long =
    let more : length (text ++ codes ".000") ≡ 23 = omega (arith, length-append text (codes ".000"), long) in
    let a = pointwise-other fits_place (codes "9999-99-99T99:99:99") (text ++ codes ".000") (λ e. absurd (omega (arith, e, more))) in
    let b = pointwise-append fits_place (codes "9999-99-99T99:99:99") text (codes ".999") (codes ".000") long in
    let c = pointwise-other fits_place (codes "9999-99-99T99:99:99.999") text (λ e. absurd (omega (arith, e, long))) in
    (λ i. a i || b i) ∙ same (pointwise fits_place (codes "9999-99-99T99:99:99") text) ∙ (λ i. pointwise fits_place (codes "9999-99-99T99:99:99") text || sym c i)
  where
    same : (t : Bool) → (t && true) ≡ (t || false)
    same true = refl
    same false = refl

-- a text to the second is the moment that it is with `.000` behind it
pub date_in-seconds : (text : List ℕ) → length text ≡ 19 → date_in text ≡ date_in (text ++ codes ".000")
date_in-seconds text long =
    λ i. if (sym (shape_with_none text long) i && is_civil (sym (civil_with_none text long) i)) then Some (civil_ms (sym (civil_with_none text long) i)) else None
