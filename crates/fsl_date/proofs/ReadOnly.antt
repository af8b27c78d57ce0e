-- Only texts of dates are read.
use Rattle.std.proofs.Common.{◌≡◌, ℕ, ◌+◌, ◌-◌, ◌*◌, ◌/◌, ◌%◌, ◌≤◌, Bool, true, false, cond, List, [], ◌∷◌, ◌++◌, Option, Some, None, refl, sym, arith, inl, inr}
use Rattle.std.specs.Prelude.{◌&&◌, ◌⊎◌, codes, nat_le}
use Rattle.std.specs.Cmp.Lexicographic.{pointwise}
use Rattle.std.proofs.lemmas.Bool.{eqb-true, or_cases}
use Rattle.fsl_order.proofs.Booleans.{first_holds, second_holds}
use Rattle.fsl_text.specs.Decimals.{is_decimal_digit, decimal_value}
use Rattle.fsl_date.specs.Moment.{is_civil, civil_ms, date_in, civil_in, fits_place, has_date_shape, two_digits, three_digits, four_digits, seconds_text, millis_text, IsDateText}

-- a digit is 48 and a number up to 9
pub record IsDigit (b : ℕ) : Type 0 where
  pub from : 48 ≤ b
  pub to : b ≤ 57

is_digit : (b : ℕ) → is_decimal_digit b ≡ true → IsDigit b
is_digit b h = record { from = grind (arith, first_holds (nat_le 48 b) (nat_le b 57) h); to = grind (arith, second_holds (nat_le 48 b) (nat_le b 57) h) }

two_text : (a b : ℕ) → IsDigit a → IsDigit b → two_digits (decimal_value (a ∷ b ∷ [])) ≡ a ∷ b ∷ []
two_text a b h k =
    let x : 48 + (10 * (10 * 0 + (a - 48)) + (b - 48)) / 10 ≡ a = omega (arith, h.from, h.to, k.from, k.to) in
    let y : 48 + (10 * (10 * 0 + (a - 48)) + (b - 48)) % 10 ≡ b = omega (arith, h.from, h.to, k.from, k.to) in
    λ i. x i ∷ y i ∷ []

three_text : (a b c : ℕ) → IsDigit a → IsDigit b → IsDigit c → three_digits (decimal_value (a ∷ b ∷ c ∷ [])) ≡ a ∷ b ∷ c ∷ []
three_text a b c h k l =
    let x : 48 + (10 * (10 * (10 * 0 + (a - 48)) + (b - 48)) + (c - 48)) / 100 ≡ a = omega (arith, h.from, h.to, k.from, k.to, l.from, l.to) in
    let y : 48 + (10 * (10 * (10 * 0 + (a - 48)) + (b - 48)) + (c - 48)) % 100 / 10 ≡ b = omega (arith, h.from, h.to, k.from, k.to, l.from, l.to) in
    let z : 48 + (10 * (10 * (10 * 0 + (a - 48)) + (b - 48)) + (c - 48)) % 100 % 10 ≡ c = omega (arith, h.from, h.to, k.from, k.to, l.from, l.to) in
    λ i. x i ∷ y i ∷ z i ∷ []

four_text : (a b c d : ℕ) → IsDigit a → IsDigit b → IsDigit c → IsDigit d → four_digits (decimal_value (a ∷ b ∷ c ∷ d ∷ [])) ≡ a ∷ b ∷ c ∷ d ∷ []
four_text a b c d h k l m =
    let v : 10 * (10 * (10 * (10 * 0 + (a - 48)) + (b - 48)) + (c - 48)) + (d - 48) ≡ 100 * (10 * (a - 48) + (b - 48)) + (10 * (c - 48) + (d - 48)) = omega arith in
    let x : 48 + (10 * (10 * (10 * (10 * 0 + (a - 48)) + (b - 48)) + (c - 48)) + (d - 48)) / 100 / 10 ≡ a = omega (arith, h.from, h.to, k.from, k.to, l.from, l.to, m.from, m.to) in
    let y : 48 + (10 * (10 * (10 * (10 * 0 + (a - 48)) + (b - 48)) + (c - 48)) + (d - 48)) / 100 % 10 ≡ b = omega (arith, h.from, h.to, k.from, k.to, l.from, l.to, m.from, m.to) in
    let z : 48 + (10 * (10 * (10 * (10 * 0 + (a - 48)) + (b - 48)) + (c - 48)) + (d - 48)) % 100 / 10 ≡ c = omega (arith, h.from, h.to, k.from, k.to, l.from, l.to, m.from, m.to) in
    let w : 48 + (10 * (10 * (10 * (10 * 0 + (a - 48)) + (b - 48)) + (c - 48)) + (d - 48)) % 100 % 10 ≡ d = omega (arith, h.from, h.to, k.from, k.to, l.from, l.to, m.from, m.to) in
    λ i. x i ∷ y i ∷ z i ∷ w i ∷ []

-- what holds of a text with a byte at a place holds of each text of the shape
by_cell : (P : List ℕ → Type 0) (place : ℕ) (shape : List ℕ) → ((b : ℕ) (rest : List ℕ) → fits_place place b ≡ true → pointwise fits_place shape rest ≡ true → P (b ∷ rest)) → (text : List ℕ) → pointwise fits_place (place ∷ shape) text ≡ true → P text
by_cell P place shape f [] h = absurd cc
by_cell P place shape f (b ∷ text) h = f b text (first_holds (fits_place place b) (pointwise fits_place shape text) h) (second_holds (fits_place place b) (pointwise fits_place shape text) h)

by_end : (P : List ℕ → Type 0) → P [] → (text : List ℕ) → pointwise fits_place [] text ≡ true → P text
by_end P f [] h = f
by_end P f (b ∷ text) h = absurd cc

abbrev Is_seconds_only : List ℕ → Type 0
Is_seconds_only text = text ≡ seconds_text (civil_in text)

seconds_only_cells : (b0 b1 b2 b3 b4 b5 b6 b7 b8 b9 b10 b11 b12 b13 b14 b15 b16 b17 b18 : ℕ) → fits_place 57 b0 ≡ true → fits_place 57 b1 ≡ true → fits_place 57 b2 ≡ true → fits_place 57 b3 ≡ true → fits_place 45 b4 ≡ true → fits_place 57 b5 ≡ true → fits_place 57 b6 ≡ true → fits_place 45 b7 ≡ true → fits_place 57 b8 ≡ true → fits_place 57 b9 ≡ true → fits_place 84 b10 ≡ true → fits_place 57 b11 ≡ true → fits_place 57 b12 ≡ true → fits_place 58 b13 ≡ true → fits_place 57 b14 ≡ true → fits_place 57 b15 ≡ true → fits_place 58 b16 ≡ true → fits_place 57 b17 ≡ true → fits_place 57 b18 ≡ true → Is_seconds_only (b0 ∷ b1 ∷ b2 ∷ b3 ∷ b4 ∷ b5 ∷ b6 ∷ b7 ∷ b8 ∷ b9 ∷ b10 ∷ b11 ∷ b12 ∷ b13 ∷ b14 ∷ b15 ∷ b16 ∷ b17 ∷ b18 ∷ [])
seconds_only_cells b0 b1 b2 b3 b4 b5 b6 b7 b8 b9 b10 b11 b12 b13 b14 b15 b16 b17 b18 f0 f1 f2 f3 f4 f5 f6 f7 f8 f9 f10 f11 f12 f13 f14 f15 f16 f17 f18 =
    let year = four_text b0 b1 b2 b3 (is_digit b0 f0) (is_digit b1 f1) (is_digit b2 f2) (is_digit b3 f3) in
    let month = two_text b5 b6 (is_digit b5 f5) (is_digit b6 f6) in
    let day = two_text b8 b9 (is_digit b8 f8) (is_digit b9 f9) in
    let hour = two_text b11 b12 (is_digit b11 f11) (is_digit b12 f12) in
    let minute = two_text b14 b15 (is_digit b14 f14) (is_digit b15 f15) in
    let second = two_text b17 b18 (is_digit b17 f17) (is_digit b18 f18) in
    let s4 : b4 ≡ 45 = eqb-true b4 45 f4 in
    let s7 : b7 ≡ 45 = eqb-true b7 45 f7 in
    let s10 : b10 ≡ 84 = eqb-true b10 84 f10 in
    let s13 : b13 ≡ 58 = eqb-true b13 58 f13 in
    let s16 : b16 ≡ 58 = eqb-true b16 58 f16 in
    λ i. sym year i ++ s4 i ∷ sym month i ++ s7 i ∷ sym day i ++ s10 i ∷ sym hour i ++ s13 i ∷ sym minute i ++ s16 i ∷ sym second i

seconds_only : (text : List ℕ) → pointwise fits_place (codes "9999-99-99T99:99:99") text ≡ true → Is_seconds_only text
seconds_only text h =
    by_cell (λ (t : List ℕ). Is_seconds_only (t)) 57 (codes "999-99-99T99:99:99") (λ b0 r0 f0 m0.
    by_cell (λ (t : List ℕ). Is_seconds_only (b0 ∷ t)) 57 (codes "99-99-99T99:99:99") (λ b1 r1 f1 m1.
    by_cell (λ (t : List ℕ). Is_seconds_only (b0 ∷ b1 ∷ t)) 57 (codes "9-99-99T99:99:99") (λ b2 r2 f2 m2.
    by_cell (λ (t : List ℕ). Is_seconds_only (b0 ∷ b1 ∷ b2 ∷ t)) 57 (codes "-99-99T99:99:99") (λ b3 r3 f3 m3.
    by_cell (λ (t : List ℕ). Is_seconds_only (b0 ∷ b1 ∷ b2 ∷ b3 ∷ t)) 45 (codes "99-99T99:99:99") (λ b4 r4 f4 m4.
    by_cell (λ (t : List ℕ). Is_seconds_only (b0 ∷ b1 ∷ b2 ∷ b3 ∷ b4 ∷ t)) 57 (codes "9-99T99:99:99") (λ b5 r5 f5 m5.
    by_cell (λ (t : List ℕ). Is_seconds_only (b0 ∷ b1 ∷ b2 ∷ b3 ∷ b4 ∷ b5 ∷ t)) 57 (codes "-99T99:99:99") (λ b6 r6 f6 m6.
    by_cell (λ (t : List ℕ). Is_seconds_only (b0 ∷ b1 ∷ b2 ∷ b3 ∷ b4 ∷ b5 ∷ b6 ∷ t)) 45 (codes "99T99:99:99") (λ b7 r7 f7 m7.
    by_cell (λ (t : List ℕ). Is_seconds_only (b0 ∷ b1 ∷ b2 ∷ b3 ∷ b4 ∷ b5 ∷ b6 ∷ b7 ∷ t)) 57 (codes "9T99:99:99") (λ b8 r8 f8 m8.
    by_cell (λ (t : List ℕ). Is_seconds_only (b0 ∷ b1 ∷ b2 ∷ b3 ∷ b4 ∷ b5 ∷ b6 ∷ b7 ∷ b8 ∷ t)) 57 (codes "T99:99:99") (λ b9 r9 f9 m9.
    by_cell (λ (t : List ℕ). Is_seconds_only (b0 ∷ b1 ∷ b2 ∷ b3 ∷ b4 ∷ b5 ∷ b6 ∷ b7 ∷ b8 ∷ b9 ∷ t)) 84 (codes "99:99:99") (λ b10 r10 f10 m10.
    by_cell (λ (t : List ℕ). Is_seconds_only (b0 ∷ b1 ∷ b2 ∷ b3 ∷ b4 ∷ b5 ∷ b6 ∷ b7 ∷ b8 ∷ b9 ∷ b10 ∷ t)) 57 (codes "9:99:99") (λ b11 r11 f11 m11.
    by_cell (λ (t : List ℕ). Is_seconds_only (b0 ∷ b1 ∷ b2 ∷ b3 ∷ b4 ∷ b5 ∷ b6 ∷ b7 ∷ b8 ∷ b9 ∷ b10 ∷ b11 ∷ t)) 57 (codes ":99:99") (λ b12 r12 f12 m12.
    by_cell (λ (t : List ℕ). Is_seconds_only (b0 ∷ b1 ∷ b2 ∷ b3 ∷ b4 ∷ b5 ∷ b6 ∷ b7 ∷ b8 ∷ b9 ∷ b10 ∷ b11 ∷ b12 ∷ t)) 58 (codes "99:99") (λ b13 r13 f13 m13.
    by_cell (λ (t : List ℕ). Is_seconds_only (b0 ∷ b1 ∷ b2 ∷ b3 ∷ b4 ∷ b5 ∷ b6 ∷ b7 ∷ b8 ∷ b9 ∷ b10 ∷ b11 ∷ b12 ∷ b13 ∷ t)) 57 (codes "9:99") (λ b14 r14 f14 m14.
    by_cell (λ (t : List ℕ). Is_seconds_only (b0 ∷ b1 ∷ b2 ∷ b3 ∷ b4 ∷ b5 ∷ b6 ∷ b7 ∷ b8 ∷ b9 ∷ b10 ∷ b11 ∷ b12 ∷ b13 ∷ b14 ∷ t)) 57 (codes ":99") (λ b15 r15 f15 m15.
    by_cell (λ (t : List ℕ). Is_seconds_only (b0 ∷ b1 ∷ b2 ∷ b3 ∷ b4 ∷ b5 ∷ b6 ∷ b7 ∷ b8 ∷ b9 ∷ b10 ∷ b11 ∷ b12 ∷ b13 ∷ b14 ∷ b15 ∷ t)) 58 (codes "99") (λ b16 r16 f16 m16.
    by_cell (λ (t : List ℕ). Is_seconds_only (b0 ∷ b1 ∷ b2 ∷ b3 ∷ b4 ∷ b5 ∷ b6 ∷ b7 ∷ b8 ∷ b9 ∷ b10 ∷ b11 ∷ b12 ∷ b13 ∷ b14 ∷ b15 ∷ b16 ∷ t)) 57 (codes "9") (λ b17 r17 f17 m17.
    by_cell (λ (t : List ℕ). Is_seconds_only (b0 ∷ b1 ∷ b2 ∷ b3 ∷ b4 ∷ b5 ∷ b6 ∷ b7 ∷ b8 ∷ b9 ∷ b10 ∷ b11 ∷ b12 ∷ b13 ∷ b14 ∷ b15 ∷ b16 ∷ b17 ∷ t)) 57 (codes "") (λ b18 r18 f18 m18.
    by_end (λ (t : List ℕ). Is_seconds_only (b0 ∷ b1 ∷ b2 ∷ b3 ∷ b4 ∷ b5 ∷ b6 ∷ b7 ∷ b8 ∷ b9 ∷ b10 ∷ b11 ∷ b12 ∷ b13 ∷ b14 ∷ b15 ∷ b16 ∷ b17 ∷ b18 ∷ t)) (seconds_only_cells b0 b1 b2 b3 b4 b5 b6 b7 b8 b9 b10 b11 b12 b13 b14 b15 b16 b17 b18 f0 f1 f2 f3 f4 f5 f6 f7 f8 f9 f10 f11 f12 f13 f14 f15 f16 f17 f18) r18 m18
    ) r17 m17) r16 m16) r15 m15) r14 m14) r13 m13) r12 m12) r11 m11) r10 m10) r9 m9) r8 m8) r7 m7) r6 m6) r5 m5) r4 m4) r3 m3) r2 m2) r1 m1) r0 m0) text h

abbrev Is_millis_only : List ℕ → Type 0
Is_millis_only text = text ≡ millis_text (civil_in text)

millis_only_cells : (b0 b1 b2 b3 b4 b5 b6 b7 b8 b9 b10 b11 b12 b13 b14 b15 b16 b17 b18 b19 b20 b21 b22 : ℕ) → fits_place 57 b0 ≡ true → fits_place 57 b1 ≡ true → fits_place 57 b2 ≡ true → fits_place 57 b3 ≡ true → fits_place 45 b4 ≡ true → fits_place 57 b5 ≡ true → fits_place 57 b6 ≡ true → fits_place 45 b7 ≡ true → fits_place 57 b8 ≡ true → fits_place 57 b9 ≡ true → fits_place 84 b10 ≡ true → fits_place 57 b11 ≡ true → fits_place 57 b12 ≡ true → fits_place 58 b13 ≡ true → fits_place 57 b14 ≡ true → fits_place 57 b15 ≡ true → fits_place 58 b16 ≡ true → fits_place 57 b17 ≡ true → fits_place 57 b18 ≡ true → fits_place 46 b19 ≡ true → fits_place 57 b20 ≡ true → fits_place 57 b21 ≡ true → fits_place 57 b22 ≡ true → Is_millis_only (b0 ∷ b1 ∷ b2 ∷ b3 ∷ b4 ∷ b5 ∷ b6 ∷ b7 ∷ b8 ∷ b9 ∷ b10 ∷ b11 ∷ b12 ∷ b13 ∷ b14 ∷ b15 ∷ b16 ∷ b17 ∷ b18 ∷ b19 ∷ b20 ∷ b21 ∷ b22 ∷ [])
millis_only_cells b0 b1 b2 b3 b4 b5 b6 b7 b8 b9 b10 b11 b12 b13 b14 b15 b16 b17 b18 b19 b20 b21 b22 f0 f1 f2 f3 f4 f5 f6 f7 f8 f9 f10 f11 f12 f13 f14 f15 f16 f17 f18 f19 f20 f21 f22 =
    let year = four_text b0 b1 b2 b3 (is_digit b0 f0) (is_digit b1 f1) (is_digit b2 f2) (is_digit b3 f3) in
    let month = two_text b5 b6 (is_digit b5 f5) (is_digit b6 f6) in
    let day = two_text b8 b9 (is_digit b8 f8) (is_digit b9 f9) in
    let hour = two_text b11 b12 (is_digit b11 f11) (is_digit b12 f12) in
    let minute = two_text b14 b15 (is_digit b14 f14) (is_digit b15 f15) in
    let second = two_text b17 b18 (is_digit b17 f17) (is_digit b18 f18) in
    let s4 : b4 ≡ 45 = eqb-true b4 45 f4 in
    let s7 : b7 ≡ 45 = eqb-true b7 45 f7 in
    let s10 : b10 ≡ 84 = eqb-true b10 84 f10 in
    let s13 : b13 ≡ 58 = eqb-true b13 58 f13 in
    let s16 : b16 ≡ 58 = eqb-true b16 58 f16 in
    let s19 : b19 ≡ 46 = eqb-true b19 46 f19 in
    let milli = three_text b20 b21 b22 (is_digit b20 f20) (is_digit b21 f21) (is_digit b22 f22) in
    λ i. (sym year i ++ s4 i ∷ sym month i ++ s7 i ∷ sym day i ++ s10 i ∷ sym hour i ++ s13 i ∷ sym minute i ++ s16 i ∷ sym second i) ++ s19 i ∷ sym milli i

millis_only : (text : List ℕ) → pointwise fits_place (codes "9999-99-99T99:99:99.999") text ≡ true → Is_millis_only text
millis_only text h =
    by_cell (λ (t : List ℕ). Is_millis_only (t)) 57 (codes "999-99-99T99:99:99.999") (λ b0 r0 f0 m0.
    by_cell (λ (t : List ℕ). Is_millis_only (b0 ∷ t)) 57 (codes "99-99-99T99:99:99.999") (λ b1 r1 f1 m1.
    by_cell (λ (t : List ℕ). Is_millis_only (b0 ∷ b1 ∷ t)) 57 (codes "9-99-99T99:99:99.999") (λ b2 r2 f2 m2.
    by_cell (λ (t : List ℕ). Is_millis_only (b0 ∷ b1 ∷ b2 ∷ t)) 57 (codes "-99-99T99:99:99.999") (λ b3 r3 f3 m3.
    by_cell (λ (t : List ℕ). Is_millis_only (b0 ∷ b1 ∷ b2 ∷ b3 ∷ t)) 45 (codes "99-99T99:99:99.999") (λ b4 r4 f4 m4.
    by_cell (λ (t : List ℕ). Is_millis_only (b0 ∷ b1 ∷ b2 ∷ b3 ∷ b4 ∷ t)) 57 (codes "9-99T99:99:99.999") (λ b5 r5 f5 m5.
    by_cell (λ (t : List ℕ). Is_millis_only (b0 ∷ b1 ∷ b2 ∷ b3 ∷ b4 ∷ b5 ∷ t)) 57 (codes "-99T99:99:99.999") (λ b6 r6 f6 m6.
    by_cell (λ (t : List ℕ). Is_millis_only (b0 ∷ b1 ∷ b2 ∷ b3 ∷ b4 ∷ b5 ∷ b6 ∷ t)) 45 (codes "99T99:99:99.999") (λ b7 r7 f7 m7.
    by_cell (λ (t : List ℕ). Is_millis_only (b0 ∷ b1 ∷ b2 ∷ b3 ∷ b4 ∷ b5 ∷ b6 ∷ b7 ∷ t)) 57 (codes "9T99:99:99.999") (λ b8 r8 f8 m8.
    by_cell (λ (t : List ℕ). Is_millis_only (b0 ∷ b1 ∷ b2 ∷ b3 ∷ b4 ∷ b5 ∷ b6 ∷ b7 ∷ b8 ∷ t)) 57 (codes "T99:99:99.999") (λ b9 r9 f9 m9.
    by_cell (λ (t : List ℕ). Is_millis_only (b0 ∷ b1 ∷ b2 ∷ b3 ∷ b4 ∷ b5 ∷ b6 ∷ b7 ∷ b8 ∷ b9 ∷ t)) 84 (codes "99:99:99.999") (λ b10 r10 f10 m10.
    by_cell (λ (t : List ℕ). Is_millis_only (b0 ∷ b1 ∷ b2 ∷ b3 ∷ b4 ∷ b5 ∷ b6 ∷ b7 ∷ b8 ∷ b9 ∷ b10 ∷ t)) 57 (codes "9:99:99.999") (λ b11 r11 f11 m11.
    by_cell (λ (t : List ℕ). Is_millis_only (b0 ∷ b1 ∷ b2 ∷ b3 ∷ b4 ∷ b5 ∷ b6 ∷ b7 ∷ b8 ∷ b9 ∷ b10 ∷ b11 ∷ t)) 57 (codes ":99:99.999") (λ b12 r12 f12 m12.
    by_cell (λ (t : List ℕ). Is_millis_only (b0 ∷ b1 ∷ b2 ∷ b3 ∷ b4 ∷ b5 ∷ b6 ∷ b7 ∷ b8 ∷ b9 ∷ b10 ∷ b11 ∷ b12 ∷ t)) 58 (codes "99:99.999") (λ b13 r13 f13 m13.
    by_cell (λ (t : List ℕ). Is_millis_only (b0 ∷ b1 ∷ b2 ∷ b3 ∷ b4 ∷ b5 ∷ b6 ∷ b7 ∷ b8 ∷ b9 ∷ b10 ∷ b11 ∷ b12 ∷ b13 ∷ t)) 57 (codes "9:99.999") (λ b14 r14 f14 m14.
    by_cell (λ (t : List ℕ). Is_millis_only (b0 ∷ b1 ∷ b2 ∷ b3 ∷ b4 ∷ b5 ∷ b6 ∷ b7 ∷ b8 ∷ b9 ∷ b10 ∷ b11 ∷ b12 ∷ b13 ∷ b14 ∷ t)) 57 (codes ":99.999") (λ b15 r15 f15 m15.
    by_cell (λ (t : List ℕ). Is_millis_only (b0 ∷ b1 ∷ b2 ∷ b3 ∷ b4 ∷ b5 ∷ b6 ∷ b7 ∷ b8 ∷ b9 ∷ b10 ∷ b11 ∷ b12 ∷ b13 ∷ b14 ∷ b15 ∷ t)) 58 (codes "99.999") (λ b16 r16 f16 m16.
    by_cell (λ (t : List ℕ). Is_millis_only (b0 ∷ b1 ∷ b2 ∷ b3 ∷ b4 ∷ b5 ∷ b6 ∷ b7 ∷ b8 ∷ b9 ∷ b10 ∷ b11 ∷ b12 ∷ b13 ∷ b14 ∷ b15 ∷ b16 ∷ t)) 57 (codes "9.999") (λ b17 r17 f17 m17.
    by_cell (λ (t : List ℕ). Is_millis_only (b0 ∷ b1 ∷ b2 ∷ b3 ∷ b4 ∷ b5 ∷ b6 ∷ b7 ∷ b8 ∷ b9 ∷ b10 ∷ b11 ∷ b12 ∷ b13 ∷ b14 ∷ b15 ∷ b16 ∷ b17 ∷ t)) 57 (codes ".999") (λ b18 r18 f18 m18.
    by_cell (λ (t : List ℕ). Is_millis_only (b0 ∷ b1 ∷ b2 ∷ b3 ∷ b4 ∷ b5 ∷ b6 ∷ b7 ∷ b8 ∷ b9 ∷ b10 ∷ b11 ∷ b12 ∷ b13 ∷ b14 ∷ b15 ∷ b16 ∷ b17 ∷ b18 ∷ t)) 46 (codes "999") (λ b19 r19 f19 m19.
    by_cell (λ (t : List ℕ). Is_millis_only (b0 ∷ b1 ∷ b2 ∷ b3 ∷ b4 ∷ b5 ∷ b6 ∷ b7 ∷ b8 ∷ b9 ∷ b10 ∷ b11 ∷ b12 ∷ b13 ∷ b14 ∷ b15 ∷ b16 ∷ b17 ∷ b18 ∷ b19 ∷ t)) 57 (codes "99") (λ b20 r20 f20 m20.
    by_cell (λ (t : List ℕ). Is_millis_only (b0 ∷ b1 ∷ b2 ∷ b3 ∷ b4 ∷ b5 ∷ b6 ∷ b7 ∷ b8 ∷ b9 ∷ b10 ∷ b11 ∷ b12 ∷ b13 ∷ b14 ∷ b15 ∷ b16 ∷ b17 ∷ b18 ∷ b19 ∷ b20 ∷ t)) 57 (codes "9") (λ b21 r21 f21 m21.
    by_cell (λ (t : List ℕ). Is_millis_only (b0 ∷ b1 ∷ b2 ∷ b3 ∷ b4 ∷ b5 ∷ b6 ∷ b7 ∷ b8 ∷ b9 ∷ b10 ∷ b11 ∷ b12 ∷ b13 ∷ b14 ∷ b15 ∷ b16 ∷ b17 ∷ b18 ∷ b19 ∷ b20 ∷ b21 ∷ t)) 57 (codes "") (λ b22 r22 f22 m22.
    by_end (λ (t : List ℕ). Is_millis_only (b0 ∷ b1 ∷ b2 ∷ b3 ∷ b4 ∷ b5 ∷ b6 ∷ b7 ∷ b8 ∷ b9 ∷ b10 ∷ b11 ∷ b12 ∷ b13 ∷ b14 ∷ b15 ∷ b16 ∷ b17 ∷ b18 ∷ b19 ∷ b20 ∷ b21 ∷ b22 ∷ t)) (millis_only_cells b0 b1 b2 b3 b4 b5 b6 b7 b8 b9 b10 b11 b12 b13 b14 b15 b16 b17 b18 b19 b20 b21 b22 f0 f1 f2 f3 f4 f5 f6 f7 f8 f9 f10 f11 f12 f13 f14 f15 f16 f17 f18 f19 f20 f21 f22) r22 m22
    ) r21 m21) r20 m20) r19 m19) r18 m18) r17 m17) r16 m16) r15 m15) r14 m14) r13 m13) r12 m12) r11 m11) r10 m10) r9 m9) r8 m8) r7 m7) r6 m6) r5 m5) r4 m4) r3 m3) r2 m2) r1 m1) r0 m0) text h

abbrev HasNoMillis : List ℕ → Type 0
HasNoMillis text = (civil_in text).milli ≡ 0

-- a text without milliseconds says none
pub no_millis : (text : List ℕ) → pointwise fits_place (codes "9999-99-99T99:99:99") text ≡ true → HasNoMillis text
no_millis text h =
    by_cell (λ (t : List ℕ). HasNoMillis (t)) 57 (codes "999-99-99T99:99:99") (λ b0 r0 f0 m0.
    by_cell (λ (t : List ℕ). HasNoMillis (b0 ∷ t)) 57 (codes "99-99-99T99:99:99") (λ b1 r1 f1 m1.
    by_cell (λ (t : List ℕ). HasNoMillis (b0 ∷ b1 ∷ t)) 57 (codes "9-99-99T99:99:99") (λ b2 r2 f2 m2.
    by_cell (λ (t : List ℕ). HasNoMillis (b0 ∷ b1 ∷ b2 ∷ t)) 57 (codes "-99-99T99:99:99") (λ b3 r3 f3 m3.
    by_cell (λ (t : List ℕ). HasNoMillis (b0 ∷ b1 ∷ b2 ∷ b3 ∷ t)) 45 (codes "99-99T99:99:99") (λ b4 r4 f4 m4.
    by_cell (λ (t : List ℕ). HasNoMillis (b0 ∷ b1 ∷ b2 ∷ b3 ∷ b4 ∷ t)) 57 (codes "9-99T99:99:99") (λ b5 r5 f5 m5.
    by_cell (λ (t : List ℕ). HasNoMillis (b0 ∷ b1 ∷ b2 ∷ b3 ∷ b4 ∷ b5 ∷ t)) 57 (codes "-99T99:99:99") (λ b6 r6 f6 m6.
    by_cell (λ (t : List ℕ). HasNoMillis (b0 ∷ b1 ∷ b2 ∷ b3 ∷ b4 ∷ b5 ∷ b6 ∷ t)) 45 (codes "99T99:99:99") (λ b7 r7 f7 m7.
    by_cell (λ (t : List ℕ). HasNoMillis (b0 ∷ b1 ∷ b2 ∷ b3 ∷ b4 ∷ b5 ∷ b6 ∷ b7 ∷ t)) 57 (codes "9T99:99:99") (λ b8 r8 f8 m8.
    by_cell (λ (t : List ℕ). HasNoMillis (b0 ∷ b1 ∷ b2 ∷ b3 ∷ b4 ∷ b5 ∷ b6 ∷ b7 ∷ b8 ∷ t)) 57 (codes "T99:99:99") (λ b9 r9 f9 m9.
    by_cell (λ (t : List ℕ). HasNoMillis (b0 ∷ b1 ∷ b2 ∷ b3 ∷ b4 ∷ b5 ∷ b6 ∷ b7 ∷ b8 ∷ b9 ∷ t)) 84 (codes "99:99:99") (λ b10 r10 f10 m10.
    by_cell (λ (t : List ℕ). HasNoMillis (b0 ∷ b1 ∷ b2 ∷ b3 ∷ b4 ∷ b5 ∷ b6 ∷ b7 ∷ b8 ∷ b9 ∷ b10 ∷ t)) 57 (codes "9:99:99") (λ b11 r11 f11 m11.
    by_cell (λ (t : List ℕ). HasNoMillis (b0 ∷ b1 ∷ b2 ∷ b3 ∷ b4 ∷ b5 ∷ b6 ∷ b7 ∷ b8 ∷ b9 ∷ b10 ∷ b11 ∷ t)) 57 (codes ":99:99") (λ b12 r12 f12 m12.
    by_cell (λ (t : List ℕ). HasNoMillis (b0 ∷ b1 ∷ b2 ∷ b3 ∷ b4 ∷ b5 ∷ b6 ∷ b7 ∷ b8 ∷ b9 ∷ b10 ∷ b11 ∷ b12 ∷ t)) 58 (codes "99:99") (λ b13 r13 f13 m13.
    by_cell (λ (t : List ℕ). HasNoMillis (b0 ∷ b1 ∷ b2 ∷ b3 ∷ b4 ∷ b5 ∷ b6 ∷ b7 ∷ b8 ∷ b9 ∷ b10 ∷ b11 ∷ b12 ∷ b13 ∷ t)) 57 (codes "9:99") (λ b14 r14 f14 m14.
    by_cell (λ (t : List ℕ). HasNoMillis (b0 ∷ b1 ∷ b2 ∷ b3 ∷ b4 ∷ b5 ∷ b6 ∷ b7 ∷ b8 ∷ b9 ∷ b10 ∷ b11 ∷ b12 ∷ b13 ∷ b14 ∷ t)) 57 (codes ":99") (λ b15 r15 f15 m15.
    by_cell (λ (t : List ℕ). HasNoMillis (b0 ∷ b1 ∷ b2 ∷ b3 ∷ b4 ∷ b5 ∷ b6 ∷ b7 ∷ b8 ∷ b9 ∷ b10 ∷ b11 ∷ b12 ∷ b13 ∷ b14 ∷ b15 ∷ t)) 58 (codes "99") (λ b16 r16 f16 m16.
    by_cell (λ (t : List ℕ). HasNoMillis (b0 ∷ b1 ∷ b2 ∷ b3 ∷ b4 ∷ b5 ∷ b6 ∷ b7 ∷ b8 ∷ b9 ∷ b10 ∷ b11 ∷ b12 ∷ b13 ∷ b14 ∷ b15 ∷ b16 ∷ t)) 57 (codes "9") (λ b17 r17 f17 m17.
    by_cell (λ (t : List ℕ). HasNoMillis (b0 ∷ b1 ∷ b2 ∷ b3 ∷ b4 ∷ b5 ∷ b6 ∷ b7 ∷ b8 ∷ b9 ∷ b10 ∷ b11 ∷ b12 ∷ b13 ∷ b14 ∷ b15 ∷ b16 ∷ b17 ∷ t)) 57 (codes "") (λ b18 r18 f18 m18.
    by_end (λ (t : List ℕ). HasNoMillis (b0 ∷ b1 ∷ b2 ∷ b3 ∷ b4 ∷ b5 ∷ b6 ∷ b7 ∷ b8 ∷ b9 ∷ b10 ∷ b11 ∷ b12 ∷ b13 ∷ b14 ∷ b15 ∷ b16 ∷ b17 ∷ b18 ∷ t)) (refl) r18 m18
    ) r17 m17) r16 m16) r15 m15) r14 m14) r13 m13) r12 m12) r11 m11) r10 m10) r9 m9) r8 m8) r7 m7) r6 m6) r5 m5) r4 m4) r3 m3) r2 m2) r1 m1) r0 m0) text h

abbrev some_ms : ℕ → Option ℕ
some_ms z = Some z

given_is : (t : Bool) (x ms : ℕ) → cond t (some_ms x) None ≡ some_ms ms → (t ≡ true) × (x ≡ ms)
given_is true x ms e = (refl, cc)
given_is false x ms e = absurd cc

pub written-from_read : (text : List ℕ) (ms : ℕ) → date_in text ≡ Some ms → IsDateText text ms
written-from_read text ms e =
    let g = given_is (has_date_shape text && is_civil (civil_in text)) (civil_ms (civil_in text)) ms e in
    let shape = first_holds (has_date_shape text) (is_civil (civil_in text)) g.0 in
    let civil = second_holds (has_date_shape text) (is_civil (civil_in text)) g.0 in
    (civil_in text, civil, g.1, by (or_cases (pointwise fits_place (codes "9999-99-99T99:99:99") text) (pointwise fits_place (codes "9999-99-99T99:99:99.999") text) shape))
  where
    by : ((pointwise fits_place (codes "9999-99-99T99:99:99") text ≡ true) ⊎ (pointwise fits_place (codes "9999-99-99T99:99:99.999") text ≡ true)) → (text ≡ millis_text (civil_in text)) ⊎ (((civil_in text).milli ≡ 0) × (text ≡ seconds_text (civil_in text)))
    by (inl h) = inr (no_millis text h, seconds_only text h)
    by (inr h) = inl (millis_only text h)
