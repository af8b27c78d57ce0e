-- Bytes rise as the digits do in which they are written.
use Rattle.std.proofs.Common.{◌≡◌, ℕ, ◌+◌, ◌/◌, ◌%◌, ◌<◌, ◌≤◌, Bool, true, false, cond, eqb, List, [], ◌∷◌, refl, sym, ap, ◌∙◌, inl, inr, arith}
use Rattle.std.specs.Prelude.{◌⊎◌, nat_le, nat_lt, slice_index}
use Rattle.std.specs.declared.cmp.Ordering.{Ordering}
use Rattle.std.specs.declared.cmp.Ordering.TheVariants.{Less, Equal, Greater}
use Rattle.std.specs.Ordering.{nat_cmp, ordering_reverse, ordering_then, is_lt}
use Rattle.std.specs.Cmp.{nat_cmp_is}
use Rattle.std.specs.Cmp.Lexicographic.{slice_cmp}
use Rattle.std.proofs.lemmas.Bool.{agree_below_at, eqb-true, ltb-true}
use Rattle.std.proofs.lemmas.Cmp.{ranked}
use Rattle.hex.specs.Hex.{encode_with, lower_digits}
use Rattle.fsl_order.specs.Names.{bytes_cmp, is_before}
use Rattle.fsl_order.proofs.Orders.{bytes_cmp-IsAntisymmetric, bytes_cmp-IsTotalOrder}
use Rattle.fsl_text.specs.Bytes.{AreBytes}

-- the digit of a half of a byte
abbrev glyph : ℕ → ℕ
glyph k = slice_index lower_digits k

abbrev code : ℕ → ℕ
code k = cond (nat_le k 9) (48 + k) (87 + k)

glyph_is : (k : ℕ) → k < 16 → glyph k ≡ code k
glyph_is k h = eqb-true (glyph k) (code k) (agree_below_at (λ j. eqb (glyph j) (code j)) (λ j. true) 16 k refl h)

codes_rise : (j k : ℕ) → j < k → code j < code k
codes_rise j k h = grind arith

glyphs_rise : (j k : ℕ) → j < k → k < 16 → glyph j < glyph k
glyphs_rise j k lt h = rw (glyph_is j (omega arith), glyph_is k h) (codes_rise j k lt)

less_is : (x y : ℕ) → x < y → nat_cmp x y ≡ Less
less_is x y h = sym (nat_cmp_is x y Less h)

same_is : (x : ℕ) → nat_cmp x x ≡ Equal
same_is x = sym (nat_cmp_is x x Equal refl)

not_below : (a b : ℕ) → nat_lt a b ≡ false → b ≤ a
not_below a b h = grind arith

halves : (x y : ℕ) → x < y → (x / 16 < y / 16) ⊎ ((x / 16 ≡ y / 16) × (x % 16 < y % 16))
halves x y h = by (nat_lt (x / 16) (y / 16)) refl
  where
    by : (t : Bool) → nat_lt (x / 16) (y / 16) ≡ t → (x / 16 < y / 16) ⊎ ((x / 16 ≡ y / 16) × (x % 16 < y % 16))
    by true e = inl (ltb-true (x / 16) (y / 16) e)
    by false e = let le = not_below (x / 16) (y / 16) e in inr (omega arith, omega arith)

-- how the two digits of a byte compare with those of another, and what stands behind them
abbrev digits_cmp : ℕ → ℕ → Ordering → Ordering
digits_cmp x y o = ordering_then (nat_cmp (glyph (x / 16)) (glyph (y / 16))) (ordering_then (nat_cmp (glyph (x % 16)) (glyph (y % 16))) o)

digits_rise : (x y : ℕ) (o : Ordering) → x < y → y < 256 → is_lt (digits_cmp x y o) ≡ true
digits_rise x y o lt h = elim (halves x y lt) [
  | inl high ↦ rw (less_is (glyph (x / 16)) (glyph (y / 16)) (glyphs_rise (x / 16) (y / 16) high (omega arith))) refl
  | inr low ↦ rw (low.0, same_is (glyph (y / 16)), less_is (glyph (x % 16)) (glyph (y % 16)) (glyphs_rise (x % 16) (y % 16) low.1 (omega arith))) refl
]

-- of two lists of bytes the lesser has the lesser digits
digits_before : (a b : List ℕ) → AreBytes a → AreBytes b → is_lt (slice_cmp nat_cmp a b) ≡ true → is_lt (slice_cmp nat_cmp (encode_with lower_digits a) (encode_with lower_digits b)) ≡ true
unfolding encode_with
digits_before [] [] p q h = absurd cc
digits_before [] (y ∷ b) p q h = refl
digits_before (x ∷ a) [] p q h = absurd cc
digits_before (x ∷ a) (y ∷ b) p q h =
    by (nat_cmp x y) refl h (digits_before a b p.1 q.1)
  where
    by : (r : Ordering) → nat_cmp x y ≡ r → is_lt (ordering_then r (slice_cmp nat_cmp a b)) ≡ true
        → (is_lt (slice_cmp nat_cmp a b) ≡ true → is_lt (slice_cmp nat_cmp (encode_with lower_digits a) (encode_with lower_digits b)) ≡ true)
        → is_lt (digits_cmp x y (slice_cmp nat_cmp (encode_with lower_digits a) (encode_with lower_digits b))) ≡ true
    by Less e f more = digits_rise x y _ (ranked x y Less (sym e)) q.0
    by Equal e f more = rw (ranked x y Equal (sym e), same_is (glyph (y / 16)), same_is (glyph (y % 16))) (more f)
    by Greater e f more = absurd cc

-- no list stands before itself
pub itself : (a : List ℕ) → is_before a a ≡ false
itself a = by (bytes_cmp a a) (bytes_cmp-IsTotalOrder.antisymm a a)
  where
    by : (o : Ordering) → o ≡ ordering_reverse o → is_lt o ≡ false
    by Less e = cc
    by Equal e = refl
    by Greater e = refl

-- of two lists one alone stands before the other
behind : (a b : List ℕ) → is_before a b ≡ true → is_before b a ≡ false
behind a b h = ap is_lt (bytes_cmp-IsTotalOrder.antisymm b a) ∙ by (bytes_cmp a b) h
  where
    by : (o : Ordering) → is_lt o ≡ true → is_lt (ordering_reverse o) ≡ false
    by Less e = refl
    by Equal e = cc
    by Greater e = cc

-- a list of bytes stands before another exactly where its digits do
pub written_before : (a b : List ℕ) → AreBytes a → AreBytes b → is_before a b ≡ is_before (encode_with lower_digits a) (encode_with lower_digits b)
written_before a b p q = by (bytes_cmp a b) refl
  where
    by : (o : Ordering) → bytes_cmp a b ≡ o → is_lt o ≡ is_before (encode_with lower_digits a) (encode_with lower_digits b)
    by Less e = sym (digits_before a b p q (ap is_lt e))
    by Equal e = sym (ap (λ (c : List ℕ). is_before (encode_with lower_digits a) (encode_with lower_digits c)) (sym (bytes_cmp-IsAntisymmetric a b e)) ∙ itself (encode_with lower_digits a))
    by Greater e = sym (behind (encode_with lower_digits b) (encode_with lower_digits a) (digits_before b a q p (ap is_lt (bytes_cmp-IsTotalOrder.antisymm b a ∙ ap ordering_reverse e))))
