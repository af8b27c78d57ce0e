-- Facts on texts that are compared byte by byte.
use Rattle.std.proofs.Common.{◌≡◌, ℕ, Bool, true, false, cond, ltb, List, [], ◌∷◌, refl, sym, ap, ◌∙◌, arith}
use Rattle.std.specs.Ordering.{nat_cmp, ordering_then, is_lt}
use Rattle.std.specs.declared.cmp.Ordering.{Ordering}
use Rattle.std.specs.declared.cmp.Ordering.TheVariants.{Less, Equal, Greater}
use Rattle.std.proofs.lemmas.Bool.{eq-eqb, ne_eqb, le-ltb}
use Rattle.fsl_order.specs.Names.{is_before, bytes_cmp}

same_byte : (x : ℕ) → nat_cmp x x ≡ Equal
same_byte x = rw (le-ltb x x (omega arith), eq-eqb x x refl) refl

pub is_before-same : (x y : ℕ) (a b : List ℕ) → x ≡ y → is_before (x ∷ a) (y ∷ b) ≡ is_before a b
is_before-same x y a b e = ap (λ (z : ℕ). is_lt (ordering_then (nat_cmp x z) (bytes_cmp a b))) (sym e) ∙ ap (λ (o : Ordering). is_lt (ordering_then o (bytes_cmp a b))) (same_byte x)

pub is_before-other : (x y : ℕ) (a b : List ℕ) → (x ≡ y → ⊥) → is_before (x ∷ a) (y ∷ b) ≡ ltb x y
is_before-other x y a b ne = rw (ne_eqb x y ne) (inside (ltb x y))
  where
    inside : (t : Bool) → is_lt (ordering_then (cond t Less (cond false Equal Greater)) (bytes_cmp a b)) ≡ t
    inside true = refl
    inside false = refl

pub is_before-nothing : (a : List ℕ) → is_before a [] ≡ false
is_before-nothing [] = refl
is_before-nothing (x ∷ a) = refl
