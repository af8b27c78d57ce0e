-- The line of a damaged content, as it is written into an array.
use Rattle.std.proofs.Common.{◌≡◌, ℕ, List, [], ◌∷◌, ◌++◌, length, take, drop, refl, sym, ap, subst, ◌∙◌, arith, append_assoc, slice_set}
use Rattle.std.specs.Prelude.{codes, replicate}
use Rattle.std.proofs.lemmas.List.{take_at, drop_at, drop-drop, length-append}
use borrow.Rule.Slice.PartMut.{put_mid}

set_last : (xs : List ℕ) (a b : ℕ) → slice_set (xs ++ a ∷ []) (length xs) b ≡ xs ++ b ∷ []
set_last [] a b = refl
set_last (x ∷ xs) a b = ap (λ (ys : List ℕ). x ∷ ys) (set_last xs a b)

set_end : (xs : List ℕ) (n a b : ℕ) → length xs ≡ n → slice_set (xs ++ a ∷ []) n b ≡ xs ++ b ∷ []
set_end xs n a b long = subst (λ (m : ℕ). slice_set (xs ++ a ∷ []) m b ≡ xs ++ b ∷ []) long (set_last xs a b)

abbrev w : List ℕ
w = codes "damaged "

abbrev sp : List ℕ
sp = 32 ∷ []

module _ (t u : List ℕ) (t_long : length t ≡ 40) (u_long : length u ≡ 40) where
  front_long : length (w ++ (t ++ sp)) ≡ 49
  front_long = omega (arith, length-append w (t ++ sp), length-append t sp, t_long)

  abbrev first : List ℕ
  first = w ++ (t ++ replicate 42 32)

  by_front : first ≡ (w ++ (t ++ sp)) ++ replicate 41 32
  by_front = ap (λ (ys : List ℕ). w ++ ys) (sym (append_assoc t sp (replicate 41 32)))

  by_back : first ≡ (w ++ (t ++ replicate 41 32)) ++ sp
  by_back = ap (λ (ys : List ℕ). w ++ ys) (sym (append_assoc t (replicate 41 32) sp))

  back_long : length (w ++ (t ++ replicate 41 32)) ≡ 89
  back_long = omega (arith, length-append w (t ++ replicate 41 32), length-append t (replicate 41 32), t_long)

  second : put_mid 49 40 first u ≡ ((w ++ (t ++ sp)) ++ u) ++ sp
  second =
      (λ i. take 49 (by_front i) ++ (u ++ drop-drop 40 49 first i))
      ∙ (λ i. take_at (w ++ (t ++ sp)) (replicate 41 32) 49 front_long i ++ (u ++ (ap (drop 89) by_back ∙ drop_at (w ++ (t ++ replicate 41 32)) sp 89 back_long) i))
      ∙ sym (append_assoc (w ++ (t ++ sp)) u sp)

  third : slice_set (put_mid 49 40 first u) 89 10 ≡ w ++ t ++ 32 ∷ u ++ 10 ∷ []
  third =
      ap (λ (ys : List ℕ). slice_set ys 89 10) second
      ∙ set_end ((w ++ (t ++ sp)) ++ u) 89 32 10 (omega (arith, length-append (w ++ (t ++ sp)) u, front_long, u_long))
      ∙ ap (λ (ys : List ℕ). (w ++ ys) ++ 10 ∷ []) (append_assoc t sp u)

pub line_is : (front t u : List ℕ) → length t ≡ 40 → length u ≡ 40 → front ≡ w ++ replicate 82 32 → slice_set (put_mid 49 40 (put_mid 8 40 front t) u) 89 10 ≡ w ++ t ++ 32 ∷ u ++ 10 ∷ []
line_is front t u t_long u_long is = ap (λ (ys : List ℕ). slice_set (put_mid 49 40 (put_mid 8 40 ys t) u) 89 10) is ∙ third t u t_long u_long
