-- Facts that are looked through one after the other, and found fit.
use Rattle.std.proofs.Common.{◌≡◌, ℕ, zero, suc, ◌+◌, ◌-◌, ◌<◌, ◌≤◌, List, [], ◌∷◌, ◌++◌, All, length, get_or, take, map, refl, sym, ap, ◌∙◌, subst, arith, ⊎_elim}
use Rattle.std.specs.List.{AllByRecursion, slice_index}
use Rattle.std.proofs.lemmas.Bool.{cases_lt}
use Rattle.std.proofs.lemmas.List.{take_more, get_or-map}
use Rattle.fsl_tags.specs.declared.Assertion.{Assertion}

module _ {X : Type 0} (P : X → Type 0) where
  with_last : (xs : List X) (x : X) → AllByRecursion P xs → P x → AllByRecursion P (xs ++ x ∷ [])
  with_last [] x all h = (h, tt)
  with_last (y ∷ ys) x all h = (all.0, with_last ys x all.1 h)

  -- one item more
  pub all_more : (xs : List X) (i : ℕ) (x : X) → i < length xs → x ≡ get_or xs i x → AllByRecursion P (take i xs) → P x → AllByRecursion P (take (i + 1) xs)
  all_more xs i x h is all p = subst (AllByRecursion P) (sym (take_more xs i x h)) (with_last (take i xs) (get_or xs i x) all (subst P is p))

  all_front : (xs : List X) (i : ℕ) → length xs ≤ i → take i xs ≡ xs
  all_front [] zero h = refl
  all_front [] (suc i) h = refl
  all_front (x ∷ xs) zero h = absurd (omega (arith, h))
  all_front (x ∷ xs) (suc i) h = ap (λ ys. x ∷ ys) (all_front xs i (omega (arith, h)))

  -- all items
  pub all_taken : (xs : List X) (i : ℕ) → length xs ≤ i → AllByRecursion P (take i xs) → AllByRecursion P xs
  all_taken xs i h all = subst (AllByRecursion P) (all_front xs i h) all

  pub All-from : (xs : List X) → AllByRecursion P xs → All P xs
  All-from [] all k d h = absurd (omega (arith, h))
  All-from (x ∷ xs) all zero d h = all.0
  All-from (x ∷ xs) all (suc k) d h = All-from xs all.1 k d (omega (arith, h))

-- one place more
pub place_more : (tags : List Assertion) (i k : ℕ) (a b : Assertion) → 1 ≤ i → i < length tags → a ≡ get_or tags (i - 1) a → b ≡ get_or tags i b → a.place < b.place
    → ((k : ℕ) → k + 1 < i → slice_index (map (λ a. a.place) tags) k < slice_index (map (λ a. a.place) tags) (k + 1))
    → k + 1 < i + 1 → slice_index (map (λ a. a.place) tags) k < slice_index (map (λ a. a.place) tags) (k + 1)
place_more tags i k a b some within a_is b_is less before h =
    ⊎_elim {C = slice_index (map (λ a. a.place) tags) k < slice_index (map (λ a. a.place) tags) (k + 1)}
    (λ (sooner : k + 1 < i). before k sooner)
    (λ (last : i ≤ k + 1).
    let at : k ≡ i - 1 = omega (arith, last, h) in
    let next : k + 1 ≡ i = omega (arith, last, h) in
    let first : get_or (map (λ a. a.place) tags) k 0 ≡ a.place = get_or-map (λ a. a.place) tags k a 0 (omega (arith, within, at, some)) ∙ ap (λ n. (get_or tags n a).place) at ∙ ap (λ (a : Assertion). a.place) (sym a_is) in
    let second : get_or (map (λ a. a.place) tags) (k + 1) 0 ≡ b.place = get_or-map (λ a. a.place) tags (k + 1) b 0 (omega (arith, within, next)) ∙ ap (λ n. (get_or tags n b).place) next ∙ ap (λ (a : Assertion). a.place) (sym b_is) in
    omega (arith, first, second, less))
    (cases_lt (k + 1) i)
