-- Facts that hold of each element of a list.
use Rattle.std.specs.Prelude.{◌≡◌, ◌⊎◌, ℕ, zero, suc, ◌*◌, ◌≤◌, Bool, true, false, cond, List, [], ◌∷◌, ◌++◌, length, map, take, drop, filter, filter_map, find, flat_map, Option, Some, None}
use Rattle.std.proofs.Common.{refl, sym, subst, inl, inr, arith, length-append}
use Rattle.std.specs.List.{AllByRecursion, cons_option}
use Rattle.std.specs.Str.{bytes_eq}
use Rattle.std.proofs.lemmas.Bool.{or_cases, or_left, or_right}
use Rattle.std.proofs.lemmas.Slice.Eq.{bytes_eq-Decides}
use Rattle.fsl_order.specs.Names.{has}

module _ {X : Type 0} (P : X → Type 0) where
  pub all_take : (n : ℕ) (xs : List X) → AllByRecursion P xs → AllByRecursion P (take n xs)
  all_take zero xs h = tt
  all_take (suc n) [] h = tt
  all_take (suc n) (x ∷ xs) h = (h.0, all_take n xs h.1)

  pub all_drop : (n : ℕ) (xs : List X) → AllByRecursion P xs → AllByRecursion P (drop n xs)
  all_drop zero xs h = h
  all_drop (suc n) [] h = tt
  all_drop (suc n) (x ∷ xs) h = all_drop n xs h.1

  pub all_append : (xs ys : List X) → AllByRecursion P xs → AllByRecursion P ys → AllByRecursion P (xs ++ ys)
  all_append [] ys h k = k
  all_append (x ∷ xs) ys h k = (h.0, all_append xs ys h.1 k)

  pub all_filter : (p : X → Bool) (xs : List X) → AllByRecursion P xs → AllByRecursion P (filter p xs)
  all_filter p [] h = tt
  all_filter p (x ∷ xs) h = elim (p x) as (λ b. AllByRecursion P (cond b (x ∷ filter p xs) (filter p xs))) [ true ↦ (h.0, all_filter p xs h.1) | false ↦ all_filter p xs h.1 ]

  pub all_found : (p : X → Bool) (xs : List X) (y : X) → AllByRecursion P xs → find p xs ≡ Some y → P y
  all_found p [] y h e = cc
  all_found p (x ∷ xs) y h e = by (p x) (all_found p xs y h.1) e
    where
      by : (b : Bool) → (find p xs ≡ Some y → P y) → cond b (Some x) (find p xs) ≡ Some y → P y
      by true again e = let s : x ≡ y = cc in subst P s h.0
      by false again e = again e

  pub all_given : {Y : Type 0} (g : Y → Option X) (ys : List Y) → ((y : Y) (x : X) → g y ≡ Some x → P x) → AllByRecursion P (filter_map g ys)
  all_given g [] f = tt
  all_given g (y ∷ ys) f = by (g y) refl (all_given g ys f)
    where
      by : (o : Option X) → g y ≡ o → AllByRecursion P (filter_map g ys) → AllByRecursion P (cons_option o (filter_map g ys))
      by None e rest = rest
      by (Some x) e rest = (f y x e, rest)

  pub all_map : {Y : Type 0} (f : Y → X) (ys : List Y) → AllByRecursion (λ y. P (f y)) ys → AllByRecursion P (map f ys)
  all_map f [] h = tt
  all_map f (y ∷ ys) h = (h.0, all_map f ys h.1)

  pub all_unmapped : {Y : Type 0} (f : Y → X) (ys : List Y) → AllByRecursion P (map f ys) → AllByRecursion (λ y. P (f y)) ys
  all_unmapped f [] h = tt
  all_unmapped f (y ∷ ys) h = (h.0, all_unmapped f ys h.1)

  pub all_weaker : (Q : X → Type 0) → ((x : X) → Q x → P x) → (xs : List X) → AllByRecursion Q xs → AllByRecursion P xs
  all_weaker Q f [] h = tt
  all_weaker Q f (x ∷ xs) h = (f x h.0, all_weaker Q f xs h.1)

-- what holds of each name of a list holds of a name that is in it
pub at_name : (P : List ℕ → Type 0) (names : List (List ℕ)) (q : List ℕ) → AllByRecursion P names → has names q ≡ true → P q
at_name P [] q h e = cc
at_name P (name ∷ names) q h e = by (at_name P names q h.1) (or_cases (bytes_eq q name) (has names q) e)
  where
    by : (has names q ≡ true → P q) → (bytes_eq q name ≡ true) ⊎ (has names q ≡ true) → P q
    by again (inl f) = subst P (sym ((bytes_eq-Decides q name).0 f)) h.0
    by again (inr f) = again f

-- and the other way round
pub each_name : (P : List ℕ → Type 0) (names : List (List ℕ)) → ((q : List ℕ) → has names q ≡ true → P q) → AllByRecursion P names
each_name P [] f = tt
each_name P (name ∷ names) f =
    (f name (or_left (bytes_eq name name) (has names name) ((bytes_eq-Decides name name).1 refl)), each_name P names (λ q e. f q (or_right (bytes_eq q name) (has names q) e)))

-- parts of a length make a whole of so many times that length
pub bounded : {X : Type 0} (f : X → List ℕ) (k : ℕ) (xs : List X) → AllByRecursion (λ x. length (f x) ≤ k) xs → length (flat_map f xs) ≤ k * length xs
bounded f k [] h = omega arith
bounded f k (x ∷ xs) h = omega (arith, h.0, bounded f k xs h.1, length-append (f x) (flat_map f xs))
