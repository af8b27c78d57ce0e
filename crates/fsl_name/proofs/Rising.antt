-- Rows by rising name: those that pass a test, and those before a place.
use Rattle.std.proofs.Common.{◌≡◌, ℕ, Bool, true, false, cond, List, [], ◌∷◌, ◌++◌, Some, map, filter, refl, sym, ap, ◌∙◌}
use Rattle.std.specs.Prelude.{◌||◌}
use Rattle.std.specs.declared.cmp.Ordering.TheVariants.{Less}
use Rattle.std.specs.List.{AllByRecursion}
use Rattle.std.specs.List.Sorted.{IsStrictlySortedBy}
use Rattle.std.specs.Ordering.{is_eq}
use Rattle.std.specs.Str.{bytes_eq}
use Rattle.std.specs.Cmp.Lexicographic.{texts_ties, nat_list_eq_equiv, bytes_decides}
use Rattle.fsl_order.specs.Names.{bytes_cmp, has}
use Rattle.fsl_order.specs.Rows.{ascending, named}
use Rattle.fsl_order.proofs.SortedLemmas.{ascending-from}

-- a name that stands later is another
other : (a b : List ℕ) → bytes_cmp a b ≡ Less → bytes_eq b a ≡ false
other a b less = nat_list_eq_equiv.symm b a ∙ texts_ties a b ∙ ap is_eq less

-- names that rise are ascending
pub ascending-rising : (names : List (List ℕ)) → IsStrictlySortedBy bytes_cmp names → ascending names ≡ names
ascending-rising names h = sym (ascending-from names names h (λ q. refl))

module _ {X : Type 0} (name : X → List ℕ) where
  abbrev Rise : List X → Type 0
  Rise xs = IsStrictlySortedBy bytes_cmp (map name xs)

  module _ (p : X → Bool) where
    All-filtered : (P : List ℕ → Type 0) (xs : List X) → AllByRecursion P (map name xs) → AllByRecursion P (map name (filter p xs))
    All-filtered P [] all = tt
    All-filtered P (x ∷ xs) all =
        elim (p x) as (λ b. AllByRecursion P (map name (cond b (x ∷ filter p xs) (filter p xs)))) [
          | true ↦ (all.0, All-filtered P xs all.1)
          | false ↦ All-filtered P xs all.1
        ]

    -- those that pass a test rise too
    pub rising-filter : (xs : List X) → Rise xs → Rise (filter p xs)
    unfolding IsStrictlySortedBy
    rising-filter [] h = h
    rising-filter (x ∷ xs) h =
        elim (p x) as (λ b. IsStrictlySortedBy bytes_cmp (map name (cond b (x ∷ filter p xs) (filter p xs)))) [
          | true ↦ (All-filtered (λ y. bytes_cmp (name x) y ≡ Less) xs h.0, rising-filter xs h.1)
          | false ↦ rising-filter xs h.1
        ]

    -- a name of none is the name of none of those that pass
    has-fewer : (xs : List X) (q : List ℕ) → has (map name xs) q ≡ false → has (map name (filter p xs)) q ≡ false
    has-fewer [] q none = none
    has-fewer (x ∷ xs) q none =
        elim (p x) as (λ b. has (map name (cond b (x ∷ filter p xs) (filter p xs))) q ≡ false) [
          | true ↦ ap (λ b. b || has (map name (filter p xs)) q) (first (bytes_eq q (name x)) (has (map name xs) q) none) ∙ has-fewer xs q (second (bytes_eq q (name x)) (has (map name xs) q) none)
          | false ↦ has-fewer xs q (second (bytes_eq q (name x)) (has (map name xs) q) none)
        ]
      where
        first : (a b : Bool) → (a || b) ≡ false → a ≡ false
        first true b h = h
        first false b h = refl

        second : (a b : Bool) → (a || b) ≡ false → b ≡ false
        second true b h = absurd cc
        second false b h = h

  less_in : (P : List ℕ → Type 0) (xs : List X) (x : X) (ys : List X) → AllByRecursion P (map name (xs ++ x ∷ ys)) → P (name x)
  less_in P [] x ys all = all.0
  less_in P (_ ∷ xs) x ys all = less_in P xs x ys all.1

  -- no row before another has its name
  earlier : (xs : List X) (x : X) (ys : List X) → Rise (xs ++ x ∷ ys) → has (map name xs) (name x) ≡ false
  unfolding IsStrictlySortedBy
  earlier [] x ys h = refl
  earlier (y ∷ xs) x ys h = λ j. other (name y) (name x) (less_in (λ z. bytes_cmp (name y) z ≡ Less) xs x ys h.0) j || earlier xs x ys h.1 j

  -- .. nor has one of those that pass a test
  pub earlier-filter : (p : X → Bool) (xs : List X) (x : X) (ys : List X) → Rise (xs ++ x ∷ ys) → has (map name (filter p xs)) (name x) ≡ false
  earlier-filter p xs x ys h = has-fewer p xs (name x) (earlier xs x ys h)

  -- a look-up of the name of a row finds this row
  pub named-own : (xs : List X) (x : X) (ys : List X) → Rise (xs ++ x ∷ ys) → named name (xs ++ x ∷ ys) (name x) ≡ Some x
  unfolding IsStrictlySortedBy
  named-own [] x ys h = ap (λ b. cond b (Some x) (named name ys (name x))) ((bytes_decides (name x) (name x)).1 refl)
  named-own (y ∷ xs) x ys h =
      ap (λ b. cond b (Some y) (named name (xs ++ x ∷ ys) (name x)))
      (nat_list_eq_equiv.symm (name y) (name x) ∙ other (name y) (name x) (less_in (λ z. bytes_cmp (name y) z ≡ Less) xs x ys h.0))
      ∙ named-own xs x ys h.1
