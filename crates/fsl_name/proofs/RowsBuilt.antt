-- A row more before those that are there already.
use Rattle.std.proofs.Common.{◌≡◌, ℕ, zero, suc, List, [], ◌∷◌, ◌++◌, map, drop, ap, sym, subst, ◌∙◌}
use Rattle.std.specs.List.{IsDistinct}
use Rattle.std.proofs.lemmas.List.{append_assoc}
use Rattle.std.proofs.lemmas.List.Sorted.{IsPermutation-cons}
use Rattle.fsl_order.specs.Rows.{by_name, AreDistinct}
use Rattle.fsl_order.proofs.RowLemmas.{by_name-permutation}
use Rattle.fsl_order.proofs.MovedLemmas.{IsPermutation-by_name}

module _ {X : Type 0} (name : X → List ℕ) where
  -- the names of a rear part differ
  pub distinct-drop : (i : ℕ) (xs : List X) → AreDistinct (map name xs) → AreDistinct (map name (drop i xs))
  unfolding IsDistinct
  distinct-drop zero xs d = d
  distinct-drop (suc i) [] d = d
  distinct-drop (suc i) (x ∷ xs) d = distinct-drop i xs d.1

  -- a row put among the rows by name is put before the rows
  pub by_name-again : (x : X) (xs : List X) → AreDistinct (map name (x ∷ xs)) → by_name name (x ∷ by_name name xs) ≡ by_name name (x ∷ xs)
  unfolding IsDistinct
  by_name-again x xs d =
      sym (by_name-permutation name (x ∷ xs) (x ∷ by_name name xs) d (IsPermutation-cons x xs (by_name name xs) (IsPermutation-by_name name xs d.1)))

  distinct_rear : (xs ys : List X) → AreDistinct (map name (xs ++ ys)) → AreDistinct (map name ys)
  unfolding IsDistinct
  distinct_rear [] ys d = d
  distinct_rear (x ∷ xs) ys d = distinct_rear xs ys d.1

  -- the items behind those that are left are in the list by name
  abbrev pub IsPutIn : List X → List X → List X → Type 0
  IsPutIn left all set = (done : List X) × (left ++ done ≡ all) × (set ≡ by_name name done)

  -- the last of those that are left is put before those that were put in
  pub put_next : (left rest done all set next : List X) (x : X) → AreDistinct (map name all) → left ++ done ≡ all → left ≡ rest ++ x ∷ [] → set ≡ by_name name done
      → next ≡ by_name name (x ∷ set) → (rest ++ x ∷ done ≡ all) × (next ≡ by_name name (x ∷ done))
  put_next left rest done all set next x d whole cut so put =
      let now : rest ++ x ∷ done ≡ all = sym (append_assoc rest (x ∷ []) done) ∙ ap (λ l. l ++ done) (sym cut) ∙ whole in (
        now,
        put ∙ ap (λ l. by_name name (x ∷ l)) so ∙ by_name-again x done (distinct_rear rest (x ∷ done) (subst (λ l. AreDistinct (map name l)) (sym now) d)),
      )
