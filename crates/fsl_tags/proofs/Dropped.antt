-- What holds of all items holds of the first that is left.
use Rattle.std.specs.Prelude.{◌≡◌, ℕ, zero, suc, List, [], ◌∷◌}
use Rattle.std.proofs.Common.{drop, subst}
use Rattle.std.specs.List.{AllByRecursion}

module _ {X : Type 0} (P : X → Type 0) where
  pub drop_all : (i : ℕ) (xs : List X) → AllByRecursion P xs → AllByRecursion P (drop i xs)
  drop_all zero xs all = all
  drop_all (suc i) [] all = all
  drop_all (suc i) (x ∷ xs) all = drop_all i xs all.1

  pub at_place : (i : ℕ) (xs : List X) (x : X) (rest : List X) → AllByRecursion P xs → drop i xs ≡ x ∷ rest → P x
  at_place i xs x rest all cut = (subst (AllByRecursion P) cut (drop_all i xs all)).0
