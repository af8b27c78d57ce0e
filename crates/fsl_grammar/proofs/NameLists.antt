-- What holds of each of several lists behind one another holds of each list.
use Rattle.std.proofs.Common.{List, [], ◌∷◌, ◌++◌, flat_map}
use Rattle.std.specs.List.{AllByRecursion}

module _ {A : Type 0} (P : A → Type 0) where
  pub front_holds : (a b : List A) → AllByRecursion P (a ++ b) → AllByRecursion P a
  front_holds [] b h = tt
  front_holds (x ∷ a) b h = (h.0, front_holds a b h.1)

  pub rest_holds : (a b : List A) → AllByRecursion P (a ++ b) → AllByRecursion P b
  rest_holds [] b h = h
  rest_holds (x ∷ a) b h = rest_holds a b h.1

  pub each_holds : {X : Type 0} (f : X → List A) (xs : List X) → AllByRecursion P (flat_map f xs) → AllByRecursion (λ x. AllByRecursion P (f x)) xs
  each_holds f [] h = tt
  each_holds f (x ∷ xs) h = (front_holds (f x) (flat_map f xs) h, each_holds f xs (rest_holds (f x) (flat_map f xs) h))
