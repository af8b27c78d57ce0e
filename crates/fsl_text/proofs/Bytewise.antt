-- What holds of each byte of a text, and a search that finds none.
use Rattle.std.proofs.Common.{◌≡◌, ℕ, ◌≤◌, Bool, true, cond, List, [], ◌∷◌, Some, None, refl, arith}
use Rattle.std.specs.Prelude.{nat_lt}
use Rattle.std.specs.List.{list_all}
use Rattle.std.proofs.lemmas.Bool.{and_from}
use Rattle.fsl_order.proofs.Booleans.{first_holds, second_holds}

-- each byte passes a weaker test too
pub weaker : (p r : ℕ → Bool) → ((b : ℕ) → p b ≡ true → r b ≡ true) → (text : List ℕ) → list_all p text ≡ true → list_all r text ≡ true
weaker p r f [] h = refl
weaker p r f (b ∷ text) h = and_from (r b) (list_all r text) (f b (first_holds (p b) (list_all p text) h)) (weaker p r f text (second_holds (p b) (list_all p text) h))

-- a place that isn't given is past the end
pub none_past : (i n : ℕ) → cond (nat_lt i n) (Some i) None ≡ None → n ≤ i
none_past i n h = grind (arith)
