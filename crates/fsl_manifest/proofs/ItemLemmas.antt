-- Lists of few items, by their items.
use Rattle.std.proofs.Common.{◌≡◌, ◌<◌, ◌≤◌, List, [], ◌∷◌, length, get_or, arith}

module _ {X : Type 0} where
  pub one_item : (xs : List X) (a : X) → 1 ≤ length xs → length xs < 2 → a ≡ get_or xs 0 a → xs ≡ a ∷ []
  one_item [] a some few e = absurd (omega (arith, some))
  one_item (x ∷ []) a some few e = cc
  one_item (x ∷ v ∷ more) a some few e = absurd (omega (arith, few))

  pub two_items : (xs : List X) (a b : X) → 2 ≤ length xs → length xs < 3 → a ≡ get_or xs 0 a → b ≡ get_or xs 1 b → xs ≡ a ∷ b ∷ []
  two_items [] a b some few ea eb = absurd (omega (arith, some))
  two_items (x ∷ []) a b some few ea eb = absurd (omega (arith, some))
  two_items (x ∷ y ∷ []) a b some few ea eb = cc
  two_items (x ∷ y ∷ v ∷ more) a b some few ea eb = absurd (omega (arith, few))

  pub three_items : (xs : List X) (a b c : X) → 3 ≤ length xs → length xs < 4 → a ≡ get_or xs 0 a → b ≡ get_or xs 1 b → c ≡ get_or xs 2 c → xs ≡ a ∷ b ∷ c ∷ []
  three_items [] a b c some few ea eb ec = absurd (omega (arith, some))
  three_items (x ∷ []) a b c some few ea eb ec = absurd (omega (arith, some))
  three_items (x ∷ y ∷ []) a b c some few ea eb ec = absurd (omega (arith, some))
  three_items (x ∷ y ∷ z ∷ []) a b c some few ea eb ec = cc
  three_items (x ∷ y ∷ z ∷ v ∷ more) a b c some few ea eb ec = absurd (omega (arith, few))

  pub four_items : (xs : List X) (a b c d : X) → 4 ≤ length xs → length xs < 5 → a ≡ get_or xs 0 a → b ≡ get_or xs 1 b → c ≡ get_or xs 2 c → d ≡ get_or xs 3 d → xs ≡ a ∷ b ∷ c ∷ d ∷ []
  four_items [] a b c d some few ea eb ec ed = absurd (omega (arith, some))
  four_items (x ∷ []) a b c d some few ea eb ec ed = absurd (omega (arith, some))
  four_items (x ∷ y ∷ []) a b c d some few ea eb ec ed = absurd (omega (arith, some))
  four_items (x ∷ y ∷ z ∷ []) a b c d some few ea eb ec ed = absurd (omega (arith, some))
  four_items (x ∷ y ∷ z ∷ w ∷ []) a b c d some few ea eb ec ed = cc
  four_items (x ∷ y ∷ z ∷ w ∷ v ∷ more) a b c d some few ea eb ec ed = absurd (omega (arith, few))
