-- The cards of a letter stand in the order of all cards.
use Rattle.std.proofs.Common.{◌≡◌, ℕ, ◌<◌, ◌≤◌, Bool, true, false, cond, eqb, List, [], ◌∷◌, filter, refl, sym, ◌∙◌, inl, inr, arith}
use Rattle.std.specs.Prelude.{◌&&◌, ◌||◌, nat_lt}
use Rattle.std.specs.List.{AllByRecursion}
use Rattle.std.proofs.lemmas.Bool.{cases_lt, eq-eqb, eqb-true, false≢true, ltb-true, ne_eqb, and_from}
use Rattle.fsl_order.proofs.Booleans.{first_holds, second_holds}
use Rattle.fsl_card.specs.declared.types.Card.{Card}
use Rattle.fsl_card.specs.Cards.{in_order, may_follow, may_repeat}

letters_grow : (a b : Card) → may_follow a b ≡ true → a.letter ≤ b.letter
letters_grow a b h = by (nat_lt a.letter b.letter) (eqb a.letter b.letter) refl refl h
  where
    by : (s t : Bool) → nat_lt a.letter b.letter ≡ s → eqb a.letter b.letter ≡ t → (s || (t && may_repeat a.letter a b)) ≡ true → a.letter ≤ b.letter
    by true t less same k = let lt : a.letter < b.letter = ltb-true a.letter b.letter less in omega arith
    by false true less same k = let e : a.letter ≡ b.letter = eqb-true a.letter b.letter same in omega arith
    by false false less same k = absurd cc

rest_in_order : (a : Card) (cards : List Card) → in_order (a ∷ cards) ≡ true → in_order cards ≡ true
rest_in_order a [] h = refl
rest_in_order a (b ∷ cards) h = second_holds (may_follow a b) _ h

module _ (letter : ℕ) where
  -- the cards of the letter
  abbrev pub of_it : List Card → List Card
  of_it cards = filter (λ card. eqb card.letter letter) cards

  none_above : (a : Card) (cards : List Card) → letter < a.letter → in_order (a ∷ cards) ≡ true → of_it (a ∷ cards) ≡ []
  none_above a [] above h = rw (ne_eqb a.letter letter (λ e. absurd (omega arith))) refl
  none_above a (b ∷ cards) above h =
      let next : a.letter ≤ b.letter = letters_grow a b (first_holds _ (in_order (b ∷ cards)) h) in
      let higher : letter < b.letter = omega arith in
      rw (ne_eqb a.letter letter (λ e. absurd (omega arith))) (none_above b cards higher (second_holds (may_follow a b) _ h))

  kept_behind : (a : Card) (cards : List Card) → a.letter ≡ letter → in_order (a ∷ cards) ≡ true → in_order (a ∷ of_it cards) ≡ true
  kept_behind a [] same h = refl
  kept_behind a (b ∷ cards) same h = by (eqb b.letter letter) refl (kept_behind b cards)
    where
      by : (t : Bool) → eqb b.letter letter ≡ t → (b.letter ≡ letter → in_order (b ∷ cards) ≡ true → in_order (b ∷ of_it cards) ≡ true) → in_order (a ∷ cond t (b ∷ of_it cards) (of_it cards)) ≡ true
      by true e more = and_from _ _ (first_holds _ (in_order (b ∷ cards)) h) (more (eqb-true b.letter letter e) (second_holds (may_follow a b) _ h))
      by false e more =
          let next : a.letter ≤ b.letter = letters_grow a b (first_holds _ (in_order (b ∷ cards)) h) in
          let other : b.letter ≡ letter → ⊥ = λ k. false≢true (sym e ∙ eq-eqb b.letter letter k) in
          let none : of_it (b ∷ cards) ≡ [] = none_above b cards (above (b.letter) next other) (second_holds (may_follow a b) _ h) in
          let none_here : of_it cards ≡ [] = (rw e at none) in
          rw none_here refl
        where
          above : (n : ℕ) → a.letter ≤ n → (n ≡ letter → ⊥) → letter < n
          above n le ne = elim (cases_lt letter n) [
            | inl lt ↦ lt
            | inr ge ↦ absurd (ne (omega (arith, same, le, ge)))
          ]

  pub kept_in_order : (cards : List Card) → in_order cards ≡ true → in_order (of_it cards) ≡ true
  kept_in_order [] h = refl
  kept_in_order (c ∷ cards) h = by (eqb c.letter letter) refl (kept_in_order cards (rest_in_order c cards h))
    where
      by : (t : Bool) → eqb c.letter letter ≡ t → in_order (of_it cards) ≡ true → in_order (cond t (c ∷ of_it cards) (of_it cards)) ≡ true
      by true e more = kept_behind c cards (eqb-true c.letter letter e) h
      by false e more = more

  pub all_of_it : (cards : List Card) → AllByRecursion (λ card. card.letter ≡ letter) (of_it cards)
  all_of_it [] = tt
  all_of_it (c ∷ cards) = by (eqb c.letter letter) refl (all_of_it cards)
    where
      by : (t : Bool) → eqb c.letter letter ≡ t → AllByRecursion (λ card. card.letter ≡ letter) (of_it cards) → AllByRecursion (λ card. card.letter ≡ letter) (cond t (c ∷ of_it cards) (of_it cards))
      by true e more = (eqb-true c.letter letter e, more)
      by false e more = more
