-- What a loop over the cards of one letter has read.
use Rattle.std.proofs.Common.{◌≡◌, ℕ, ◌+◌, ◌<◌, true, false, eqb, List, [], ◌∷◌, ◌++◌, length, get_or, drop, map, flat_map, Option, Some, None, refl, sym, ap, ◌∙◌, add-one, drop-cons}
use Rattle.std.specs.Prelude.{◌&&◌, is_some}
use Rattle.std.specs.List.{list_all}
use Rattle.std.proofs.lemmas.Bool.{eq-eqb}
use Rattle.std.proofs.lemmas.List.{map-append}
use Rattle.fsl_card.specs.declared.types.Card.{Card}
use Rattle.fsl_name.specs.Ref.{ref_in}
use Rattle.fsl_grammar.specs.Forms.{arguments}

-- a card of the letter comes first
pub arguments-at : (cards : List Card) (letter i : ℕ) (card : Card) → i < length cards → card ≡ get_or cards i card → card.letter ≡ letter → arguments (drop i cards) letter ≡ card.args ∷ arguments (drop (i + 1) cards) letter
arguments-at cards letter i card lt is same =
    let t : eqb card.letter letter ≡ true = eq-eqb card.letter letter same in
    rw (add-one, drop-cons cards i card, ← is, t) refl

module _ {X : Type 0} where
  abbrev some_all : List X → List (Option X)
  some_all xs = map Some xs

  -- one that is missing
  abbrev none : Option X
  none = None

  -- what stands behind values is values too
  abbrev BehindThem : List (Option X) → Type 0
  BehindThem rest = (zs : List X) × (rest ≡ some_all zs)

  behind_values : (xs : List X) (rest : List (Option X)) (ys : List X) → some_all xs ++ rest ≡ some_all ys → BehindThem rest
  behind_values [] rest ys e = (ys, e)
  behind_values (x ∷ xs) rest [] e = absurd cc
  behind_values (x ∷ xs) rest (y ∷ ys) e = behind_values xs rest ys (inside e)
    where
      inside : Some x ∷ (some_all xs ++ rest) ≡ Some y ∷ some_all ys → some_all xs ++ rest ≡ some_all ys
      inside f = cc

  missing_first : (rest : List (Option X)) (ys : List X) → none ∷ rest ≡ some_all ys → ⊥
  missing_first rest [] e = cc
  missing_first rest (y ∷ ys) e = cc

  -- a card of the letter that hasn't the form leaves no list of values
  pub missing-at : (form : List (List ℕ) → Option X) (cards : List Card) (letter i : ℕ) (card : Card) → i < length cards → card ≡ get_or cards i card → card.letter ≡ letter → form card.args ≡ none
      → (xs ys : List X) → map form (arguments cards letter) ≡ some_all xs ++ map form (arguments (drop i cards) letter) → map form (arguments cards letter) ≡ some_all ys → ⊥
  missing-at form cards letter i card lt is same absent xs ys read h =
      let rest = map form (arguments (drop (i + 1) cards) letter) in
      let here : map form (arguments (drop i cards) letter) ≡ none ∷ rest = ap (map form) (arguments-at cards letter i card lt is same) ∙ ap (λ (o : Option X). o ∷ rest) absent in
      let zs = behind_values xs (map form (arguments (drop i cards) letter)) ys (sym read ∙ h) in
      missing_first rest zs.0 (sym here ∙ zs.1)

  module _ {A : Type 0} (f : A → Option X) where
    -- where one of several has no value, what they give is no list of values
    missing_among : (args : List A) (rest : List (Option X)) (ys : List X) → list_all (λ arg. is_some (f arg)) args ≡ false → map f args ++ rest ≡ some_all ys → ⊥
    missing_among [] rest ys h e = cc
    missing_among (arg ∷ args) rest ys h e = by (f arg) ys (missing_among args rest) h e
      where
        by : (o : Option X) (ys : List X) → ((zs : List X) → list_all (λ arg. is_some (f arg)) args ≡ false → map f args ++ rest ≡ some_all zs → ⊥)
            → (is_some o && list_all (λ arg. is_some (f arg)) args) ≡ false → o ∷ (map f args ++ rest) ≡ some_all ys → ⊥
        by None ys more h e = missing_first (map f args ++ rest) ys e
        by (Some x) [] more h e = cc
        by (Some x) (y ∷ ys) more h e = more ys h (inside e)
          where
            inside : Some x ∷ (map f args ++ rest) ≡ Some y ∷ some_all ys → map f args ++ rest ≡ some_all ys
            inside f = cc

    pub missing_behind : (xs : List X) (args : List A) (rest : List (Option X)) (ys : List X) → list_all (λ arg. is_some (f arg)) args ≡ false → some_all xs ++ (map f args ++ rest) ≡ some_all ys → ⊥
    missing_behind xs args rest ys h e =
        let zs = behind_values xs (map f args ++ rest) ys e in
        missing_among args rest zs.0 h zs.1

-- the references of the P cards from one of them on
pub refs-at : (cards : List Card) (i : ℕ) (card : Card) → i < length cards → card ≡ get_or cards i card → card.letter ≡ 80
    → map ref_in (flat_map (λ args. args) (arguments (drop i cards) 80)) ≡ map ref_in card.args ++ map ref_in (flat_map (λ args. args) (arguments (drop (i + 1) cards) 80))
refs-at cards i card lt is same =
    let rest = arguments (drop (i + 1) cards) 80 in
    ap (λ (found : List (List (List ℕ))). map ref_in (flat_map (λ args. args) found)) (arguments-at cards 80 i card lt is same)
    ∙ map-append ref_in card.args (flat_map (λ args. args) rest)
