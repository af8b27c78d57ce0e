-- The cards of a value with the Z card behind them, and what they give.
use Rattle.std.proofs.Common.{◌≡◌, ℕ, suc, ◌^◌, ◌<◌, Bool, true, not, List, [], ◌∷◌, ◌++◌, length, map, filter_map, Option, Some, None, refl, sym, ap, subst, ◌∙◌, arith}
use Rattle.std.specs.Prelude.{nat_le, option_to_list}
use Rattle.std.specs.List.{list_all, AllByRecursion}
use Rattle.std.proofs.lemmas.List.Elements.{filter_map-append}
use Rattle.std.proofs.lemmas.Bool.{and_from}
use Rattle.fsl_order.proofs.Booleans.{first_holds, second_holds}
use Rattle.fsl_text.specs.Bytes.{is_empty}
use Rattle.fsl_card.specs.declared.types.Card.{Card}
use Rattle.fsl_card.specs.Cards.{IsCard, IsCards, IsTextOf, seal}
use Rattle.fsl_card.specs.Writing.{sealed_text}
use Rattle.fsl_grammar.specs.Letters.{Letters, has_letters}
use Rattle.fsl_grammar.specs.Forms.{HasBody, arguments, hash_form, is_filled, text_form, user_form}
use Rattle.fsl_grammar.specs.Writing.{body_card, card_if, parents_card}
use Rattle.fsl_text.specs.Escapes.{escape}
use Rattle.fsl_text.proofs.DecimalTexts.{decimal_is}
use Rattle.fsl_name.specs.Name.{IsName, name_text}
use Rattle.fsl_name.specs.declared.reference.Ref.{Ref}
use Rattle.fsl_grammar.proofs.WrittenArguments.{is_argument-escape, is_argument-name}
use Rattle.fsl_grammar.proofs.FormsAgain.{hash_again, read_if, text_again, user_again}
use Rattle.fsl_grammar.proofs.Blocks.{AreBlocks, HaveLetters, IsBlock, arguments-joined, block_if, blocks_rise, given, has_letters-joined, is_plain_letter, joined, joined-push, seal_block, sealed_blocks}
use Rattle.fsl_grammar.proofs.DecimalLemmas.{is_argument-decimal}

-- ---- the Z card behind blocks

push : (blocks : List (ℕ × List Card)) (block : ℕ × List Card) → AreBlocks blocks → IsBlock block → AreBlocks (blocks ++ block ∷ [])
push [] block h k = (k, tt)
push (b ∷ blocks) block h k = (h.0, push blocks block h.1 k)

-- the blocks with that of the Z card behind them
abbrev pub sealed_with : List (ℕ × List Card) → List (ℕ × List Card)
sealed_with blocks = blocks ++ (90, seal (joined blocks) ∷ []) ∷ []

-- all cards
abbrev pub all_cards : List (ℕ × List Card) → List Card
all_cards blocks = joined blocks ++ seal (joined blocks) ∷ []

module _ (blocks : List (ℕ × List Card)) (h : AreBlocks blocks) where
  sealed_are : AreBlocks (sealed_with blocks)
  sealed_are = push blocks (90, seal (joined blocks) ∷ []) h (seal_block (joined blocks))

  all_are : joined (sealed_with blocks) ≡ all_cards blocks
  all_are = joined-push blocks (90, seal (joined blocks) ∷ [])

  pub of_letter : (letter : ℕ) → arguments (all_cards blocks) letter ≡ given letter (sealed_with blocks)
  of_letter letter = ap (λ (cards : List Card). arguments cards letter) (sym all_are) ∙ arguments-joined letter (sealed_with blocks) sealed_are

  pub by_form : {X : Type 0} (letter : ℕ) (form : List (List ℕ) → Option X) (found : List (Option X)) → map form (given letter (sealed_with blocks)) ≡ found → map form (arguments (all_cards blocks) letter) ≡ found
  by_form letter form found e = ap (map form) (of_letter letter) ∙ e

  pub letters_are : (kind : Letters) → HaveLetters kind (sealed_with blocks) → has_letters kind (all_cards blocks) ≡ true
  letters_are kind k = ap (has_letters kind) (sym all_are) ∙ has_letters-joined kind (sealed_with blocks) sealed_are k

  -- a text that is these blocks and the Z card is what its cards are
  pub text_is : {X : Type 0} (R : List Card → X → Type 0) (x : X) (text : List ℕ) (cards : List Card) → blocks_rise blocks ≡ true → joined blocks ≡ cards → text ≡ sealed_text cards → R (all_cards blocks) x → IsTextOf R text x
  text_is R x text cards rise same spelled holds =
      let made : sealed_text (joined blocks) ≡ text = ap sealed_text same ∙ sym spelled in
      (all_cards blocks, subst (λ (t : List ℕ). IsCards t (all_cards blocks)) made (sealed_blocks blocks h rise), holds)

-- ---- bodies

abbrev bodies : List Card → List (List ℕ)
bodies cards = filter_map (λ card. card.body) cards

abbrev pub HaveNoBodies : List (ℕ × List Card) → Type 0
HaveNoBodies blocks = AllByRecursion (λ block. filter_map (λ card. card.body) (block.1) ≡ []) blocks

none_joined : (blocks : List (ℕ × List Card)) → HaveNoBodies blocks → bodies (joined blocks) ≡ []
none_joined [] h = refl
none_joined (block ∷ blocks) h = filter_map-append (λ (c : Card). c.body) (block.1) (joined blocks) ∙ rw (h.0, none_joined blocks h.1) refl

pub body_again : (front : List (ℕ × List Card)) (text : List ℕ) → HaveNoBodies front → HasBody (all_cards (front ++ (87, body_card text ∷ []) ∷ [])) text
body_again front text h =
    let cards = joined (front ++ (87, body_card text ∷ []) ∷ []) in
    filter_map-append (λ (c : Card). c.body) cards (seal cards ∷ [])
    ∙ ap (λ (found : List (List ℕ)). found ++ []) (ap bodies (joined-push front (87, body_card text ∷ [])) ∙ filter_map-append (λ (c : Card). c.body) (joined front) (body_card text ∷ []))
    ∙ rw (none_joined front h) refl

pub no_bodies-if : {X : Type 0} (letter : ℕ) (written : X → List ℕ) (o : Option X) → filter_map (λ card. card.body) (card_if letter written o) ≡ []
no_bodies-if letter written None = refl
no_bodies-if letter written (Some x) = refl

pub no_bodies-parents : (refs : List Ref) → filter_map (λ card. card.body) (parents_card refs) ≡ []
no_bodies-parents [] = refl
no_bodies-parents (r ∷ refs) = refl

pub no_bodies-each : {X : Type 0} (made : X → Card) → ((x : X) → (made x).body ≡ None) → (xs : List X) → filter_map (λ card. card.body) (map made xs) ≡ []
no_bodies-each made none [] = refl
no_bodies-each made none (x ∷ xs) = rw (none x) (no_bodies-each made none xs)

pub body_block : (text : List ℕ) → length text < 2 ^ 64 → IsBlock (87, body_card text ∷ [])
body_block text h =
    let whole : IsCard (body_card text) = record { letter = refl; arguments = and_from _ _ (is_argument-decimal (length text) h) refl; body = (refl, decimal_is (length text) h) } in
    record { letters = (refl, tt); ordered = refl; each = (whole, tt) }

-- ---- parts of what a value owes

pub all_hold : {X : Type 0} (p : X → Bool) (xs : List X) → list_all p xs ≡ true → AllByRecursion (λ x. p x ≡ true) xs
all_hold p [] h = tt
all_hold p (x ∷ xs) h = (first_holds _ (list_all p xs) h, all_hold p xs (second_holds (p x) _ h))

-- ---- optional values

-- what holds of an optional value holds where it is there
pub of_some : {X : Type 0} (P : X → Type 0) (o : Option X) (x : X) → o ≡ Some x → AllByRecursion P (option_to_list o) → P x
of_some P o x e h = (subst (λ v. AllByRecursion P (option_to_list v)) e h).0

pub filled : (o : Option (List ℕ)) (text : List ℕ) → o ≡ Some text → is_filled o ≡ true → not (is_empty text) ≡ true
filled o text e h = ap is_filled (sym e) ∙ h

pub text_block : (letter : ℕ) (o : Option (List ℕ)) → is_plain_letter letter ≡ true → is_filled o ≡ true → IsBlock (letter, card_if letter escape o)
text_block letter o plain h = block_if letter escape o plain (λ text e. is_argument-escape text (filled o text e h))

pub name_block : (letter : ℕ) (o : Option (List ℕ)) → is_plain_letter letter ≡ true → AllByRecursion IsName (option_to_list o) → IsBlock (letter, card_if letter name_text o)
name_block letter o plain h = block_if letter name_text o plain (λ name e. is_argument-name name (of_some IsName o name e h))

-- the arguments of a card where there is a value, behind those of other letters
abbrev read_as : {X : Type 0} → (List (List ℕ) → Option X) → List Card → List (Option X)
read_as form cards = map form (map (λ card. card.args) cards ++ [])

pub text_read : (letter : ℕ) (o : Option (List ℕ)) → read_as text_form (card_if letter escape o) ≡ map Some (option_to_list o)
text_read letter o = read_if letter escape text_form o (λ text e. text_again text)

pub user_read : (letter : ℕ) (o : Option (List ℕ)) → read_as user_form (card_if letter escape o) ≡ map Some (option_to_list o)
user_read letter o = read_if letter escape user_form o (λ text e. user_again text)

pub name_read : (letter : ℕ) (o : Option (List ℕ)) → AllByRecursion IsName (option_to_list o) → read_as hash_form (card_if letter name_text o) ≡ map Some (option_to_list o)
name_read letter o h = read_if letter name_text hash_form o (λ name e. hash_again name (of_some IsName o name e h))

-- what one card gives
pub one_read : {X : Type 0} (form : List (List ℕ) → Option X) (args : List (List ℕ)) (x : X) → form args ≡ Some x → ◌≡◌ {A = List (Option X)} (form args ∷ []) (Some x ∷ [])
one_read {X = X} form args x e = ap (λ (o : Option X). o ∷ []) e

one_or_more : (n : ℕ) → nat_le 1 (suc n) ≡ true
one_or_more n = grind arith

pub some_cards : {X : Type 0} (made : X → Card) (xs : List X) → not (is_empty xs) ≡ true → nat_le 1 (length (map (λ card. card.args) (map made xs) ++ [])) ≡ true
some_cards made [] h = absurd cc
some_cards made (x ∷ xs) h = one_or_more _
