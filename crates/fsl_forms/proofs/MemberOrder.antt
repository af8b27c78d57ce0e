-- Members in the order of the cards.
use Rattle.std.proofs.Common.{◌≡◌, ℕ, true, List, [], ◌∷◌, map, Option, Some, refl}
use Rattle.std.specs.Prelude.{◌&&◌, ◌||◌, ◌==◌, nat_lt}
use Rattle.std.specs.List.{AllByRecursion}
use Rattle.std.proofs.lemmas.Bool.{and_from}
use Rattle.fsl_order.specs.Names.{is_before}
use Rattle.fsl_order.proofs.Booleans.{first_holds, second_holds}
use Rattle.fsl_name.specs.Ref.{is_written_before, ref_text}
use Rattle.fsl_name.specs.declared.reference.Ref.{Ref}
use Rattle.fsl_name.proofs.RefTexts.{ref_from_text}
use Rattle.fsl_card.specs.declared.types.Card.{Card}
use Rattle.fsl_card.specs.Cards.{first_argument, first_of, in_order, may_follow, may_repeat}
use Rattle.fsl_grammar.specs.Forms.{ref_form}
use Rattle.fsl_forms.specs.WellFormed.{rise_as_written}

arguments_before : (a b : Card) → a.letter ≡ 77 → b.letter ≡ 77 → may_follow a b ≡ true → is_before (first_argument a) (first_argument b) ≡ true
arguments_before a b ea eb h = by (a.letter) (b.letter) ea eb h
  where
    by : (m n : ℕ) → m ≡ 77 → n ≡ 77 → (nat_lt m n || ((m == n) && may_repeat m a b)) ≡ true → is_before (first_argument a) (first_argument b) ≡ true
    by m n em en k = rw (em, en) at k

-- how one argument that is a reference is written
ref_read : (args : List (List ℕ)) (r : Ref) → ref_form args ≡ Some r → first_of args ≡ ref_text r
ref_read [] r e = absurd cc
ref_read (arg ∷ []) r e = (ref_from_text arg r e).1
ref_read (a ∷ b ∷ args) r e = absurd cc

abbrev some_refs : List Ref → List (Option Ref)
some_refs refs = map Some refs

pub rise_from : (cards : List Card) (refs : List Ref) → AllByRecursion (λ card. card.letter ≡ 77) cards → in_order cards ≡ true → map ref_form (map (λ card. card.args) cards) ≡ some_refs refs → rise_as_written refs ≡ true
rise_from cards [] letters h e = refl
rise_from cards (x ∷ []) letters h e = refl
rise_from [] (x ∷ y ∷ refs) letters h e = absurd cc
rise_from (a ∷ []) (x ∷ y ∷ refs) letters h e = absurd cc
rise_from (a ∷ b ∷ cards) (x ∷ y ∷ refs) letters h e =
    let first = ref_read a.args x (one e) in
    let second = ref_read b.args y (two e) in
    let digits : is_written_before x y ≡ true = rw (first, second) at (arguments_before a b letters.0 letters.1.0 (first_holds _ (in_order (b ∷ cards)) h)) in
    and_from _ _ digits (rise_from (b ∷ cards) (y ∷ refs) letters.1 (second_holds (may_follow a b) _ h) (rest e))
  where
    one : ref_form a.args ∷ ref_form b.args ∷ map ref_form (map (λ card. card.args) cards) ≡ Some x ∷ Some y ∷ some_refs refs → ref_form a.args ≡ Some x
    one k = cc

    two : ref_form a.args ∷ ref_form b.args ∷ map ref_form (map (λ card. card.args) cards) ≡ Some x ∷ Some y ∷ some_refs refs → ref_form b.args ≡ Some y
    two k = cc

    rest : ref_form a.args ∷ ref_form b.args ∷ map ref_form (map (λ card. card.args) cards) ≡ Some x ∷ Some y ∷ some_refs refs → ref_form b.args ∷ map ref_form (map (λ card. card.args) cards) ≡ Some y ∷ some_refs refs
    rest k = cc
