-- Cards have the letters of one kind only: a letter that one kind needs and another doesn't have tells them apart.
use Rattle.std.proofs.Common.{◌≡◌, ℕ, Bool, true, false, eqb, List, [], ◌∷◌, ◌++◌, refl, sym, subst, ◌∙◌}
use Rattle.std.specs.Prelude.{◌&&◌, ◌||◌, nat_le}
use Rattle.std.specs.List.{list_all, list_any}
use Rattle.std.proofs.lemmas.Bool.{eqb-true}
use Rattle.fsl_order.proofs.Booleans.{first_holds, second_holds}
use Rattle.fsl_card.specs.declared.types.Card.{Card}
use Rattle.fsl_grammar.specs.Letters.{Letters, letter_count, has_letters}

-- whether a list has a letter
abbrev pub has : ℕ → List ℕ → Bool
has letter letters = list_any (λ other. eqb letter other) letters

-- what holds of all holds of each
each_by : (p : ℕ → Bool) (letter other : ℕ) (rest : Bool) (t : Bool) → eqb letter other ≡ t → (t || rest) ≡ true → p other ≡ true → (rest ≡ true → p letter ≡ true) → p letter ≡ true
each_by p letter other rest true e f h more = subst (λ (l : ℕ). p l ≡ true) (sym (eqb-true letter other e)) h
each_by p letter other rest false e f h more = more f

each_letter : (p : ℕ → Bool) (letter : ℕ) (letters : List ℕ) → list_all p letters ≡ true → has letter letters ≡ true → p letter ≡ true
each_letter p letter [] h k = absurd cc
each_letter p letter (other ∷ letters) h k =
    each_by p letter other (has letter letters) (eqb letter other) refl k (first_holds (p other) (list_all p letters) h)
    (λ f. each_letter p letter letters (second_holds (p other) (list_all p letters) h) f)

-- cards of some letters have none of another
abbrev all_of : List ℕ → List Card → Bool
all_of letters cards = list_all (λ card. has card.letter letters) cards

none_by : (letter : ℕ) (letters : List ℕ) (card : Card) (cards : List Card) (t : Bool) → eqb card.letter letter ≡ t → has card.letter letters ≡ true → has letter letters ≡ false → letter_count cards letter ≡ 0 → letter_count (card ∷ cards) letter ≡ 0
none_by letter letters card cards true e h k more =
    absurd (let same : card.letter ≡ letter = eqb-true card.letter letter e in
    let f : has letter letters ≡ true = subst (λ (l : ℕ). has l letters ≡ true) same h in
    let g = sym f ∙ k in cc)
none_by letter letters card cards false e h k more = rw (e, more) refl

none_of : (letter : ℕ) (letters : List ℕ) (cards : List Card) → all_of letters cards ≡ true → has letter letters ≡ false → letter_count cards letter ≡ 0
none_of letter letters [] h k = refl
none_of letter letters (card ∷ cards) h k =
    none_by letter letters card cards (eqb card.letter letter) refl (first_holds (has card.letter letters) (all_of letters cards) h) k
    (none_of letter letters cards (second_holds (has card.letter letters) (all_of letters cards) h) k)

-- the letters that a kind needs, and all that it has
abbrev pub needs : Letters → ℕ → Bool
needs kind letter = has letter kind.once || has letter kind.some

abbrev pub allows : Letters → ℕ → Bool
allows kind letter = has letter (kind.once ++ kind.optional ++ kind.repeated ++ kind.some)

at_least : (kind : Letters) (letter : ℕ) (cards : List Card) (t : Bool) → has letter kind.once ≡ t → (t || has letter kind.some) ≡ true → has_letters kind cards ≡ true → nat_le 1 (letter_count cards letter) ≡ true
at_least kind letter cards true e f h =
    let A = list_all (λ letter. eqb (letter_count cards letter) 1) kind.once in
    let B = list_all (λ letter. nat_le (letter_count cards letter) 1) kind.optional in
    let C = list_all (λ letter. nat_le 1 (letter_count cards letter)) kind.some in
    let D = all_of (kind.once ++ kind.optional ++ kind.repeated ++ kind.some) cards in
    let once : eqb (letter_count cards letter) 1 ≡ true = each_letter (λ l. eqb (letter_count cards l) 1) letter kind.once (first_holds A B (first_holds (A && B) C (first_holds ((A && B) && C) D h))) e in
    rw (eqb-true (letter_count cards letter) 1 once) refl
at_least kind letter cards false e f h =
    let A = list_all (λ letter. eqb (letter_count cards letter) 1) kind.once in
    let B = list_all (λ letter. nat_le (letter_count cards letter) 1) kind.optional in
    let C = list_all (λ letter. nat_le 1 (letter_count cards letter)) kind.some in
    let D = all_of (kind.once ++ kind.optional ++ kind.repeated ++ kind.some) cards in
    each_letter (λ l. nat_le 1 (letter_count cards l)) letter kind.some (second_holds (A && B) C (first_holds ((A && B) && C) D h)) f

-- no cards have the letters of a kind that needs a letter and of one that doesn't have it
pub apart : (kind other : Letters) (letter : ℕ) (cards : List Card) → needs kind letter ≡ true → allows other letter ≡ false → has_letters kind cards ≡ true → has_letters other cards ≡ true → ⊥
apart kind other letter cards need absent h k =
    let one : nat_le 1 (letter_count cards letter) ≡ true = at_least kind letter cards (has letter kind.once) refl need h in
    let A = list_all (λ letter. eqb (letter_count cards letter) 1) other.once in
    let B = list_all (λ letter. nat_le (letter_count cards letter) 1) other.optional in
    let C = list_all (λ letter. nat_le 1 (letter_count cards letter)) other.some in
    let D = all_of (other.once ++ other.optional ++ other.repeated ++ other.some) cards in
    let none : letter_count cards letter ≡ 0 = none_of letter (other.once ++ other.optional ++ other.repeated ++ other.some) cards (second_holds ((A && B) && C) D k) absent in
    let zero : nat_le 1 0 ≡ true = subst (λ (n : ℕ). nat_le 1 n ≡ true) none one in
    cc
