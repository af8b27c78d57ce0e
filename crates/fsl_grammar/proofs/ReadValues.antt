-- What is known of values that the cards of a structural text give.
use Rattle.std.proofs.Common.{◌≡◌, ℕ, Bool, true, false, not, cond, eqb, List, [], ◌∷◌, length, map, filter, Option, Some, None, refl, sym, ap, subst, ◌∙◌}
use Rattle.std.specs.Prelude.{◌==◌, nat_le, option_to_list, codes}
use Rattle.std.specs.List.{list_all, AllByRecursion}
use Rattle.std.proofs.lemmas.Bool.{eqb-true, and_from}
use Rattle.std.proofs.lemmas.List.{length-map}
use Rattle.std.proofs.lemmas.List.Sums.{length-filter}
use Rattle.fsl_order.proofs.Booleans.{first_holds, second_holds}
use Rattle.fsl_text.specs.Bytes.{is_empty}
use Rattle.fsl_text.specs.Escapes.{unescape, byte_meant}
use Rattle.fsl_card.specs.declared.types.Card.{Card}
use Rattle.fsl_card.specs.Cards.{IsCard, are_arguments, is_argument}
use Rattle.fsl_grammar.specs.declared.TagCard.{TagCard}
use Rattle.fsl_grammar.specs.Letters.{letter_count}
use Rattle.fsl_grammar.specs.Forms.{◌>>=◌, arguments, given, is_filled, is_tag_written, prefix_in, tag_form, tag_in, target_in, text_form, user_form}

-- ---- the arguments of a letter

-- the arguments of one card are those that its letter may have
abbrev AreFit : ℕ → List (List ℕ) → Type 0
AreFit letter args = are_arguments letter args ≡ true

pub fit_arguments : (cards : List Card) (letter : ℕ) → AllByRecursion IsCard cards → AllByRecursion (λ args. are_arguments letter args ≡ true) (arguments cards letter)
fit_arguments [] letter h = tt
fit_arguments (c ∷ cards) letter h = by (eqb c.letter letter) refl (fit_arguments cards letter h.1)
  where
    by : (t : Bool) → eqb c.letter letter ≡ t → AllByRecursion (AreFit letter) (arguments cards letter)
        → AllByRecursion (AreFit letter) (map (λ card. card.args) (cond t (c ∷ filter (λ card. eqb card.letter letter) cards) (filter (λ card. eqb card.letter letter) cards)))
    by true e more = (subst (λ (l : ℕ). are_arguments l c.args ≡ true) (eqb-true c.letter letter e) h.0.arguments, more)
    by false e more = more

-- what a form gives of fit arguments
module _ {X : Type 0} (fit : List (List ℕ) → Type 0) (form : List (List ℕ) → Option X) (P : X → Type 0) (gives : (args : List (List ℕ)) (x : X) → fit args → form args ≡ Some x → P x) where
  abbrev some_all : List X → List (Option X)
  some_all xs = map Some xs

  pub each_given : (found : List (List (List ℕ))) (xs : List X) → AllByRecursion fit found → map form found ≡ some_all xs → AllByRecursion P xs
  each_given [] [] h e = tt
  each_given [] (x ∷ xs) h e = absurd cc
  each_given (args ∷ found) [] h e = absurd cc
  each_given (args ∷ found) (x ∷ xs) h e = (gives args x h.0 (first e), each_given found xs h.1 (rest e))
    where
      first : form args ∷ map form found ≡ Some x ∷ some_all xs → form args ≡ Some x
      first f = cc

      rest : form args ∷ map form found ≡ Some x ∷ some_all xs → map form found ≡ some_all xs
      rest f = cc

-- cards of a letter that stands one time or more give some values
pub some_given : {X : Type 0} (cards : List Card) (letter : ℕ) (form : List (List ℕ) → Option X) (xs : List X) → nat_le 1 (letter_count cards letter) ≡ true → map form (arguments cards letter) ≡ map Some xs → not (is_empty xs) ≡ true
some_given cards letter form (x ∷ xs) h e = refl
some_given cards letter form [] h e =
    let kept = filter (λ (card : Card). eqb card.letter letter) cards in
    let none : letter_count cards letter ≡ 0 =
    sym (length-filter (λ (card : Card). eqb card.letter letter) cards) ∙ sym (length-map kept (λ (card : Card). card.args)) ∙ sym (length-map (arguments cards letter) form) ∙ ap length e in
    absurd (no (rw none at h))
  where
    no : nat_le 1 0 ≡ true → ⊥
    no k = cc

-- ---- texts

abbrev pub filled : List ℕ → Type 0
filled text = not (is_empty text) ≡ true

-- an argument stands for a text that has a byte
pub unescape_filled : (arg : List ℕ) → is_argument arg ≡ true → not (is_empty (unescape arg)) ≡ true
unescape_filled [] h = absurd cc
unescape_filled (b ∷ []) h = refl
unescape_filled (b ∷ c ∷ rest) h = by (b == 92)
  where
    by : (t : Bool) → not (is_empty (cond t (byte_meant c ∷ unescape rest) (b ∷ unescape (c ∷ rest)))) ≡ true
    by true = refl
    by false = refl

abbrev ArePlain : List (List ℕ) → Type 0
ArePlain args = list_all is_argument args ≡ true

pub text_filled : (args : List (List ℕ)) (text : List ℕ) → ArePlain args → text_form args ≡ Some text → filled text
text_filled [] text h e = absurd cc
text_filled (arg ∷ []) text h e = subst filled (inside e) (unescape_filled arg (first_holds _ true h))
  where
    inside : Some (unescape arg) ≡ Some text → unescape arg ≡ text
    inside f = cc
text_filled (a ∷ b ∷ args) text h e = absurd cc

pub user_filled : (args : List (List ℕ)) (text : List ℕ) → ArePlain args → user_form args ≡ Some text → filled text
user_filled [] text h e = subst filled (inside e) refl
  where
    inside : Some (codes "anonymous") ≡ Some text → codes "anonymous" ≡ text
    inside f = cc
user_filled (a ∷ args) text h e = text_filled (a ∷ args) text h e

pub optional_filled : (o : Option (List ℕ)) → AllByRecursion filled (option_to_list o) → is_filled o ≡ true
optional_filled None h = refl
optional_filled (Some text) h = h.0

pub all_true : {X : Type 0} (p : X → Bool) (xs : List X) → AllByRecursion (λ x. p x ≡ true) xs → list_all p xs ≡ true
all_true p [] h = refl
all_true p (x ∷ xs) h = and_from _ _ h.0 (all_true p xs h.1)

-- ---- tags

-- a step that gives a value had one to go on with
pub step : {A B : Type 0} (o : Option A) (f : A → Option B) (b : B) → (o >>= f) ≡ Some b → (a : A) × (o ≡ Some a) × (f a ≡ Some b)
step None f b e = absurd cc
step (Some a) f b e = (a, refl, e)

pub given_is : {A : Type 0} (t : Bool) (x y : A) → given t x ≡ Some y → (t ≡ true) × (x ≡ y)
given_is true x y e = (refl, cc)
given_is false x y e = absurd cc

tag_of : (bytes target : List ℕ) (value : Option (List ℕ)) (t : TagCard) → is_filled value ≡ true → tag_in bytes target value ≡ Some t → is_tag_written t ≡ true
tag_of [] target value t h e = absurd cc
tag_of (sign ∷ tag) target value t h e =
    let p = step (prefix_in sign) _ t e in
    let to = step (target_in target) _ t p.2 in
    let g = given_is (not (is_empty tag)) (record { prefix = p.0; tag = tag; target = to.0; value = value }) t to.2 in
    subst (λ (t : TagCard). is_tag_written t ≡ true) g.1 (and_from _ _ g.0 h)

pub tag_read : (args : List (List ℕ)) (t : TagCard) → ArePlain args → tag_form args ≡ Some t → is_tag_written t ≡ true
tag_read [] t h e = absurd cc
tag_read (tag ∷ []) t h e = absurd cc
tag_read (tag ∷ target ∷ []) t h e = tag_of (unescape tag) target None t refl e
tag_read (tag ∷ target ∷ value ∷ []) t h e =
    tag_of (unescape tag) target (Some (unescape value)) t
    (unescape_filled value (first_holds _ true (second_holds (is_argument target) _ (second_holds (is_argument tag) _ h)))) e
tag_read (a ∷ b ∷ c ∷ d ∷ args) t h e = absurd cc
