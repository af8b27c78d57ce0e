-- What is spelled is read again, so no text is the cards of two lists.
use Rattle.std.proofs.Common.{◌≡◌, ℕ, zero, suc, ◌≤◌, Bool, true, false, cond, eqb, List, [], ◌∷◌, ◌++◌, length, Option, Some, None, refl, sym, ap, subst, ◌∙◌, append_assoc, arith}
use Rattle.std.specs.Prelude.{◌&&◌, not, nat_le, flat_map}
use Rattle.std.specs.List.{list_all, slice_split, AllByRecursion}
use Rattle.std.proofs.lemmas.List.{take_at, drop_at, length-append}
use Rattle.std.proofs.lemmas.Bool.{eqb-true, not-true}
use Rattle.fsl_order.proofs.Booleans.{first_holds, second_holds}
use Rattle.fsl_text.specs.Decimals.{IsDecimal}
use Rattle.fsl_card.specs.declared.types.Card.{Card}
use Rattle.fsl_card.specs.Cards.{IsCards, IsCard, BodyFits, card_text, body_text, text_of, is_argument, is_argument_byte, are_field_arguments}
use Rattle.fsl_text.specs.Lines.{first_line}
use Rattle.fsl_card.specs.Reading.{◌>>=◌, arguments_of, body_of, card_at, card_of_line, cards_from}

-- a byte of an argument is no space and no newline
no_space : (b : ℕ) (t : Bool) → eqb b 32 ≡ t → is_argument_byte b ≡ true → t ≡ false
no_space b false e h = refl
no_space b true e h = absurd (let s : b ≡ 32 = eqb-true b 32 e in let P : ℕ → Type 0 = λ c. is_argument_byte c ≡ true in let f : is_argument_byte 32 ≡ true = subst P s h in cc)

no_newline : (b : ℕ) (t : Bool) → eqb b 10 ≡ t → is_argument_byte b ≡ true → t ≡ false
no_newline b false e h = refl
no_newline b true e h = absurd (let s : b ≡ 10 = eqb-true b 10 e in let P : ℕ → Type 0 = λ c. is_argument_byte c ≡ true in let f : is_argument_byte 10 ≡ true = subst P s h in cc)

-- no byte of the text is a newline
abbrev pub one_line : List ℕ → Bool
one_line text = list_all (λ b. not (eqb b 10)) text

-- the first line is what stands before the first newline
pub first_line_at : (line rest : List ℕ) → one_line line ≡ true → first_line (line ++ 10 ∷ rest) ≡ Some (line, rest)
first_line_at [] rest h = refl
first_line_at (b ∷ line) rest h =
    rw (
      not-true (eqb b 10) (first_holds (not (eqb b 10)) (one_line line) h),
      first_line_at line rest (second_holds (not (eqb b 10)) (one_line line) h),
    ) refl

-- ---- arguments

abbrev pub spelled : List (List ℕ) → List ℕ
spelled args = flat_map (λ arg. 32 ∷ arg) args

-- arguments without a space and a newline; they may be empty here
abbrev pub clean : List (List ℕ) → Bool
clean args = list_all (λ arg. list_all is_argument_byte arg) args

split_again : (arg : List ℕ) (args : List (List ℕ)) → list_all is_argument_byte arg ≡ true → clean args ≡ true → slice_split (λ c. eqb c 32) (arg ++ spelled args) ≡ arg ∷ args
split_again [] [] h k = refl
split_again [] (next ∷ args) h k =
    ap (λ (parts : List (List ℕ)). [] ∷ parts) (split_again next args (first_holds _ _ k) (second_holds _ _ k))
split_again (b ∷ arg) args h k =
    let plain : eqb b 32 ≡ false = no_space b (eqb b 32) refl (first_holds (is_argument_byte b) (list_all is_argument_byte arg) h) in
    let more = split_again arg args (second_holds (is_argument_byte b) (list_all is_argument_byte arg) h) k in
    rw (plain, more) refl

arguments_again : (args : List (List ℕ)) → clean args ≡ true → arguments_of (spelled args) ≡ Some args
arguments_again [] h = refl
arguments_again (arg ∷ args) h = ap (λ (parts : List (List ℕ)). Some parts) (split_again arg args (first_holds _ _ h) (second_holds _ _ h))

-- arguments have no newline
line_of_argument : (arg : List ℕ) → list_all is_argument_byte arg ≡ true → one_line arg ≡ true
line_of_argument [] h = refl
line_of_argument (b ∷ arg) h =
    let plain : eqb b 10 ≡ false = no_newline b (eqb b 10) refl (first_holds (is_argument_byte b) (list_all is_argument_byte arg) h) in
    let more = line_of_argument arg (second_holds (is_argument_byte b) (list_all is_argument_byte arg) h) in
    rw (plain, more) refl

one_line-append : (a b : List ℕ) → one_line a ≡ true → one_line b ≡ true → one_line (a ++ b) ≡ true
one_line-append [] b h k = k
one_line-append (x ∷ a) b h k =
    rw (first_holds (not (eqb x 10)) (one_line a) h, one_line-append a b (second_holds (not (eqb x 10)) (one_line a) h) k) refl

line_of_arguments : (args : List (List ℕ)) → clean args ≡ true → one_line (spelled args) ≡ true
line_of_arguments [] h = refl
line_of_arguments (arg ∷ args) h =
    one_line-append arg (spelled args) (line_of_argument arg (first_holds _ _ h)) (line_of_arguments args (second_holds _ _ h))

-- the arguments of a card are clean
pub clean-from_arguments : (args : List (List ℕ)) → list_all is_argument args ≡ true → clean args ≡ true
clean-from_arguments [] h = refl
clean-from_arguments (arg ∷ args) h =
    let first = second_holds _ (list_all is_argument_byte arg) (first_holds (is_argument arg) (list_all is_argument args) h) in
    let more = clean-from_arguments args (second_holds (is_argument arg) (list_all is_argument args) h) in
    rw (first, more) refl

clean-from_fields : (args : List (List ℕ)) → are_field_arguments args ≡ true → clean args ≡ true
clean-from_fields [] h = refl
clean-from_fields (a ∷ []) h = clean-from_arguments (a ∷ []) h
clean-from_fields (a ∷ [] ∷ []) h = rw (second_holds _ (list_all is_argument_byte a) h) refl
clean-from_fields (a ∷ (b ∷ bs) ∷ []) h = clean-from_arguments (a ∷ (b ∷ bs) ∷ []) h
clean-from_fields (a ∷ [] ∷ c ∷ cs) h = clean-from_arguments (a ∷ [] ∷ c ∷ cs) h
clean-from_fields (a ∷ (b ∷ bs) ∷ c ∷ cs) h = clean-from_arguments (a ∷ (b ∷ bs) ∷ c ∷ cs) h

pub clean_by : (t : Bool) (args : List (List ℕ)) → cond t (are_field_arguments args) (list_all is_argument args) ≡ true → clean args ≡ true
clean_by true args h = clean-from_fields args h
clean_by false args h = clean-from_arguments args h

-- ---- one card

letter_no_newline : (letter : ℕ) (t : Bool) → eqb letter 10 ≡ t → (nat_le 65 letter && nat_le letter 90) ≡ true → t ≡ false
letter_no_newline letter false e h = refl
letter_no_newline letter true e h = absurd (let s : letter ≡ 10 = eqb-true letter 10 e in let P : ℕ → Type 0 = λ c. (nat_le 65 c && nat_le c 90) ≡ true in let f : (nat_le 65 10 && nat_le 10 90) ≡ true = subst P s h in cc)

body_again : (size body rest : List ℕ) → IsDecimal size (length body) → body_of (size ∷ []) ((body ++ 10 ∷ []) ++ rest) ≡ Some (body, rest)
body_again size body rest h =
    rw (h.0, h.1, append_assoc body (10 ∷ []) rest, drop_at body (10 ∷ rest) (length body) refl, take_at body (10 ∷ rest) (length body) refl) refl

-- a card is read from its letter, its arguments and its body
card_at_again : (letter : ℕ) (args : List (List ℕ)) (body : Option (List ℕ)) (rest : List ℕ) → BodyFits letter args body → card_at letter args (body_text body ++ rest) ≡ Some (record { letter = letter; args = args; body = body }, rest)
card_at_again letter args None rest h = rw (not-true (eqb letter 87) h) refl
card_at_again letter [] (Some body) rest h = absurd h
card_at_again letter (size ∷ []) (Some body) rest h = rw (h.0, body_again size body rest h.1) refl
card_at_again letter (size ∷ next ∷ args) (Some body) rest h = absurd h

pub card_of_line_again : (card : Card) (rest : List ℕ) → IsCard card → card_of_line (card.letter ∷ spelled card.args) (body_text card.body ++ rest) ≡ Some (card, rest)
card_of_line_again card rest h =
    let tidy = clean_by (eqb card.letter 74) card.args h.arguments in
    rw (arguments_again card.args tidy, h.letter, h.arguments, card_at_again card.letter card.args card.body rest h.body) refl

-- a card before other bytes, as its line and what follows that
pub card_line : (card : Card) (rest : List ℕ) → card_text card ++ rest ≡ (card.letter ∷ spelled card.args) ++ 10 ∷ (body_text card.body ++ rest)
card_line card rest = append_assoc (card.letter ∷ spelled card.args) (10 ∷ body_text card.body) rest

pub line_again : (card : Card) (rest : List ℕ) → IsCard card → first_line (card_text card ++ rest) ≡ Some (card.letter ∷ spelled card.args, body_text card.body ++ rest)
line_again card rest h =
    let tidy = clean_by (eqb card.letter 74) card.args h.arguments in
    let letter : eqb card.letter 10 ≡ false = letter_no_newline card.letter (eqb card.letter 10) refl h.letter in
    let whole : one_line (card.letter ∷ spelled card.args) ≡ true = rw (letter, line_of_arguments card.args tidy) refl in
    ap first_line (card_line card rest) ∙ first_line_at (card.letter ∷ spelled card.args) (body_text card.body ++ rest) whole

-- ---- all cards

-- the steps of reading, each behind the one before it
abbrev third_step : Card → Option (List Card) → Option (List Card)
third_step card found = found >>= λ cards. Some (card ∷ cards)

abbrev second_step : ℕ → Option (Card × List ℕ) → Option (List Card)
second_step n found = found >>= λ card. third_step (card.0) (cards_from n (card.1))

abbrev first_step : ℕ → Option (List ℕ × List ℕ) → Option (List Card)
first_step n found = found >>= λ line. second_step n (card_of_line (line.0) (line.1))

cards_again : (cards : List Card) (n : ℕ) → AllByRecursion IsCard cards → length cards ≤ n → cards_from n (text_of cards) ≡ Some cards
cards_again [] n h le = refl
cards_again (card ∷ cards) zero h le = absurd (omega arith)
cards_again (card ∷ cards) (suc n) h le =
    ap (first_step n) (line_again card (text_of cards) h.0)
    ∙ ap (second_step n) (card_of_line_again card (text_of cards) h.0)
    ∙ ap (third_step card) (cards_again cards n h.1 (omega arith))

-- each card has a byte
cards_short : (cards : List Card) → length cards ≤ length (text_of cards)
cards_short [] = omega arith
cards_short (card ∷ cards) = omega (arith, cards_short cards, length-append (card_text card) (text_of cards), length-append (card.letter ∷ spelled card.args) (10 ∷ body_text card.body))

-- the cards of a text are those that reading finds
pub read-from_cards : (text : List ℕ) (cards : List Card) → IsCards text cards → cards_from (length text) text ≡ Some cards
read-from_cards text cards h =
    let P : List ℕ → Type 0 = λ t. cards_from (length t) t ≡ Some cards in
    subst P (sym h.spelled) (cards_again cards (length (text_of cards)) h.each (cards_short cards))

abbrev some_cards : List Card → Option (List Card)
some_cards cards = Some cards

some_is : (a b : List Card) → some_cards a ≡ some_cards b → a ≡ b
some_is a b e = cc

-- a text is the cards of one list at most
pub unambiguous : (text : List ℕ) (a b : List Card) → IsCards text a → IsCards text b → a ≡ b
unambiguous text a b h k = some_is a b (sym (read-from_cards text a h) ∙ read-from_cards text b k)
