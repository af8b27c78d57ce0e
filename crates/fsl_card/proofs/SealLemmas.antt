-- Facts on the Z card.
use Rattle.std.proofs.Common.{◌≡◌, ℕ, zero, suc, ◌+◌, ◌-◌, ◌/◌, ◌%◌, ◌<◌, ◌≤◌, Bool, true, false, List, [], ◌∷◌, ◌++◌, length, take, drop, get_or, None, refl, sym, ap, subst, ◌∙◌, append_assoc, arith}
use Rattle.std.specs.Prelude.{codes, nat_lt, nat_le, slice_index}
use Rattle.std.specs.List.{list_all, AllByRecursion}
use Rattle.std.specs.Int.{w32, to_le_bytes}
use Rattle.std.proofs.lemmas.Bool.{agree_below_at, both_ways, eqb-false, leb-true, lt-ltb, ltb-true, not-true, or_left}
use Rattle.std.proofs.lemmas.List.{append-nil, append_cancel_right, drop_all, drop_at, drop_more, length-append, take_at, take-append-drop}
use Rattle.std.proofs.lemmas.List.Folds.{list_all-append}
use Rattle.md5.specs.Md5.{md5, digest_bytes}
use Rattle.md5.proofs.StandardFacts.{length-md5}
use Rattle.hex.specs.Hex.{encode_lower, encode_with, lower_digits}
use Rattle.hex.proofs.HexLemmas.{length-encode_with}
use Rattle.fsl_order.proofs.Booleans.{first_holds, second_holds}
use Rattle.fsl_card.specs.declared.types.Card.{Card}
use Rattle.fsl_card.specs.Cards.{IsCard, IsCards, in_order, is_argument, is_argument_byte, may_follow, seal, text_of}
use Rattle.fsl_card.specs.Writing.{IsFinished, IsReadBack, finished, is_before_seal}
use Rattle.fsl_card.specs.Parts.{AreOrdered, may_follow_all, seal_line}
use Rattle.fsl_card.proofs.CardLemmas.{AllByRecursion-push, cards_prefix, in_order-left, in_order-push, text_of-push}

-- ---- the digits

abbrev pub digits_of : List ℕ → List ℕ
digits_of bytes = encode_lower (md5 bytes)

pub length-digits_of : (bytes : List ℕ) → length (digits_of bytes) ≡ 32
length-digits_of bytes = omega (arith, length-encode_with lower_digits (md5 bytes), length-md5 bytes)

abbrev is_byte : ℕ → Bool
is_byte b = nat_lt b 256

rest_is_byte : (n : ℕ) → is_byte (n % 256) ≡ true
rest_is_byte n = lt-ltb (n % 256) 256 (omega arith)

le_bytes : (n : ℕ) → list_all is_byte (to_le_bytes w32 n) ≡ true
le_bytes n = rw (rest_is_byte n, rest_is_byte (n / 256), rest_is_byte (n / 65536), rest_is_byte (n / 16777216)) refl

digest_is_bytes : (h : List ℕ) (n : ℕ) → list_all is_byte (digest_bytes h n) ≡ true
unfolding digest_bytes
digest_is_bytes h zero = refl
digest_is_bytes h (suc n) =
    list_all-append is_byte (digest_bytes h n) (to_le_bytes w32 (slice_index h n)) ∙ rw (digest_is_bytes h n, le_bytes (slice_index h n)) refl

md5_is_bytes : (bytes : List ℕ) → list_all is_byte (md5 bytes) ≡ true
unfolding md5
md5_is_bytes bytes = digest_is_bytes _ 4

-- each of the sixteen digits may stand in an argument
digit_stands : (k : ℕ) → k < 16 → is_argument_byte (slice_index lower_digits k) ≡ true
digit_stands k h = agree_below_at (λ j. is_argument_byte (slice_index lower_digits j)) (λ j. true) 16 k refl h

digits_stand : (bytes : List ℕ) → list_all is_byte bytes ≡ true → list_all is_argument_byte (encode_lower bytes) ≡ true
unfolding encode_with
digits_stand [] h = refl
digits_stand (b ∷ bytes) h =
    let byte : b < 256 = ltb-true b 256 (first_holds (is_byte b) _ h) in
    let high = digit_stands (b / 16) (omega arith) in
    let low = digit_stands (b % 16) (omega arith) in
    rw (high, low, digits_stand bytes (second_holds (is_byte b) _ h)) refl

some_bytes : (xs : List ℕ) (n : ℕ) → length xs ≡ suc n → list_all is_argument_byte xs ≡ true → is_argument xs ≡ true
some_bytes [] n len h = absurd (omega arith)
some_bytes (x ∷ xs) n len h = h

pub IsCard-seal : (front : List Card) → IsCard (seal front)
IsCard-seal front =
    let argument : is_argument (digits_of (text_of front)) ≡ true = some_bytes (digits_of (text_of front)) 31 (length-digits_of (text_of front)) (digits_stand (md5 (text_of front)) (md5_is_bytes (text_of front))) in
    record { letter = refl; arguments = rw argument refl; body = refl }

-- ---- what is finished

pub finished_is : (front : List ℕ) → finished front ≡ front ++ seal_line (digits_of front)
finished_is front = append_assoc (front ++ codes "Z ") (digits_of front) (10 ∷ []) ∙ append_assoc front (codes "Z ") (digits_of front ++ 10 ∷ [])

pub is_finished : IsFinished
is_finished front =
    finished_is (text_of front) ∙ ap (λ (l : List ℕ). text_of front ++ (90 ∷ 32 ∷ l)) (inside (digits_of (text_of front)))
    ∙ text_of-push front (seal front) [] ∙ append-nil (text_of (front ++ seal front ∷ []))
  where
    inside : (digits : List ℕ) → digits ++ 10 ∷ [] ≡ ((digits ++ []) ++ 10 ∷ []) ++ []
    inside digits = sym (append-nil _ ∙ ap (λ (l : List ℕ). l ++ 10 ∷ []) (append-nil digits))

pub length-finished : (front : List ℕ) → length (finished front) ≡ length front + 35
length-finished front =
    ap length (finished_is front)
    ∙ omega (arith, length-append front (seal_line (digits_of front)), length-append (digits_of front) (10 ∷ []), length-digits_of front)

pub record IsApart (text front : List ℕ) : Type 0 where
  pub long : 35 ≤ length text
  pub before : take (length text - 35) text ≡ front
  pub behind : drop (length text - 35) text ≡ seal_line (digits_of front)

pub apart : (text front : List ℕ) → text ≡ finished front → IsApart text front
apart text front e =
    let len : length text ≡ length front + 35 = ap length e ∙ length-finished front in
    let n : length text - 35 ≡ length front = omega arith in
    let whole = e ∙ finished_is front in
    record {
      long = omega arith;
      before = ap (λ (k : ℕ). take k text) n ∙ ap (take (length front)) whole ∙ take_at front (seal_line (digits_of front)) (length front) refl;
      behind = ap (λ (k : ℕ). drop k text) n ∙ ap (drop (length front)) whole ∙ drop_at front (seal_line (digits_of front)) (length front) refl;
    }

pub seal_line-same : (a b : List ℕ) → seal_line a ≡ seal_line b → a ≡ b
seal_line-same a b e = append_cancel_right a b (10 ∷ []) (ap (drop 2) e)

-- a line has the form of a Z card
pub seal_line-from : (line : List ℕ) → length line ≡ 35 → get_or line 0 0 ≡ 90 → get_or line 1 0 ≡ 32 → get_or line 34 0 ≡ 10
    → line ≡ seal_line (take 32 (drop 2 line))
seal_line-from [] long a b c = absurd (omega arith)
seal_line-from (x ∷ []) long a b c = absurd (omega arith)
seal_line-from (x ∷ y ∷ rest) long a b c =
    let more : 32 < length rest = omega arith in
    let end : drop 32 rest ≡ 10 ∷ [] =
    drop_more rest 32 0 more ∙ ap (λ (h : ℕ). h ∷ drop 33 rest) c ∙ ap (λ (t : List ℕ). 10 ∷ t) (drop_all 33 rest (omega arith)) in
    ap (λ (h : ℕ). h ∷ y ∷ rest) a ∙ ap (λ (h : ℕ). 90 ∷ h ∷ rest) b ∙ ap (λ (t : List ℕ). 90 ∷ 32 ∷ t) (sym (take-append-drop 32 rest) ∙ ap (λ (t : List ℕ). take 32 rest ++ t) end)

-- ---- whole texts

-- the Z card with these digits
abbrev pub z_card : List ℕ → Card
z_card digits = record { letter = 90; args = digits ∷ []; body = None }

-- the card behind cards in order is theirs
pub sealed_cards : (text front : List ℕ) (cards all : List Card) (last : Card) → text ≡ finished front → AreOrdered front cards
    → last ≡ z_card (digits_of front) → may_follow_all cards last ≡ true → all ≡ cards ++ last ∷ [] → IsCards text all
sealed_cards text front cards all last e are is follows whole =
    let last_is : last ≡ seal cards = is ∙ ap (λ (t : List ℕ). z_card (digits_of t)) are.spelled in
    let all_is : all ≡ cards ++ seal cards ∷ [] = whole ∙ ap (λ (c : Card). cards ++ c ∷ []) last_is in
    let P : List Card → Type 0 = λ l. IsCards text l in
    let F : Card → Type 0 = λ c. may_follow_all cards c ≡ true in
    subst P (sym all_is) (record {
      spelled = e ∙ ap finished are.spelled ∙ is_finished cards;
      each = AllByRecursion-push IsCard cards (seal cards) are.each (IsCard-seal cards);
      ordered = in_order-push cards (seal cards) ∙ rw (are.ordered, subst F last_is follows) refl;
      sealed = (cards, refl);
    })

AllByRecursion-left : (front : List Card) (last : Card) → AllByRecursion IsCard (front ++ last ∷ []) → AllByRecursion IsCard front
AllByRecursion-left [] last each = tt
AllByRecursion-left (c ∷ cs) last each = (each.0, AllByRecursion-left cs last each.1)

-- cards without their Z card
pub record IsUnsealed (front : List ℕ) (all : List Card) : Type 0 where
  pub cards : List Card
  pub are : AreOrdered front cards
  pub follows : may_follow_all cards (seal cards) ≡ true

pub text_is_finished : (text : List ℕ) (all : List Card) → (is : IsCards text all) → text ≡ finished (text_of is.sealed.0)
text_is_finished text all is = is.spelled ∙ ap text_of is.sealed.1 ∙ sym (is_finished is.sealed.0)

pub unsealed : (text front : List ℕ) (all : List Card) → text ≡ finished front → IsCards text all → IsUnsealed front all
unsealed text front all e is =
    let cards : List Card = is.sealed.0 in
    let other = text_is_finished text all is in
    let same : front ≡ text_of cards = sym (apart text front e).before ∙ (apart text (text_of cards) other).before in
    let E : List Card → Type 0 = λ l. AllByRecursion IsCard l in
    let O : List Card → Type 0 = λ l. in_order l ≡ true in
    let order : in_order (cards ++ seal cards ∷ []) ≡ true = subst O is.sealed.1 is.ordered in
    record {
      cards = cards;
      are = record { spelled = same; each = AllByRecursion-left cards (seal cards) (subst E is.sealed.1 is.each); ordered = in_order-left cards (seal cards ∷ []) order };
      follows = second_holds (in_order cards) _ (sym (in_order-push cards (seal cards)) ∙ order);
    }

-- one text is one list of ordered cards
ordered_same : (text : List ℕ) (cs ds : List Card) → AreOrdered text cs → AreOrdered text ds → cs ≡ ds
ordered_same text cs ds ic id =
    let left = cards_prefix cs ds [] ic.each id.each (append-nil (text_of cs) ∙ sym ic.spelled ∙ id.spelled) in
    none_left left.more left.is left.rest
  where
    some_byte : (m : Card) (more : List Card) → [] ≡ text_of (m ∷ more) → ⊥
    some_byte m more e = cc

    none_left : (more : List Card) → ds ≡ cs ++ more → [] ≡ text_of more → cs ≡ ds
    none_left [] is rest = sym (append-nil cs) ∙ sym is
    none_left (m ∷ more) is rest = absurd (some_byte m more rest)

-- where a Z card may not follow the cards of a text, it is no text of cards
pub not_sealed : (text front : List ℕ) (cards : List Card) (last : Card) → text ≡ finished front → AreOrdered front cards
    → last ≡ z_card (digits_of front) → may_follow_all cards last ≡ false → (all : List Card) → IsCards text all → ⊥
not_sealed text front cards last e are is falls all whole =
    let u = unsealed text front all e whole in
    let same = ordered_same front cards u.cards are u.are in
    let last_is : last ≡ seal u.cards = is ∙ ap (λ (t : List ℕ). z_card (digits_of t)) u.are.spelled in
    both_ways (may_follow_all cards last) falls (ap (λ (c : Card). may_follow_all cards c) last_is ∙ ap (λ (l : List Card). may_follow_all l (seal u.cards)) same ∙ u.follows)

-- ---- the law

seal_follows_one : (card : Card) (front : List Card) → IsCard card → is_before_seal card ≡ true → may_follow card (seal front) ≡ true
seal_follows_one card front is before =
    let le : card.letter ≤ 90 = leb-true card.letter 90 (second_holds (nat_le 65 card.letter) _ is.letter) in
    let ne : card.letter ≡ 90 → ⊥ = eqb-false card.letter 90 (not-true _ before) in
    or_left (nat_lt card.letter 90) _ (lt-ltb card.letter 90 (omega arith))

seal_follows : (cards front : List Card) → AllByRecursion IsCard cards → list_all is_before_seal cards ≡ true → may_follow_all cards (seal front) ≡ true
seal_follows [] front each before = refl
seal_follows (a ∷ []) front each before = seal_follows_one a front each.0 (first_holds (is_before_seal a) _ before)
seal_follows (a ∷ b ∷ cards) front each before = seal_follows (b ∷ cards) front each.1 (second_holds (is_before_seal a) _ before)

pub is_read_back : IsReadBack
is_read_back front each order before =
    record {
      spelled = refl;
      each = AllByRecursion-push IsCard front (seal front) each (IsCard-seal front);
      ordered = in_order-push front (seal front) ∙ rw (order, seal_follows front front each before) refl;
      sealed = (front, refl);
    }
