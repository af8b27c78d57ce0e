-- What is written reads back.
use Rattle.std.proofs.Common.{◌≡◌, ℕ, ◌+◌, ◌^◌, ◌<◌, Bool, true, false, cond, List, [], ◌∷◌, ◌++◌, length, map, option_map, Some, None, refl, sym, ap, subst, ◌∙◌, append_assoc, arith}
use Rattle.std.specs.Prelude.{◌==◌, ◌&&◌, ◌||◌, not, decimal, flat_map}
use Rattle.std.specs.List.{list_all, join_with_byte, slice_split, filter, onto_first, AllByRecursion}
use Rattle.std.proofs.lemmas.List.Folds.{list_all-append, list_any-append}
use Rattle.std.proofs.lemmas.Bool.{and_from, not-true}
use Rattle.fsl_order.proofs.Booleans.{first_holds, second_holds}
use Rattle.fsl_text.specs.Bytes.{is_empty, is_newline}
use Rattle.fsl_text.specs.Lines.{has_newline}
use Rattle.fsl_text.specs.Escapes.{escape, escaped_byte, unescape}
use Rattle.fsl_text.specs.Tokens.{is_blank, tokens_of}
use Rattle.fsl_text.specs.Decimals.{IsDecimal, is_decimal_digit}
use Rattle.fsl_text.proofs.Bytewise.{weaker}
use Rattle.fsl_text.proofs.DecimalTexts.{decimal_is, fits}
use Rattle.fsl_text.proofs.Unescaping.{unescape-escape}
use Rattle.fsl_name.specs.Name.{IsName, name_text, name_in, is_name_digit, are_digits}
use Rattle.fsl_name.proofs.ReadAgain.{name_again}
use Rattle.fsl_wire.specs.declared.WireCard.{WireCard}
use Rattle.fsl_wire.specs.declared.WireCard.TheVariants.{Login, Push, Pull, Clone, CloneSeqno, File, Private, Igot, Gimme, Error, Message, SendPrivate}
use Rattle.fsl_wire.specs.Lines.{Line, card, file, number_in, meant_by_tokens, line_meant, card_or_bad, clone_card, igot_card, named_line, sized_line}
use Rattle.fsl_wire.specs.Messages.{Part, part_bytes, parts_bytes, ContentFits, IsPart, cards_from, numbered, line_cards}
use Rattle.fsl_wire.specs.Writing.{card_tokens, card_content, card_bytes, message_bytes, is_token, is_writable, IsOfType, IsReadBack}

-- ---- tests

-- ---- tokens that are joined are the tokens of the line

abbrev solid : ℕ → Bool
solid b = not (is_blank b) && not (is_newline b)

abbrev Solid : List ℕ → Type 0
Solid text = list_all solid text ≡ true

abbrev Tokens : List (List ℕ) → Type 0
Tokens ts = AllByRecursion (λ t. is_token t ≡ true) ts

split_before : (t rest : List ℕ) → Solid t → slice_split is_blank (t ++ 32 ∷ rest) ≡ t ∷ slice_split is_blank rest
split_before [] rest h = refl
split_before (b ∷ t) rest h =
    let no_blank : is_blank b ≡ false = not-true (is_blank b) (first_holds (not (is_blank b)) (not (is_newline b)) (first_holds (solid b) (list_all solid t) h)) in
    rw no_blank (ap (onto_first b) (split_before t rest (second_holds (solid b) (list_all solid t) h)))

split_alone : (t : List ℕ) → Solid t → slice_split is_blank t ≡ t ∷ []
split_alone [] h = refl
split_alone (b ∷ t) h =
    let no_blank : is_blank b ≡ false = not-true (is_blank b) (first_holds (not (is_blank b)) (not (is_newline b)) (first_holds (solid b) (list_all solid t) h)) in
    rw no_blank (ap (onto_first b) (split_alone t (second_holds (solid b) (list_all solid t) h)))

abbrev filled : List (List ℕ) → List (List ℕ)
filled parts = filter (λ part. not (is_empty part)) parts

kept : (t : List ℕ) (parts : List (List ℕ)) → not (is_empty t) ≡ true → filled (t ∷ parts) ≡ t ∷ filled parts
kept t parts e = rw e refl

joined : (ts : List (List ℕ)) → Tokens ts → tokens_of (join_with_byte 32 ts) ≡ ts
joined [] h = refl
joined (t ∷ []) h =
    ap filled (split_alone t (second_holds (not (is_empty t)) (list_all solid t) h.0)) ∙ kept t [] (first_holds (not (is_empty t)) (list_all solid t) h.0)
joined (t ∷ u ∷ ts) h =
    ap filled (split_before t (join_with_byte 32 (u ∷ ts)) (second_holds (not (is_empty t)) (list_all solid t) h.0))
    ∙ kept t (slice_split is_blank (join_with_byte 32 (u ∷ ts))) (first_holds (not (is_empty t)) (list_all solid t) h.0)
    ∙ ap (λ (l : List (List ℕ)). t ∷ l) (joined (u ∷ ts) h.1)

no_newline_in : (t : List ℕ) → Solid t → has_newline t ≡ false
no_newline_in [] h = refl
no_newline_in (b ∷ t) h =
    let e : is_newline b ≡ false = not-true (is_newline b) (second_holds (not (is_blank b)) (not (is_newline b)) (first_holds (solid b) (list_all solid t) h)) in
    λ i. e i || no_newline_in t (second_holds (solid b) (list_all solid t) h) i

no_newline : (ts : List (List ℕ)) → Tokens ts → has_newline (join_with_byte 32 ts) ≡ false
no_newline [] h = refl
no_newline (t ∷ []) h = no_newline_in t (second_holds (not (is_empty t)) (list_all solid t) h.0)
no_newline (t ∷ u ∷ ts) h =
    list_any-append is_newline t (32 ∷ join_with_byte 32 (u ∷ ts))
    ∙ (λ i. no_newline_in t (second_holds (not (is_empty t)) (list_all solid t) h.0) i || no_newline (u ∷ ts) h.1 i)

-- ---- numbers

number_of : (text : List ℕ) (n : ℕ) → IsDecimal text n → n < 2 ^ 64 → number_in text ≡ Some n
number_of text n h lt =
    let some : is_empty text ≡ false = not-true (is_empty text) (first_holds (not (is_empty text)) (list_all is_decimal_digit text) h.0) in
    let digits : list_all is_decimal_digit text ≡ true = second_holds (not (is_empty text)) (list_all is_decimal_digit text) h.0 in
    rw (some, digits, h.1, fits n lt) refl

number_again : (n : ℕ) → n < 2 ^ 64 → number_in (decimal n) ≡ Some n
number_again n h = number_of (decimal n) n (decimal_is n h) h

-- ---- tokens of a card

digit_solid : (b : ℕ) → is_decimal_digit b ≡ true → solid b ≡ true
digit_solid b h = grind (arith, h)

name_digit_solid : (b : ℕ) → is_name_digit b ≡ true → solid b ≡ true
name_digit_solid b h = grind (arith, h)

token-decimal : (n : ℕ) → n < 2 ^ 64 → is_token (decimal n) ≡ true
token-decimal n h =
    let text = (decimal_is n h).0 in
    and_from (not (is_empty (decimal n))) (list_all solid (decimal n)) (first_holds (not (is_empty (decimal n))) (list_all is_decimal_digit (decimal n)) text)
    (weaker is_decimal_digit solid digit_solid (decimal n) (second_holds (not (is_empty (decimal n))) (list_all is_decimal_digit (decimal n)) text))

digits_of_name : (text name : List ℕ) (b : Bool) → are_digits 40 text ≡ b → name_in text ≡ Some name → are_digits 40 text ≡ true
digits_of_name text name true e h = e
digits_of_name text name false e h = let s : None ≡ Some name = sym (rw e refl) ∙ h in cc

some_of_length : (text : List ℕ) → (length text == 40) ≡ true → not (is_empty text) ≡ true
some_of_length [] e = cc
some_of_length (b ∷ text) e = refl

token-name : (name : List ℕ) → IsName name → is_token (name_text name) ≡ true
token-name name h =
    let text = name_text name in
    let digits = digits_of_name text name (are_digits 40 text) refl (name_again name h) in
    and_from (not (is_empty text)) (list_all solid text) (some_of_length text (first_holds (length text == 40) (list_all is_name_digit text) digits))
    (weaker is_name_digit solid name_digit_solid text (second_holds (length text == 40) (list_all is_name_digit text) digits))

plain_solid : (b : ℕ) → (b == 32) ≡ false → (b == 10) ≡ false → (b == 9) ≡ false → (b == 13) ≡ false → list_all solid (b ∷ []) ≡ true
plain_solid b s n t r = rw (s, n, t, r) refl

abbrev chosen : ℕ → Bool → Bool → Bool → Bool → Bool → Bool → Bool → Bool → List ℕ
chosen b s n k t r v f z =
    cond s (92 ∷ 115 ∷ []) (cond n (92 ∷ 110 ∷ []) (cond k (92 ∷ 92 ∷ []) (cond t (92 ∷ 116 ∷ []) (cond r (92 ∷ 114 ∷ []) (cond v (92 ∷ 118 ∷ []) (cond f (92 ∷ 102 ∷ []) (cond z (92 ∷ 48 ∷ []) (b ∷ []))))))))

chosen_solid : (b : ℕ) (s n k t r v f z : Bool) → (b == 32) ≡ s → (b == 10) ≡ n → (b == 9) ≡ t → (b == 13) ≡ r → list_all solid (chosen b s n k t r v f z) ≡ true
chosen_solid b true n k t r v f z es en et er = refl
chosen_solid b false true k t r v f z es en et er = refl
chosen_solid b false false true t r v f z es en et er = refl
chosen_solid b false false false true r v f z es en et er = refl
chosen_solid b false false false false true v f z es en et er = refl
chosen_solid b false false false false false true f z es en et er = refl
chosen_solid b false false false false false false true z es en et er = refl
chosen_solid b false false false false false false false true es en et er = refl
chosen_solid b false false false false false false false false es en et er = plain_solid b es en et er

escaped_solid : (b : ℕ) → list_all solid (escaped_byte b) ≡ true
escaped_solid b = chosen_solid b (b == 32) (b == 10) (b == 92) (b == 9) (b == 13) (b == 11) (b == 12) (b == 0) refl refl refl refl

escape_solid : (text : List ℕ) → Solid (escape text)
escape_solid [] = refl
escape_solid (b ∷ text) = list_all-append solid (escaped_byte b) (escape text) ∙ (λ i. escaped_solid b i && escape_solid text i)

some_escaped : (text written : List ℕ) → escape text ≡ written → not (is_empty text) ≡ true → not (is_empty written) ≡ true
some_escaped text [] e h =
    let none : text ≡ [] = sym (unescape-escape text) ∙ ap unescape e in
    let s = sym (ap (λ (t : List ℕ). not (is_empty t)) none) ∙ h in cc
some_escaped text (b ∷ written) e h = refl

token-escape : (text : List ℕ) → not (is_empty text) ≡ true → is_token (escape text) ≡ true
token-escape text h = and_from (not (is_empty (escape text))) (list_all solid (escape text)) (some_escaped text (escape text) refl h) (escape_solid text)

are_tokens : (c : WireCard) → IsOfType c → is_writable c ≡ true → Tokens (card_tokens c)
are_tokens (Login user nonce signature tail line) h w = cc
are_tokens (Push server project) h w = (refl, (first_holds (is_token server) (is_token project) w, (second_holds (is_token server) (is_token project) w, tt)))
are_tokens (Pull server project) h w = (refl, (first_holds (is_token server) (is_token project) w, (second_holds (is_token server) (is_token project) w, tt)))
are_tokens (Clone None) h w = (refl, tt)
are_tokens (Clone (Some numbers)) h w = (refl, (token-decimal numbers.0 h.0, (token-decimal numbers.1 h.1, tt)))
are_tokens (CloneSeqno next) h w = (refl, (token-decimal next h, tt))
are_tokens (File name bytes) h w = (refl, (token-name name h.0, (token-decimal (length bytes) h.1, tt)))
are_tokens Private h w = (refl, tt)
are_tokens (Igot name true) h w = (refl, (token-name name h, (refl, tt)))
are_tokens (Igot name false) h w = (refl, (token-name name h, tt))
are_tokens (Gimme name) h w = (refl, (token-name name h, tt))
are_tokens (Error text) h w = (refl, (token-escape text w, tt))
are_tokens (Message text) h w = (refl, (token-escape text w, tt))
are_tokens SendPrivate h w = (refl, (refl, tt))

-- ---- the line of a card

abbrev meant : WireCard → Line
meant (File name bytes) = file name (length bytes)
meant c = card c

abbrev content_of : WireCard → List ℕ
content_of (File name bytes) = bytes
content_of c = []

abbrev behind : WireCard → List Part
behind (File name bytes) = record { line = []; content = [] } ∷ []
behind c = []

abbrev line_of : WireCard → List ℕ
line_of c = join_with_byte 32 (card_tokens c)

abbrev part_of : WireCard → Part
part_of c = record { line = line_of c; content = content_of c }

abbrev parts_of : WireCard → List Part
parts_of c = part_of c ∷ behind c

tokens_meant : (c : WireCard) → IsOfType c → is_writable c ≡ true → meant_by_tokens (card_tokens c) ≡ meant c
tokens_meant (Login user nonce signature tail line) h w = cc
tokens_meant (Push server project) h w = refl
tokens_meant (Pull server project) h w = refl
tokens_meant (Clone None) h w = refl
tokens_meant (Clone (Some numbers)) h w = λ i. card_or_bad (clone_card (number_again numbers.0 h.0 i) (number_again numbers.1 h.1 i))
tokens_meant (CloneSeqno next) h w = λ i. card_or_bad (option_map CloneSeqno (number_again next h i))
tokens_meant (File name bytes) h w = λ i. named_line (name_again name h.0 i) (λ n. sized_line n (number_again (length bytes) h.1 i))
tokens_meant Private h w = refl
tokens_meant (Igot name true) h w = λ i. card_or_bad (igot_card (name_again name h i) (Some true))
tokens_meant (Igot name false) h w = λ i. card_or_bad (igot_card (name_again name h i) (Some false))
tokens_meant (Gimme name) h w = λ i. card_or_bad (option_map Gimme (name_again name h i))
tokens_meant (Error text) h w = λ i. card (Error (unescape-escape text i))
tokens_meant (Message text) h w = λ i. card (Message (unescape-escape text i))
tokens_meant SendPrivate h w = refl

line_is : (c : WireCard) → IsOfType c → is_writable c ≡ true → line_meant (line_of c) ≡ meant c
line_is c h w = ap meant_by_tokens (joined (card_tokens c) (are_tokens c h w)) ∙ tokens_meant c h w

content_fits : (c : WireCard) → ContentFits (meant c) (content_of c)
content_fits (Login user nonce signature tail line) = refl
content_fits (Push server project) = refl
content_fits (Pull server project) = refl
content_fits (Clone from) = refl
content_fits (CloneSeqno next) = refl
content_fits (File name bytes) = refl
content_fits Private = refl
content_fits (Igot name private) = refl
content_fits (Gimme name) = refl
content_fits (Error text) = refl
content_fits (Message text) = refl
content_fits SendPrivate = refl

behind_reads : (c : WireCard) → AllByRecursion IsPart (behind c)
behind_reads (Login user nonce signature tail line) = tt
behind_reads (Push server project) = tt
behind_reads (Pull server project) = tt
behind_reads (Clone from) = tt
behind_reads (CloneSeqno next) = tt
behind_reads (File name bytes) = (record { one_line = refl; content = refl }, tt)
behind_reads Private = tt
behind_reads (Igot name private) = tt
behind_reads (Gimme name) = tt
behind_reads (Error text) = tt
behind_reads (Message text) = tt
behind_reads SendPrivate = tt

content_is : (c : WireCard) → card_content c ≡ content_of c ++ parts_bytes (behind c)
content_is (Login user nonce signature tail line) = refl
content_is (Push server project) = refl
content_is (Pull server project) = refl
content_is (Clone from) = refl
content_is (CloneSeqno next) = refl
content_is (File name bytes) = refl
content_is Private = refl
content_is (Igot name private) = refl
content_is (Gimme name) = refl
content_is (Error text) = refl
content_is (Message text) = refl
content_is SendPrivate = refl

its_card : (c : WireCard) (n : ℕ) (rest : List ℕ) → line_cards (meant c) n (content_of c) rest ≡ c ∷ []
its_card (Login user nonce signature tail line) n rest = refl
its_card (Push server project) n rest = refl
its_card (Pull server project) n rest = refl
its_card (Clone from) n rest = refl
its_card (CloneSeqno next) n rest = refl
its_card (File name bytes) n rest = refl
its_card Private n rest = refl
its_card (Igot name private) n rest = refl
its_card (Gimme name) n rest = refl
its_card (Error text) n rest = refl
its_card (Message text) n rest = refl
its_card SendPrivate n rest = refl

bytes_are : (c : WireCard) → card_bytes c ≡ parts_bytes (parts_of c)
bytes_are c = ap (λ (t : List ℕ). line_of c ++ 10 ∷ t) (content_is c) ∙ sym (append_assoc (line_of c) (10 ∷ content_of c) (parts_bytes (behind c)))

part_reads : (c : WireCard) → IsOfType c → is_writable c ≡ true → IsPart (part_of c)
part_reads c h w =
    record {
      one_line = ap not (no_newline (card_tokens c) (are_tokens c h w));
      content = subst (λ (l : Line). ContentFits l (content_of c)) (sym (line_is c h w)) (content_fits c);
    }

-- ---- the message

abbrev all_parts : List WireCard → List Part
all_parts cards = flat_map parts_of cards

parts_append : (ps qs : List Part) → parts_bytes (ps ++ qs) ≡ parts_bytes ps ++ parts_bytes qs
parts_append [] qs = refl
parts_append (p ∷ ps) qs = ap (λ (t : List ℕ). part_bytes p ++ t) (parts_append ps qs) ∙ sym (append_assoc (part_bytes p) (parts_bytes ps) (parts_bytes qs))

message_is : (cards : List WireCard) → message_bytes cards ≡ parts_bytes (all_parts cards)
message_is [] = refl
message_is (c ∷ cards) = (λ i. bytes_are c i ++ message_is cards i) ∙ sym (parts_append (parts_of c) (all_parts cards))

all_append : (ps qs : List Part) → AllByRecursion IsPart ps → AllByRecursion IsPart qs → AllByRecursion IsPart (ps ++ qs)
all_append [] qs h k = k
all_append (p ∷ ps) qs h k = (h.0, all_append ps qs h.1 k)

all_read : (cards : List WireCard) → AllByRecursion IsOfType cards → list_all is_writable cards ≡ true → AllByRecursion IsPart (all_parts cards)
all_read [] h w = tt
all_read (c ∷ cards) h w =
    all_append (parts_of c) (all_parts cards) (part_reads c h.0 (first_holds (is_writable c) (list_all is_writable cards) w), behind_reads c)
    (all_read cards h.1 (second_holds (is_writable c) (list_all is_writable cards) w))

abbrev cards_in : ℕ → List Part → List WireCard
cards_in n parts = map (λ (l : ℕ × WireCard). l.1) (cards_from n parts [])

none_behind : (c : WireCard) (n : ℕ) (parts : List Part) (cards : List WireCard) → ((m : ℕ) → cards_in m parts ≡ cards) → cards_in n (behind c ++ parts) ≡ cards
none_behind (Login user nonce signature tail line) n parts cards h = h n
none_behind (Push server project) n parts cards h = h n
none_behind (Pull server project) n parts cards h = h n
none_behind (Clone from) n parts cards h = h n
none_behind (CloneSeqno next) n parts cards h = h n
none_behind (File name bytes) n parts cards h = h (n + 1)
none_behind Private n parts cards h = h n
none_behind (Igot name private) n parts cards h = h n
none_behind (Gimme name) n parts cards h = h n
none_behind (Error text) n parts cards h = h n
none_behind (Message text) n parts cards h = h n
none_behind SendPrivate n parts cards h = h n

first_card : (c : WireCard) → IsOfType c → is_writable c ≡ true → (n : ℕ) (parts : List Part) → cards_in n (part_of c ∷ parts) ≡ c ∷ cards_in (n + 1) parts
first_card c h w n parts =
    let rest = content_of c ++ parts_bytes parts ++ [] in
    let one : line_cards (line_meant (line_of c)) n (content_of c) rest ≡ c ∷ [] = ap (λ (l : Line). line_cards l n (content_of c) rest) (line_is c h w) ∙ its_card c n rest in
    λ i. map (λ (l : ℕ × WireCard). l.1) (numbered n (one i) ++ cards_from (n + 1) parts [])

cards_back : (cards : List WireCard) → AllByRecursion IsOfType cards → list_all is_writable cards ≡ true → (n : ℕ) → cards_in n (all_parts cards) ≡ cards
cards_back [] h w n = refl
cards_back (c ∷ cards) h w n =
    first_card c h.0 (first_holds (is_writable c) (list_all is_writable cards) w) n (behind c ++ all_parts cards)
    ∙ ap (λ (cs : List WireCard). c ∷ cs) (none_behind c (n + 1) (all_parts cards) cards (cards_back cards h.1 (second_holds (is_writable c) (list_all is_writable cards) w)))

none_after : (text : List ℕ) → text ++ [] ≡ text
none_after [] = refl
none_after (b ∷ text) = ap (λ (t : List ℕ). b ∷ t) (none_after text)

pub is_read_back : IsReadBack
is_read_back cards h w =
    let parts = all_parts cards in (
      cards_from 1 parts [],
      (parts, [], message_is cards ∙ sym (none_after (parts_bytes parts)), all_read cards h w, record { one_line = refl; ends = tt }, refl),
      sym (cards_back cards h w 1),
    )
