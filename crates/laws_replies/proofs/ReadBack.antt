-- The text of a reply is the message of its cards, each of which can be written.
use Rattle.std.specs.Prelude.{◌≡◌, ◌&&◌, ℕ, ◌<◌, ◌^◌, Bool, true, false, not, List, [], ◌∷◌, ◌++◌, length, map, take, flat_map, option_to_list, codes, decimal, IsTrue, if◌then◌else◌}
use Rattle.std.proofs.Common.{refl, sym, ap, subst, ◌∙◌, append-nil, append_assoc, arith}
use Rattle.std.specs.List.{list_all, join_with_byte, AllByRecursion}
use Rattle.std.proofs.lemmas.Bool.{and_from}
use Rattle.std.proofs.lemmas.List.Concat.{flat_map-append}
use Rattle.std.proofs.lemmas.List.Folds.{flat_map-map}
use Rattle.fsl_order.proofs.Booleans.{first_holds, second_holds}
use Rattle.fsl_text.specs.Bytes.{is_empty, is_newline}
use Rattle.fsl_text.specs.Tokens.{is_blank}
use Rattle.fsl_name.specs.Name.{IsName, name_text, is_name_digit}
use Rattle.fsl_name.proofs.ReadAgain.{digits_all, length_digits}
use Rattle.fsl_wire.specs.declared.WireCard.{WireCard}
use Rattle.fsl_wire.specs.declared.WireCard.TheVariants.{Push, CloneSeqno, File, Private, Igot, Gimme, Error}
use Rattle.fsl_wire.specs.Writing.{card_bytes, message_bytes, is_token, is_writable, IsOfType, IsReadBack}
use Rattle.fsl_wire.specs.Messages.{IsMessage}
use Rattle.fsl_answer.specs.declared.SentFile.{SentFile}
use Rattle.fsl_answer.specs.declared.Lists.{Lists}
use Rattle.fsl_answer.specs.Replies.{line, error_line, push_line, igot_line, gimme_line, file_lines, seqno_line, reply_text}
use Rattle.laws_replies.specs.Replies.{file_cards, cards_of, AreLists, RepliesRead}
use Rattle.laws_replies.proofs.Among.{all_take, all_append}

-- ---- the text

-- the line of a file without its newline, and with it
abbrev named : SentFile → List ℕ
named f = join_with_byte 32 (codes "file" ∷ name_text f.name ∷ decimal (length f.bytes) ∷ [])

abbrev file_line : SentFile → List ℕ
file_line f = line (codes "file" ∷ name_text f.name ∷ decimal (length f.bytes) ∷ [])

file_is : (f : SentFile) → file_line f ++ (f.bytes ++ 10 ∷ []) ≡ flat_map card_bytes (File f.name f.bytes ∷ [])
file_is f = append_assoc (named f) (10 ∷ []) (f.bytes ++ 10 ∷ []) ∙ sym (append-nil (card_bytes (File f.name f.bytes)))

file_text : (f : SentFile) → file_lines f ≡ flat_map card_bytes (file_cards f)
file_text f = by f.private
  where
    by : (b : Bool) → (if b then line (codes "private" ∷ []) else []) ++ file_line f ++ f.bytes ++ 10 ∷ [] ≡ flat_map card_bytes ((if b then Private ∷ [] else []) ++ File f.name f.bytes ∷ [])
    by true =
        let front = line (codes "private" ∷ []) in
        append_assoc (front ++ file_line f) f.bytes (10 ∷ []) ∙ append_assoc front (file_line f) (f.bytes ++ 10 ∷ []) ∙ ap (λ (text : List ℕ). front ++ text) (file_is f)
    by false = append_assoc (file_line f) f.bytes (10 ∷ []) ∙ file_is f

files_text : (fs : List SentFile) → flat_map file_lines fs ≡ flat_map card_bytes (flat_map file_cards fs)
files_text [] = refl
files_text (f ∷ fs) = (λ i. file_text f i ++ files_text fs i) ∙ sym (flat_map-append card_bytes (file_cards f) (flat_map file_cards fs))

-- lists of cards one behind the other
joined : (a b : List WireCard) (s t : List ℕ) → flat_map card_bytes a ≡ s → flat_map card_bytes b ≡ t → s ++ t ≡ flat_map card_bytes (a ++ b)
joined a b s t e f = (λ i. sym e i ++ sym f i) ∙ sym (flat_map-append card_bytes a b)

written : (l : Lists) → reply_text l ≡ message_bytes (cards_of l)
written l =
    let push = λ (c : List ℕ × List ℕ). Push (name_text c.0) (name_text c.1) in
    let told = λ (a : List ℕ × Bool). Igot a.0 a.1 in
    let e = map Error (take 100 l.notices) in
    let c = map push (option_to_list l.codes) in
    let h = map told l.igots in
    let g = map Gimme l.gimmes in
    let f = flat_map file_cards l.files in
    let q = map CloneSeqno (option_to_list l.sequel) in
    let two = joined e c (flat_map error_line (take 100 l.notices)) (flat_map push_line (option_to_list l.codes)) (flat_map-map card_bytes Error (take 100 l.notices)) (flat_map-map card_bytes push (option_to_list l.codes)) in
    let three = joined (e ++ c) h _ (flat_map igot_line l.igots) (sym two) (flat_map-map card_bytes told l.igots) in
    let four = joined (e ++ c ++ h) g _ (flat_map gimme_line l.gimmes) (sym three) (flat_map-map card_bytes Gimme l.gimmes) in
    let five = joined (e ++ c ++ h ++ g) f _ (flat_map file_lines l.files) (sym four) (sym (files_text l.files)) in
    joined (e ++ c ++ h ++ g ++ f) q _ (flat_map seqno_line (option_to_list l.sequel)) (sym five) (flat_map-map card_bytes CloneSeqno (option_to_list l.sequel))

-- ---- its cards

abbrev solid : ℕ → Bool
solid b = not (is_blank b) && not (is_newline b)

digits_solid : (text : List ℕ) → list_all is_name_digit text ≡ true → list_all solid text ≡ true
digits_solid [] h = refl
digits_solid (b ∷ text) h = and_from (solid b) (list_all solid text) (one (first_holds (is_name_digit b) (list_all is_name_digit text) h)) (digits_solid text (second_holds (is_name_digit b) (list_all is_name_digit text) h))
  where
    one : is_name_digit b ≡ true → solid b ≡ true
    one e = grind (arith, e)

some_bytes : (text : List ℕ) → length text ≡ 40 → not (is_empty text) ≡ true
some_bytes [] e = absurd (omega (arith, e))
some_bytes (b ∷ text) e = refl

name_is_token : (name : List ℕ) → IsName name → is_token (name_text name) ≡ true
name_is_token name h =
    and_from (not (is_empty (name_text name))) (list_all solid (name_text name)) (some_bytes (name_text name) (omega (arith, length_digits name, h.0))) (digits_solid (name_text name) (digits_all name h.1))

-- a card that the type keeps and that can be written
abbrev IsGood : WireCard → Type 0
IsGood c = IsOfType c × (is_writable c ≡ true)

abbrev AreGood : List WireCard → Type 0
AreGood cards = AllByRecursion IsGood cards

errors_good : (ns : List (List ℕ)) → AllByRecursion (λ n. IsTrue (not (is_empty n))) ns → AreGood (map Error ns)
errors_good [] h = tt
errors_good (n ∷ ns) h = ((tt, h.0), errors_good ns h.1)

codes_good : (cs : List (List ℕ × List ℕ)) → AllByRecursion (λ c. IsName c.0 × IsName c.1) cs → AreGood (map (λ c. Push (name_text c.0) (name_text c.1)) cs)
codes_good [] h = tt
codes_good (c ∷ cs) h = ((tt, and_from (is_token (name_text c.0)) (is_token (name_text c.1)) (name_is_token c.0 h.0.0) (name_is_token c.1 h.0.1)), codes_good cs h.1)

igots_good : (ns : List (List ℕ × Bool)) → AllByRecursion (λ a. IsName a.0) ns → AreGood (map (λ a. Igot a.0 a.1) ns)
igots_good [] h = tt
igots_good (n ∷ ns) h = ((h.0, refl), igots_good ns h.1)

gimmes_good : (ns : List (List ℕ)) → AllByRecursion IsName ns → AreGood (map Gimme ns)
gimmes_good [] h = tt
gimmes_good (n ∷ ns) h = ((h.0, refl), gimmes_good ns h.1)

file_good : (f : SentFile) → IsName f.name × (length f.bytes < 2 ^ 64) → AreGood (file_cards f)
file_good f h = by f.private
  where
    by : (b : Bool) → AreGood ((if b then Private ∷ [] else []) ++ File f.name f.bytes ∷ [])
    by true = ((tt, refl), ((h, refl), tt))
    by false = ((h, refl), tt)

files_good : (fs : List SentFile) → AllByRecursion (λ f. IsName f.name × (length f.bytes < 2 ^ 64)) fs → AreGood (flat_map file_cards fs)
files_good [] h = tt
files_good (f ∷ fs) h = all_append IsGood (file_cards f) (flat_map file_cards fs) (file_good f h.0) (files_good fs h.1)

sequel_good : (ns : List ℕ) → AllByRecursion (λ n. n < 2 ^ 64) ns → AreGood (map CloneSeqno ns)
sequel_good [] h = tt
sequel_good (n ∷ ns) h = ((h.0, refl), sequel_good ns h.1)

all_good : (l : Lists) → AreLists l → AreGood (cards_of l)
all_good l h =
    let good = all_append IsGood in
    let errors = errors_good (take 100 l.notices) (all_take (λ n. IsTrue (not (is_empty n))) 100 l.notices h.notices) in
    let two = good _ _ errors (codes_good (option_to_list l.codes) h.codes) in
    let three = good _ _ two (igots_good l.igots h.igots) in
    let four = good _ _ three (gimmes_good l.gimmes h.gimmes) in
    let five = good _ _ four (files_good l.files h.files) in
    good _ _ five (sequel_good (option_to_list l.sequel) h.sequel)

of_type : (cards : List WireCard) → AreGood cards → AllByRecursion IsOfType cards
of_type [] h = tt
of_type (c ∷ cards) h = (h.0.0, of_type cards h.1)

writable : (cards : List WireCard) → AreGood cards → list_all is_writable cards ≡ true
writable [] h = refl
writable (c ∷ cards) h = and_from (is_writable c) (list_all is_writable cards) h.0.1 (writable cards h.1)

pub replies_read : IsReadBack → RepliesRead
replies_read read_back l h =
    let good = all_good l h in
    subst (λ (text : List ℕ). IsMessage text (cards_of l)) (sym (written l)) (read_back (cards_of l) (of_type (cards_of l) good) (writable (cards_of l) good))
