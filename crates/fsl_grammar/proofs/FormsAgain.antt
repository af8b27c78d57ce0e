-- What is written as an argument is read again.
use Rattle.std.proofs.Common.{◌≡◌, ℕ, ◌*◌, Bool, true, false, not, eqb, List, [], ◌∷◌, ◌++◌, length, map, flat_map, Option, Some, None, refl, sym, ap, ◌∙◌, arith}
use Rattle.std.specs.Prelude.{nat_le, option_map, option_to_list, codes}
use Rattle.std.specs.List.{list_all, AllByRecursion}
use Rattle.std.specs.Str.{bytes_eq}
use Rattle.std.specs.Cmp.Lexicographic.{bytes_decides}
use Rattle.std.proofs.lemmas.Bool.{eq-eqb, and_from}
use Rattle.hex.specs.Hex.{encode_lower}
use Rattle.fsl_order.proofs.Booleans.{first_holds, second_holds}
use Rattle.fsl_text.specs.Bytes.{AreBytes, is_empty}
use Rattle.fsl_text.specs.Escapes.{escape, unescape}
use Rattle.fsl_text.proofs.Unescaping.{unescape-escape}
use Rattle.fsl_name.specs.Name.{IsName, name_text}
use Rattle.fsl_name.specs.Ref.{IsRef, ref_bytes, ref_in, ref_text}
use Rattle.fsl_name.specs.declared.reference.Ref.{Ref}
use Rattle.fsl_name.specs.declared.reference.Ref.TheVariants.{Own, Foreign}
use Rattle.fsl_name.proofs.ReadAgain.{name_again, bytes_again, digits_all, length_digits}
use Rattle.fsl_name.proofs.RefTexts.{ref_again}
use Rattle.fsl_date.specs.Moment.{IsMoment, moment_text}
use Rattle.fsl_date.proofs.MomentTexts.{is_read}
use Rattle.fsl_card.specs.Cards.{in_order, is_argument}
use Rattle.fsl_card.specs.declared.types.Card.{Card}
use Rattle.fsl_grammar.specs.declared.Prefix.{Prefix}
use Rattle.fsl_grammar.specs.declared.Prefix.TheVariants.{Once, Cancel, Propagate}
use Rattle.fsl_grammar.specs.declared.TagCard.{TagCard}
use Rattle.fsl_grammar.specs.Forms.{text_form, hash_form, ref_form, date_form, checksum_form, user_form, tag_form, tag_in, target_in, prefix_in, is_filled, is_tag_written}
use Rattle.fsl_grammar.specs.Writing.{written_if, card_if, parents_card, sign_of, tag_card, target_text}
use Rattle.fsl_grammar.proofs.Blocks.{IsBlock, block_each, no_block, one_block, plain_card}
use Rattle.fsl_grammar.proofs.WrittenArguments.{is_argument-escape, is_argument-ref}

-- ---- single arguments

pub text_again : (text : List ℕ) → text_form (escape text ∷ []) ≡ Some text
text_again text = ap Some (unescape-escape text)

pub user_again : (text : List ℕ) → user_form (escape text ∷ []) ≡ Some text
user_again text = ap Some (unescape-escape text)

pub hash_again : (name : List ℕ) → IsName name → hash_form (name_text name ∷ []) ≡ Some name
hash_again name h = name_again name h

pub ref_form_again : (r : Ref) → IsRef r → ref_form (ref_text r ∷ []) ≡ Some r
ref_form_again r h = ref_again r h

pub date_again : (ms : ℕ) → IsMoment ms → date_form (moment_text ms ∷ []) ≡ Some ms
date_again ms h = is_read ms h (moment_text ms) refl

pub checksum_again : (bytes : List ℕ) → length bytes ≡ 16 → AreBytes bytes → checksum_form (encode_lower bytes ∷ []) ≡ Some bytes
checksum_again bytes long each =
    let count : eqb (length (encode_lower bytes)) 32 ≡ true = eq-eqb _ _ (length_digits bytes ∙ ap (λ n. 2 * n) long) in
    rw (count, digits_all bytes each) (ap Some (bytes_again bytes each))

-- ---- optional cards and lists of cards

-- what a form gives for a card where there is a value
pub read_if : {X : Type 0} (letter : ℕ) (written : X → List ℕ) (form : List (List ℕ) → Option X) (o : Option X) → ((x : X) → o ≡ Some x → form (written x ∷ []) ≡ Some x)
    → map form (map (λ card. card.args) (card_if letter written o) ++ []) ≡ map Some (option_to_list o)
read_if letter written form None h = refl
read_if {X = X} letter written form (Some x) h = ap (λ (y : Option X). y ∷ []) (h x refl)

-- what a form gives for the cards of values
pub read_each : {X : Type 0} (made : X → Card) (form : List (List ℕ) → Option X) (P : X → Type 0) → ((x : X) → P x → form (made x).args ≡ Some x) → (xs : List X) → AllByRecursion P xs
    → map form (map (λ card. card.args) (map made xs) ++ []) ≡ map Some xs
read_each made form P again [] h = refl
read_each made form P again (x ∷ xs) h = let first = again x h.0 in let rest = read_each made form P again xs h.1 in λ i. first i ∷ rest i

-- ---- parents

refs_again : (refs : List Ref) → AllByRecursion IsRef refs → map ref_in (map ref_text refs ++ []) ≡ map Some refs
refs_again [] h = refl
refs_again (r ∷ refs) h = let first = ref_again r h.0 in let rest = refs_again refs h.1 in λ i. first i ∷ rest i

pub parents_again : (refs : List Ref) → AllByRecursion IsRef refs → map ref_in (flat_map (λ args. args) (map (λ card. card.args) (parents_card refs) ++ [])) ≡ map Some refs
parents_again [] h = refl
parents_again (r ∷ refs) h = refs_again (r ∷ refs) h

pub refs_arguments : (refs : List Ref) → AllByRecursion IsRef refs → list_all is_argument (map ref_text refs) ≡ true
refs_arguments [] h = refl
refs_arguments (r ∷ refs) h = and_from _ _ (is_argument-ref r h.0) (refs_arguments refs h.1)

-- ---- tags

prefix_again : (prefix : Prefix) → prefix_in (sign_of prefix) ≡ Some prefix
prefix_again Once = refl
prefix_again Cancel = refl
prefix_again Propagate = refl

-- the digits of a reference aren't `*`
ref_no_star : (r : Ref) → IsRef r → bytes_eq (ref_text r) (codes "*") ≡ false
ref_no_star r h = by (bytes_eq (ref_text r) (codes "*")) refl
  where
    long : (r : Ref) → IsRef r → length (ref_bytes r) ≡ 1 → ⊥
    long (Own name) k one = omega (arith, k.0, one)
    long (Foreign bytes) k one = omega (arith, k.0, one)

    even : (n : ℕ) → 2 * n ≡ 1 → n ≡ 1
    even n e = absurd (omega (arith, e))

    by : (t : Bool) → bytes_eq (ref_text r) (codes "*") ≡ t → t ≡ false
    by false e = refl
    by true e = absurd (long r h (even _ (sym (length_digits (ref_bytes r)) ∙ ap length ((bytes_decides (ref_text r) (codes "*")).0 e))))

target_again : (target : Option Ref) → AllByRecursion IsRef (option_to_list target) → target_in (target_text target) ≡ Some target
target_again None h = refl
target_again (Some r) h = rw (ref_no_star r h.0) (ap (option_map Some) (ref_again r h.0))

-- a byte that is no backslash stands for itself
unescape_plain : (b : ℕ) (rest : List ℕ) → eqb b 92 ≡ false → unescape (b ∷ rest) ≡ b ∷ unescape rest
unescape_plain b [] h = refl
unescape_plain b (c ∷ rest) h = rw h refl

-- a sign doesn't change as it is read
unescape_signed : (prefix : Prefix) (tag : List ℕ) → unescape (sign_of prefix ∷ escape tag) ≡ sign_of prefix ∷ tag
unescape_signed Once tag = unescape_plain 43 (escape tag) refl ∙ ap (λ (t : List ℕ). 43 ∷ t) (unescape-escape tag)
unescape_signed Cancel tag = unescape_plain 45 (escape tag) refl ∙ ap (λ (t : List ℕ). 45 ∷ t) (unescape-escape tag)
unescape_signed Propagate tag = unescape_plain 42 (escape tag) refl ∙ ap (λ (t : List ℕ). 42 ∷ t) (unescape-escape tag)

tag_in_again : (prefix : Prefix) (tag : List ℕ) (target : Option Ref) (value : Option (List ℕ)) → AllByRecursion IsRef (option_to_list target) → not (is_empty tag) ≡ true
    → tag_in (sign_of prefix ∷ tag) (target_text target) value ≡ Some (record { prefix = prefix; tag = tag; target = target; value = value })
tag_in_again prefix tag target value named filled = rw (prefix_again prefix, target_again target named, filled) refl

-- what a tag that can be written owes
pub record IsTagFit (t : TagCard) : Type 0 where
  pub named : AllByRecursion IsRef (option_to_list t.target)
  pub written : is_tag_written t ≡ true

pub tag_again : (t : TagCard) → IsTagFit t → tag_form (tag_card t).args ≡ Some t
tag_again t h = by t.value
  where
    by : (value : Option (List ℕ)) → tag_form ((sign_of t.prefix ∷ escape t.tag) ∷ target_text t.target ∷ written_if escape value) ≡ Some (record t { value = value })
    by None = ap (λ (tag : List ℕ). tag_in tag (target_text t.target) None) (unescape_signed t.prefix t.tag) ∙ tag_in_again t.prefix t.tag t.target None h.named (first_holds _ (is_filled t.value) h.written)
    by (Some value) =
        ap (λ (tag : List ℕ). tag_in tag (target_text t.target) (Some (unescape (escape value)))) (unescape_signed t.prefix t.tag)
        ∙ tag_in_again t.prefix t.tag t.target (Some (unescape (escape value))) h.named (first_holds _ (is_filled t.value) h.written)
        ∙ ap (λ (v : List ℕ). Some (record t { value = Some v })) (unescape-escape value)

pub tag_arguments : (t : TagCard) → IsTagFit t → list_all is_argument (tag_card t).args ≡ true
tag_arguments t h =
    and_from _ _ (signed_argument t.prefix t.tag (first_holds _ (is_filled t.value) h.written))
    (and_from _ _ (target_argument t.target h.named) (value_argument t.value (second_holds (not (is_empty t.tag)) _ h.written)))
  where
    signed_argument : (prefix : Prefix) (tag : List ℕ) → not (is_empty tag) ≡ true → is_argument (sign_of prefix ∷ escape tag) ≡ true
    signed_argument Once tag filled = second_holds (not (is_empty (escape tag))) _ (is_argument-escape tag filled)
    signed_argument Cancel tag filled = second_holds (not (is_empty (escape tag))) _ (is_argument-escape tag filled)
    signed_argument Propagate tag filled = second_holds (not (is_empty (escape tag))) _ (is_argument-escape tag filled)

    target_argument : (target : Option Ref) → AllByRecursion IsRef (option_to_list target) → is_argument (target_text target) ≡ true
    target_argument None named = refl
    target_argument (Some r) named = is_argument-ref r named.0

    value_argument : (value : Option (List ℕ)) → is_filled value ≡ true → list_all is_argument (written_if escape value) ≡ true
    value_argument None filled = refl
    value_argument (Some text) filled = and_from _ _ (is_argument-escape text filled) refl

-- ---- blocks

tags_ordered : (tags : List TagCard) → in_order (map tag_card tags) ≡ true
tags_ordered [] = refl
tags_ordered (a ∷ []) = refl
tags_ordered (a ∷ b ∷ tags) = tags_ordered (b ∷ tags)

pub tags_block : (tags : List TagCard) → AllByRecursion IsTagFit tags → IsBlock (84, map tag_card tags)
tags_block tags h = block_each 84 tag_card IsTagFit (λ t. refl) (λ t fit. plain_card 84 (tag_card t).args refl (tag_arguments t fit)) tags h (tags_ordered tags)

pub parents_block : (refs : List Ref) → AllByRecursion IsRef refs → IsBlock (80, parents_card refs)
parents_block [] h = no_block 80
parents_block (r ∷ refs) h = one_block 80 (map ref_text (r ∷ refs)) refl (refs_arguments (r ∷ refs) h)

pub at_most_one_parents : (refs : List Ref) → nat_le (length (map (λ card. card.args) (parents_card refs) ++ [])) 1 ≡ true
at_most_one_parents [] = refl
at_most_one_parents (r ∷ refs) = refl

-- tags that can be written, whose targets are references
pub tags_fit : (tags : List TagCard) → AllByRecursion (λ t. AllByRecursion IsRef (option_to_list t.target)) tags → list_all is_tag_written tags ≡ true → AllByRecursion IsTagFit tags
tags_fit [] h k = tt
tags_fit (t ∷ tags) h k =
    (record { named = h.0; written = first_holds _ (list_all is_tag_written tags) k }, tags_fit tags h.1 (second_holds (is_tag_written t) _ k))
