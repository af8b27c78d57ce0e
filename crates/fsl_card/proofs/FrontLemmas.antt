-- Facts on the first card of some bytes.
use Rattle.std.proofs.Common.{◌≡◌, ℕ, ◌+◌, ◌-◌, ◌≤◌, true, eqb, List, [], ◌∷◌, ◌++◌, length, take, drop, get_or, Option, Some, None, refl, sym, ap, subst, ◌∙◌, append_assoc, arith}
use Rattle.std.proofs.lemmas.Bool.{both_ways, not-true}
use Rattle.std.proofs.lemmas.List.{append_cancel_left, drop-drop, take-append-drop, take_rest}
use Rattle.std.proofs.lemmas.List.Prefix.{end_rest}
use Rattle.fsl_card.specs.declared.types.Card.{Card}
use Rattle.fsl_card.specs.Cards.{IsCard, BodyFits, are_arguments, body_text, card_text}
use Rattle.fsl_card.specs.Parts.{arguments_text}
use Rattle.fsl_card.proofs.ReadAgain.{card_line}
use Rattle.fsl_card.proofs.ArgumentLemmas.{arguments_unique}

abbrev pub card_of : ℕ → List (List ℕ) → Option (List ℕ) → Card
card_of letter args body = record { letter = letter; args = args; body = body }

-- what stands behind a front is what is left of its length
left_over : (bytes front rest : List ℕ) → bytes ≡ front ++ rest → bytes ≡ front ++ drop (length bytes - length rest) bytes
left_over bytes front rest e = e ∙ ap (λ (r : List ℕ). front ++ r) (sym (end_rest bytes rest front e))

first_byte : (bytes : List ℕ) → 1 ≤ length bytes → bytes ≡ get_or bytes 0 0 ∷ drop 1 bytes
first_byte [] h = absurd (omega arith)
first_byte (b ∷ bytes) h = refl

-- the bytes behind the first, as the slices of a program have them
pub split_line : (bytes : List ℕ) (args : List (List ℕ)) (taken : ℕ)
    → (let line : List ℕ = take (length bytes - 1) (drop 1 bytes) in line ≡ arguments_text args ++ 10 ∷ drop taken line)
    → drop 1 bytes ≡ arguments_text args ++ 10 ∷ (let line : List ℕ = take (length bytes - 1) (drop 1 bytes) in take (length line - taken) (drop taken line))
split_line bytes args taken e =
    let line : List ℕ = take (length bytes - 1) (drop 1 bytes) in
    sym (take_rest bytes 1) ∙ e ∙ ap (λ (r : List ℕ). arguments_text args ++ 10 ∷ r) (sym (take_rest line taken))

pub plain_front : (bytes : List ℕ) (args : List (List ℕ)) (behind : List ℕ) → 1 ≤ length bytes → drop 1 bytes ≡ arguments_text args ++ 10 ∷ behind
    → bytes ≡ card_text (card_of (get_or bytes 0 0) args None) ++ drop (length bytes - length behind) bytes
plain_front bytes args behind some line =
    left_over bytes (card_text (card_of (get_or bytes 0 0) args None)) behind
    (first_byte bytes some ∙ ap (λ (l : List ℕ). get_or bytes 0 0 ∷ l) (line ∙ sym (append_assoc (arguments_text args) (10 ∷ []) behind)))

pub body_front : (bytes : List ℕ) (args : List (List ℕ)) (behind body rest : List ℕ) (size : ℕ) → 1 ≤ length bytes → drop 1 bytes ≡ arguments_text args ++ 10 ∷ behind
    → behind ≡ take size behind ++ 10 ∷ drop (size + 1) behind → body ≡ take size behind → rest ≡ drop size behind
    → bytes ≡ card_text (card_of (get_or bytes 0 0) args (Some body)) ++ drop (length bytes - length rest + 1) bytes
body_front bytes args behind body rest size some line is body_is rest_is =
    let letter : ℕ = get_or bytes 0 0 in
    let after : List ℕ = drop (size + 1) behind in
    let newline : rest ≡ 10 ∷ after = rest_is ∙ append_cancel_left (take size behind) (drop size behind) (10 ∷ after) (take-append-drop size behind ∙ is) in
    let parts : behind ≡ body ++ rest = is ∙ ap (λ (t : List ℕ). t ++ 10 ∷ after) (sym body_is) ∙ ap (λ (t : List ℕ). body ++ t) (sym newline) in
    let front : List ℕ = letter ∷ (arguments_text args ++ 10 ∷ body) in
    let whole : bytes ≡ front ++ rest =
    first_byte bytes some ∙ ap (λ (l : List ℕ). letter ∷ l) (line ∙ ap (λ (l : List ℕ). arguments_text args ++ 10 ∷ l) parts ∙ sym (append_assoc (arguments_text args) (10 ∷ body) rest)) in
    let last : drop (length bytes - length rest + 1) bytes ≡ after =
    sym (drop-drop 1 (length bytes - length rest) bytes) ∙ ap (drop 1) (end_rest bytes rest front whole ∙ newline) in
    whole ∙ ap (λ (t : List ℕ). front ++ t) newline ∙ inside letter (arguments_text args) body after
    ∙ ap (λ (t : List ℕ). card_text (card_of letter args (Some body)) ++ t) (sym last)
  where
    inside : (letter : ℕ) (text body after : List ℕ) → (letter ∷ (text ++ 10 ∷ body)) ++ 10 ∷ after ≡ ((letter ∷ text) ++ 10 ∷ (body ++ 10 ∷ [])) ++ after
    inside letter text body after =
        ap (λ (l : List ℕ). letter ∷ l)
        (append_assoc text (10 ∷ body) (10 ∷ after) ∙ ap (λ (l : List ℕ). text ++ 10 ∷ l) (sym (append_assoc body (10 ∷ []) after)) ∙ sym (append_assoc text (10 ∷ (body ++ 10 ∷ [])) after))

-- bytes that begin with a W card have its body behind the arguments
pub no_body : (bytes : List ℕ) (args : List (List ℕ)) (behind : List ℕ) → are_arguments (get_or bytes 0 0) args ≡ true → drop 1 bytes ≡ arguments_text args ++ 10 ∷ behind
    → get_or bytes 0 0 ≡ 87 → ((body more : List ℕ) → BodyFits 87 args (Some body) → behind ≡ body ++ 10 ∷ more → ⊥)
    → (card : Card) (more : List ℕ) → IsCard card → bytes ≡ card_text card ++ more → ⊥
no_body bytes args behind fine line letter none card more is e =
    let text = e ∙ card_line card more in
    let first : get_or bytes 0 0 ≡ card.letter = ap (λ (l : List ℕ). get_or l 0 0) text in
    let P : ℕ → Type 0 = λ l. are_arguments l card.args ≡ true in
    let same = arguments_unique (get_or bytes 0 0) args card.args behind (body_text card.body ++ more) fine (subst P (sym first) is.arguments) (sym line ∙ ap (drop 1) text) in
    let L : ℕ → Type 0 = λ l. BodyFits l card.args card.body in
    let A : List (List ℕ) → Type 0 = λ l. BodyFits 87 l card.body in
    inside card.body (subst A (sym same.args) (subst L (sym first ∙ letter) is.body)) same.rest
  where
    inside : (body : Option (List ℕ)) → BodyFits 87 args body → behind ≡ body_text body ++ more → ⊥
    inside None fits e = both_ways (eqb 87 87) (not-true (eqb 87 87) fits) refl
    inside (Some body) fits e = none body more fits (e ∙ append_assoc body (10 ∷ []) more)
