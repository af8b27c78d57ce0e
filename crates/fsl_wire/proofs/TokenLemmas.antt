-- How the tokens of a line come one after another.
use Rattle.std.proofs.Common.{◌≡◌, ℕ, suc, zero, ◌+◌, ◌-◌, ◌<◌, ◌≤◌, Bool, true, false, not, cond, List, [], ◌∷◌, length, take, drop, get_or, position, filter, Some, None, refl, sym, ap, ◌∙◌, ⊎_elim, arith, add-one, drop-cons}
use Rattle.std.specs.Prelude.{nat_lt}
use Rattle.std.specs.List.{All, position_or_len, slice_split}
use Rattle.std.proofs.lemmas.Bool.{false≢true, cases_lt, not-false, not-true}
use Rattle.std.proofs.lemmas.List.{length-take-le, length-drop, take_all, take_rest}
use Rattle.std.proofs.lemmas.List.Quantifiers.{position-Some}
use Rattle.std.proofs.lemmas.List.Elements.{All-from_get_or}
use Rattle.std.proofs.lemmas.List.Splits.{slice_split-cons_yes, slice_split_none, slice_split_first}
use Rattle.std.proofs.lemmas.List.Sums.{fails_before_first, passes_at_first, prefix_len-le-length}
use Rattle.std.proofs.Math.ListN.{drop_of_length-le}
use Rattle.fsl_text.specs.Bytes.{is_empty}
use Rattle.fsl_text.specs.Tokens.{is_blank, tokens_of}
use Rattle.fsl_text.proofs.Bytewise.{none_past}

abbrev pub is_solid : ℕ → Bool
is_solid b = not (is_blank b)

abbrev has_bytes : List ℕ → Bool
has_bytes part = not (is_empty part)

some_at : (i n m : ℕ) → cond (nat_lt i n) (Some i) None ≡ Some m → m ≡ i
some_at i n m h = grind (arith)

-- where a search ends, as a place or as the length
pub place_found : (p : ℕ → Bool) (xs : List ℕ) (i : ℕ) → position p xs ≡ Some i → i ≡ position_or_len p xs
place_found p xs i h = some_at _ (length xs) i h

pub at_most : (p : ℕ → Bool) (xs : List ℕ) → position_or_len p xs ≤ length xs
at_most p xs = prefix_len-le-length (λ x. not (p x)) xs

pub no_place : (p : ℕ → Bool) (xs : List ℕ) → position p xs ≡ None → length xs ≤ position_or_len p xs
no_place p xs h = none_past _ _ h

-- a blank in front doesn't count
skip_blank : (b : ℕ) (bs : List ℕ) → is_blank b ≡ true → tokens_of (b ∷ bs) ≡ tokens_of bs
skip_blank b bs h = ap (λ (parts : List (List ℕ)). filter has_bytes parts) (slice_split-cons_yes is_blank b bs h)

skip_blanks : (line : List ℕ) (n : ℕ) → ((k : ℕ) → k < n → is_blank (get_or line k 0) ≡ true) → tokens_of line ≡ tokens_of (drop n line)
skip_blanks line zero h = refl
skip_blanks [] (suc n) h = refl
skip_blanks (b ∷ bs) (suc n) h = skip_blank b bs (h 0 (omega arith)) ∙ skip_blanks bs n (λ k lt. h (suc k) (omega arith))

get_or-drop-first : (xs : List ℕ) (n : ℕ) → get_or (drop n xs) 0 0 ≡ get_or xs n 0
get_or-drop-first xs zero = refl
get_or-drop-first [] (suc n) = refl
get_or-drop-first (x ∷ xs) (suc n) = get_or-drop-first xs n

-- a line of blanks alone has no token
pub no_token : (line : List ℕ) → position is_solid line ≡ None → tokens_of line ≡ []
no_token line h =
    let past = no_place is_solid line h in
    skip_blanks line (length line) (λ k lt. not-false _ (fails_before_first is_solid line k 0 (omega arith)))
    ∙ ap tokens_of (drop_of_length-le line (omega arith))

filled : (xs : List ℕ) → 0 < length xs → has_bytes xs ≡ true
filled [] h = absurd (omega arith)
filled (x ∷ xs) h = refl

kept : (part : List ℕ) (parts : List (List ℕ)) → has_bytes part ≡ true → filter has_bytes (part ∷ parts) ≡ part ∷ filter has_bytes parts
kept part parts h = ap (λ (b : Bool). cond b (part ∷ filter has_bytes parts) (filter has_bytes parts)) h

blank_first : (rest : List ℕ) → position_or_len is_blank rest ≡ 0 → 0 < length rest → is_solid (get_or rest 0 0) ≡ true → ⊥
blank_first rest none some first =
    let here : is_blank (get_or rest 0 0) ≡ true = ap (λ (k : ℕ). is_blank (get_or rest k 0)) (sym none) ∙ passes_at_first is_blank rest 0 (omega arith) in
    false≢true (sym (not-true _ first) ∙ here)

starts_later : (n : ℕ) → (n ≡ 0 → ⊥) → 0 < n
starts_later n h = grind (arith, h)

inner : (rest : List ℕ) (end : ℕ) → 0 < length rest → is_solid (get_or rest 0 0) ≡ true → end ≡ position_or_len is_blank rest → end < length rest
    → tokens_of rest ≡ take end rest ∷ tokens_of (drop end rest)
inner rest end some first at lt =
    let begins : 0 < end = starts_later end (λ none. blank_first rest (sym at ∙ none) some first) in
    let len = length-take-le end rest (omega arith) in
    let here : is_blank (get_or rest end 0) ≡ true = ap (λ (k : ℕ). is_blank (get_or rest k 0)) at ∙ passes_at_first is_blank rest 0 (omega arith) in
    let behind : drop end rest ≡ get_or rest end 0 ∷ drop (end + 1) rest = rw add-one (drop-cons rest end 0 lt) in
    let parts : slice_split is_blank rest ≡ take end rest ∷ slice_split is_blank (drop (end + 1) rest) =
    slice_split_first is_blank rest 0 (omega arith)
    ∙ ap (λ (k : ℕ). take k rest ∷ slice_split is_blank (drop (k + 1) rest)) (sym at) in
    ap (λ (ps : List (List ℕ)). filter has_bytes ps) parts
    ∙ kept (take end rest) (slice_split is_blank (drop (end + 1) rest)) (filled (take end rest) (omega arith))
    ∙ ap (λ (ts : List (List ℕ)). take end rest ∷ ts) (sym (ap tokens_of behind ∙ skip_blank (get_or rest end 0) (drop (end + 1) rest) here))

whole : (rest : List ℕ) (end : ℕ) → 0 < length rest → is_solid (get_or rest 0 0) ≡ true → end ≡ position_or_len is_blank rest → length rest ≤ end
    → tokens_of rest ≡ take end rest ∷ tokens_of (drop end rest)
whole rest end some first at past =
    let all : All (λ b. is_blank b ≡ false) rest = All-from_get_or (λ b. is_blank b ≡ false) rest 0 (λ k lt. fails_before_first is_blank rest k 0 (omega arith)) in
    ap (λ (ps : List (List ℕ)). filter has_bytes ps) (slice_split_none is_blank rest all)
    ∙ kept rest [] (filled rest some)
    ∙ ap (λ (t : List ℕ). t ∷ []) (sym (take_all end rest past))
    ∙ ap (λ (t : List ℕ). take end rest ∷ tokens_of t) (sym (drop_of_length-le rest past))

-- bytes that begin with no blank begin with the token that ends at their first blank
pub token_front : (rest : List ℕ) (end : ℕ) → 0 < length rest → is_solid (get_or rest 0 0) ≡ true → end ≡ position_or_len is_blank rest
    → tokens_of rest ≡ take end rest ∷ tokens_of (drop end rest)
token_front rest end some first at = ⊎_elim (inner rest end some first at) (whole rest end some first at) (cases_lt end (length rest))

-- the first token and what stands behind it
pub first_split : (line rest : List ℕ) (start end : ℕ) → position is_solid line ≡ Some start → rest ≡ take (length line - start) (drop start line) → end ≡ position_or_len is_blank rest
    → tokens_of line ≡ take end rest ∷ tokens_of (take (length rest - end) (drop end rest))
first_split line rest start end at is ends =
    let found = position-Some is_solid line start 0 at in
    let here : rest ≡ drop start line = is ∙ take_rest line start in
    let first : get_or rest 0 0 ≡ get_or line start 0 = ap (λ (r : List ℕ). get_or r 0 0) here ∙ get_or-drop-first line start in
    let len = length-drop start line in
    let same = ap length here in
    let within = found.0 in
    let some : 0 < length rest = omega arith in
    skip_blanks line start (λ k lt. not-false _ (found.2 k lt)) ∙ ap tokens_of (sym here)
    ∙ token_front rest end some (ap is_solid first ∙ found.1) ends
    ∙ ap (λ (t : List ℕ). take end rest ∷ tokens_of t) (sym (take_rest rest end))
