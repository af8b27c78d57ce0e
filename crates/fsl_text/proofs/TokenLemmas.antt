-- The tokens of a line and their places.
use Rattle.std.proofs.Common.{◌≡◌, ℕ, ◌+◌, ◌-◌, ◌<◌, ◌≤◌, Bool, true, false, cond, not, List, [], ◌∷◌, ◌++◌, length, map, drop, get_or, inl, inr, ◌⊎◌, ⊎_elim, refl, sym, ap, ◌∙◌, arith, append_assoc, append-nil}
use Rattle.std.specs.Prelude.{IsTrue}
use Rattle.std.specs.List.{All, AllPairs, AllPass, Contains, slice_split, slice_range, onto_first, filter}
use Rattle.std.proofs.lemmas.Bool.{cases_eq, cases_lt, lt-ltb, le-ltb, not-true, not_from_false, both_ways}
use Rattle.std.proofs.lemmas.List.{drop_more, take_all, take_at, get_or-take, get_or-drop, length-drop, length-take}
use Rattle.std.proofs.lemmas.List.Elements.{All-nil, All-cons, All-append, All-weaker, All-from_get_or, All-contains, Contains-append_right}
use Rattle.std.proofs.lemmas.List.Folds.{drop_split}
use Rattle.std.proofs.lemmas.List.Kept.{AllPairs-cons}
use Rattle.std.proofs.lemmas.List.Splits.{slice_split_none, slice_split_at}
use Rattle.fsl_text.specs.Bytes.{is_empty}
use Rattle.fsl_text.specs.declared.fault.Span.{Span}
use Rattle.fsl_text.specs.Tokens.{is_blank, span_text, spans_from, token_spans, token_at, IsTokenAt, AreTokens, AreTextsOfSpans}

-- no blank stands between two places
abbrev pub IsSolid : List ℕ → ℕ → ℕ → Type 0
IsSolid line from to = (k : ℕ) → from ≤ k → k < to → is_blank (get_or line k 0) ≡ false

-- a token could begin or end there
abbrev pub Begins : List ℕ → ℕ → Type 0
Begins line at = (at ≡ 0) ⊎ IsTrue (is_blank (get_or line (at - 1) 0))

abbrev pub Ends : List ℕ → ℕ → Type 0
Ends line at = (at ≡ length line) ⊎ IsTrue (is_blank (get_or line at 0))

-- a part ends at the line's end, or at a blank with the other parts behind it
abbrev pub IsFollowed : List ℕ → ℕ → List (List ℕ) → Type 0 → Type 0
IsFollowed line end [] More = end ≡ length line
IsFollowed line end (next ∷ parts) More = (end < length line) × (is_blank (get_or line end 0) ≡ true) × More

-- parts between blanks stand in a line from a place on
abbrev pub AreParts : List ℕ → ℕ → List (List ℕ) → Type 0
AreParts line at [] = ⊥
AreParts line at (part ∷ parts) =
    (end : ℕ) × (end ≡ at + length part) × (drop at line ≡ part ++ drop end line) × IsSolid line at end × IsFollowed line end parts (AreParts line (end + 1) parts)

behind_blank : (line : List ℕ) (end : ℕ) (parts : List (List ℕ)) → end < length line → is_blank (get_or line end 0) ≡ true → AreParts line (end + 1) parts → IsFollowed line end parts (AreParts line (end + 1) parts)
behind_blank line end [] lt blank more = absurd more
behind_blank line end (part ∷ parts) lt blank more = (lt, blank, more)

one_byte_more : (line : List ℕ) (at x : ℕ) (parts : List (List ℕ)) → drop at line ≡ x ∷ drop (at + 1) line → get_or line at 0 ≡ x → is_blank x ≡ false → AreParts line (at + 1) parts → AreParts line at (onto_first x parts)
one_byte_more line at x [] here is solid more = absurd more
one_byte_more line at x (part ∷ parts) here is solid more =
    (more.0, omega (arith, more.1), here ∙ ap (λ (rest : List ℕ). x ∷ rest) more.2, inside, more.4)
  where
    inside : IsSolid line at (more.0)
    inside k from to = ⊎_elim {C = is_blank (get_or line k 0) ≡ false} (λ (e : k ≡ at). rw (e, is) solid) (λ (past : ¬ (k ≡ at)). more.3 k (omega arith) to) (cases_eq k at)

-- the first byte from a place on
pub first_byte : (line rest : List ℕ) (at x : ℕ) → drop at line ≡ x ∷ rest → (at < length line) × (get_or line at 0 ≡ x) × (drop (at + 1) line ≡ rest)
first_byte line rest at x e =
    let lengths = ap length e in
    let within : at < length line = omega (arith, length-drop at line, lengths) in
    let more = drop_more line at 0 within in
    (within, cc, cc)

parts_by : (line rest : List ℕ) (at x : ℕ) (parts : List (List ℕ)) (blank : Bool) → is_blank x ≡ blank → drop at line ≡ x ∷ rest → AreParts line (at + 1) parts → AreParts line at (cond blank ([] ∷ parts) (onto_first x parts))
parts_by line rest at x parts true h e more =
    let first = first_byte line rest at x e in
    (at, omega arith, refl, (λ k from to. absurd (omega arith)), behind_blank line at parts first.0 (ap is_blank first.1 ∙ h) more)
parts_by line rest at x parts false h e more =
    let first = first_byte line rest at x e in
    one_byte_more line at x parts (e ∙ ap (λ (rest : List ℕ). x ∷ rest) (sym first.2)) first.1 h more

pub parts_of : (line rest : List ℕ) (at : ℕ) → drop at line ≡ rest → at ≤ length line → AreParts line at (slice_split is_blank rest)
parts_of line [] at e within =
    (at, omega arith, refl, (λ k from to. absurd (omega arith)), (let lengths = ap length e in omega (arith, length-drop at line, lengths)))
parts_of line (x ∷ rest) at e within =
    let first = first_byte line rest at x e in
    parts_by line rest at x (slice_split is_blank rest) (is_blank x) refl e (parts_of line rest (at + 1) first.2 (omega (arith, first.0)))

-- a part gives its token, if it has a byte
pub spans-part : (at end : ℕ) (part : List ℕ) (parts : List (List ℕ)) → end ≡ at + length part → spans_from at (part ∷ parts) ≡ token_at at end ++ spans_from (end + 1) parts
spans-part at end [] parts e =
    let same : end ≡ at = omega arith in
    rw (same, le-ltb at at (omega arith)) refl
spans-part at end (b ∷ part) parts e =
    rw (e, lt-ltb at (at + length (b ∷ part)) (omega arith)) refl

-- the bytes of a token one by one
solid_at : (line : List ℕ) (from to k : ℕ) → IsTokenAt line from to → from ≤ k → k < to → is_blank (get_or line k 0) ≡ false
solid_at line from to k token low high =
    let some = token.some in
    let inside = token.inside in
    let place : from + (k - from) ≡ k = omega arith in
    let short : k - from < to - from = omega arith in
    let lengths : length (slice_range line from to) ≡ to - from = omega (arith, length-take (to - from) (drop from line), length-drop from line) in
    let solid = token.solid (k - from) 0 (rw lengths short) in
    let read : get_or (slice_range line from to) (k - from) 0 ≡ get_or line k 0 =
    get_or-take (to - from) (drop from line) (k - from) 0 short ∙ get_or-drop from line (k - from) 0 ∙ ap (λ (n : ℕ). get_or line n 0) place in
    ap is_blank (sym read) ∙ not-true (is_blank (get_or (slice_range line from to) (k - from) 0)) solid

solid_range : (line : List ℕ) (from to : ℕ) → IsSolid line from to → AllPass (λ b. not (is_blank b)) (slice_range line from to)
solid_range line from to solid =
    All-from_get_or (λ b. not (is_blank b) ≡ true) (slice_range line from to) 0 λ k lt.
    let lengths = length-take (to - from) (drop from line) in
    let short : k < to - from = omega arith in
    let read : get_or (slice_range line from to) k 0 ≡ get_or line (from + k) 0 = get_or-take (to - from) (drop from line) k 0 short ∙ get_or-drop from line k 0 in
    rw read (not_from_false (is_blank (get_or line (from + k) 0)) (solid (from + k) (omega arith) (omega arith)))

begins_behind : (line : List ℕ) (end : ℕ) → is_blank (get_or line end 0) ≡ true → Begins line (end + 1)
begins_behind line end blank = let same : end + 1 - 1 ≡ end = omega arith in inr (rw same blank)

-- a span is a token that begins at a place or behind it
pub record IsTokenFrom (line : List ℕ) (at : ℕ) (span : Span) : Type 0 where
  pub token : IsTokenAt line span.from span.to
  pub later : at ≤ span.from

-- the token of one part
first_token : (line : List ℕ) (at end : ℕ) → Begins line at → at ≤ end → end ≤ length line → IsSolid line at end → Ends line end → All (IsTokenFrom line at) (token_at at end)
first_token line at end begins low within solid ends =
    ⊎_elim {C = All (IsTokenFrom line at) (token_at at end)}
    (λ (some : at < end). rw (lt-ltb at end some) (All-cons (IsTokenFrom line at) (record { from = at; to = end }) []
    (record { token = record { some = some; inside = within; solid = solid_range line at end solid; begins = begins; ends = ends }; later = omega arith })
    (All-nil (IsTokenFrom line at))))
    (λ (none : end ≤ at). rw (le-ltb at end none) (All-nil (IsTokenFrom line at)))
    (cases_lt at end)

later_tokens : (line : List ℕ) (at end : ℕ) (spans : List Span) → at ≤ end → All (IsTokenFrom line (end + 1)) spans → All (IsTokenFrom line at) spans
later_tokens line at end spans low all =
    All-weaker (IsTokenFrom line (end + 1)) (IsTokenFrom line at) (λ span is. record { token = is.token; later = let later = is.later in omega arith }) spans all

-- each span is a token
all_tokens : (line : List ℕ) (at : ℕ) (parts : List (List ℕ)) → Begins line at → AreParts line at parts → All (IsTokenFrom line at) (spans_from at parts)
all_tokens line at [] begins are = absurd are
all_tokens line at (part ∷ []) begins are =
    let e = are.1 in
    let past : are.0 ≡ length line = are.4 in
    rw (spans-part at are.0 part [] are.1) (All-append (IsTokenFrom line at) (token_at at are.0) []
    (first_token line at are.0 begins (omega arith) (omega arith) are.3 (inl past))
    (All-nil (IsTokenFrom line at)))
all_tokens line at (part ∷ next ∷ parts) begins are =
    let e = are.1 in
    let low : at ≤ are.0 = omega arith in
    let lt : are.0 < length line = are.4.0 in
    rw (spans-part at are.0 part (next ∷ parts) are.1) (All-append (IsTokenFrom line at) (token_at at are.0) (spans_from (are.0 + 1) (next ∷ parts))
    (first_token line at are.0 begins low (omega arith) are.3 (inr are.4.1))
    (later_tokens line at are.0 (spans_from (are.0 + 1) (next ∷ parts)) low
    (all_tokens line (are.0 + 1) (next ∷ parts) (begins_behind line are.0 are.4.1) are.4.2)))

-- a token that begins before the end of a part is the token of that part
one_token : (line : List ℕ) (at end from to : ℕ) → end ≤ length line → IsSolid line at end → Ends line end → IsTokenAt line from to → at ≤ from → from ≤ end → (from ≡ at) × (to ≡ end) × (at < end)
one_token line at end from to within solid ends token low high =
    (begin, stop, omega (arith, begin, stop, some))
  where
    some : from < to
    some = token.some

    inside : to ≤ length line
    inside = token.inside

    -- the part's end is no place inside the token
    outside : from ≤ end → end < to → ⊥
    outside l h = ⊎_elim {C = ⊥} (λ (e : end ≡ length line). absurd (omega (arith, inside))) (λ blank. both_ways _ (solid_at line from to end token l h) blank) ends

    stop_low : to ≤ end
    stop_low = ⊎_elim {C = to ≤ end} (λ (h : end < to). absurd (outside high h)) (λ h. h) (cases_lt end to)

    begin : from ≡ at
    begin = ⊎_elim {C = from ≡ at}
        (λ (e : from ≡ 0). omega arith)
        (λ blank. ⊎_elim {C = from ≡ at}
        (λ (h : at < from). absurd (both_ways _ (solid (from - 1) (omega arith) (omega arith)) blank))
        (λ (h : from ≤ at). omega arith)
        (cases_lt at from))
        token.begins

    stop : to ≡ end
    stop = ⊎_elim {C = to ≡ end}
        (λ (e : to ≡ length line). omega (arith, stop_low))
        (λ blank. ⊎_elim {C = to ≡ end}
        (λ (h : to < end). absurd (both_ways _ (solid to (omega (arith, some)) h) blank))
        (λ (h : end ≤ to). omega (arith, stop_low))
        (cases_lt to end))
        token.ends

found_first : (line : List ℕ) (at end from to : ℕ) (more : List Span) → end ≤ length line → IsSolid line at end → Ends line end → IsTokenAt line from to → at ≤ from → from ≤ end → Contains (token_at at end ++ more) (record { from = from; to = to })
found_first line at end from to more within solid ends token low high =
    let one = one_token line at end from to within solid ends token low high in
    let some = one.2 in
    rw (one.0, one.1, lt-ltb at end some) (0, omega arith, refl)

-- each token is among the spans
every_token : (line : List ℕ) (at from to : ℕ) (parts : List (List ℕ)) → AreParts line at parts → IsTokenAt line from to → at ≤ from → Contains (spans_from at parts) (record { from = from; to = to })
every_token line at from to [] are token low = absurd are
every_token line at from to (part ∷ []) are token low =
    let past : are.0 ≡ length line = are.4 in
    let some = token.some in
    let inside = token.inside in
    rw (spans-part at are.0 part [] are.1) (found_first line at are.0 from to [] (omega arith) are.3 (inl past) token low (omega arith))
every_token line at from to (part ∷ next ∷ parts) are token low =
    let lt : are.0 < length line = are.4.0 in
    let more = spans_from (are.0 + 1) (next ∷ parts) in
    let found : Contains (token_at at are.0 ++ more) (record { from = from; to = to }) =
    ⊎_elim {C = Contains (token_at at are.0 ++ more) (record { from = from; to = to })}
    (λ (past : are.0 < from). Contains-append_right (token_at at are.0) more _ (every_token line (are.0 + 1) from to (next ∷ parts) are.4.2 token (omega arith)))
    (λ (high : from ≤ are.0). found_first line at are.0 from to more (omega arith) are.3 (inr are.4.1) token low high)
    (cases_lt are.0 from) in
    rw (spans-part at are.0 part (next ∷ parts) are.1) found

-- a later token begins behind the end of an earlier one
rising_behind : (line : List ℕ) (at end : ℕ) (more : List Span) → All (IsTokenFrom line (end + 1)) more → AllPairs (λ earlier later. earlier.to < later.from) more → AllPairs (λ earlier later. earlier.to < later.from) (token_at at end ++ more)
rising_behind line at end more all rising =
    ⊎_elim {C = AllPairs (λ earlier later. earlier.to < later.from) (token_at at end ++ more)}
    (λ (some : at < end). rw (lt-ltb at end some) (AllPairs-cons (λ (earlier : Span) (later : Span). earlier.to < later.from) (record { from = at; to = end }) more
    (All-weaker (IsTokenFrom line (end + 1)) (λ (later : Span). end < later.from) (λ span is. let later = is.later in omega arith) more all) rising))
    (λ (none : end ≤ at). rw (le-ltb at end none) rising)
    (cases_lt at end)

rising_tokens : (line : List ℕ) (at : ℕ) (parts : List (List ℕ)) → AreParts line at parts → AllPairs (λ earlier later. earlier.to < later.from) (spans_from at parts)
rising_tokens line at [] are = absurd are
rising_tokens line at (part ∷ []) are =
    rw (spans-part at are.0 part [] are.1) (rising_behind line at are.0 [] (All-nil (IsTokenFrom line (are.0 + 1))) (λ i j d lt past. absurd (omega arith)))
rising_tokens line at (part ∷ next ∷ parts) are =
    rw (spans-part at are.0 part (next ∷ parts) are.1) (rising_behind line at are.0 (spans_from (are.0 + 1) (next ∷ parts))
    (all_tokens line (are.0 + 1) (next ∷ parts) (begins_behind line are.0 are.4.1) are.4.2)
    (rising_tokens line (are.0 + 1) (next ∷ parts) are.4.2))

pub are_tokens : (line : List ℕ) → AreTokens line (token_spans line)
are_tokens line =
    let parts = parts_of line line 0 refl (omega arith) in
    let all = all_tokens line 0 (slice_split is_blank line) (inl refl) parts in
    record {
      tokens = λ span has. (All-contains (IsTokenFrom line 0) (token_spans line) span all has).token;
      every = λ from to token. every_token line 0 from to (slice_split is_blank line) parts token (omega arith);
      rising = rising_tokens line 0 (slice_split is_blank line) parts;
    }

-- the bytes at the places
part_text : (line part : List ℕ) (at end : ℕ) → end ≡ at + length part → drop at line ≡ part ++ drop end line → slice_range line at end ≡ part
part_text line part at end e here = rw here (take_at part (drop end line) (end - at) (omega arith))

span_texts : (line : List ℕ) (at : ℕ) (parts : List (List ℕ)) → AreParts line at parts → map (span_text line) (spans_from at parts) ≡ filter (λ part. not (is_empty part)) parts
span_texts line at [] are = absurd are
span_texts line at ([] ∷ []) are = refl
span_texts line at ((b ∷ part) ∷ []) are =
    ap (λ (text : List ℕ). text ∷ []) (part_text line (b ∷ part) at (at + length (b ∷ part)) refl (are.2 ∙ ap (λ (end : ℕ). b ∷ part ++ drop end line) are.1))
span_texts line at ([] ∷ next ∷ parts) are =
    let same : are.0 ≡ at = let e = are.1 in omega arith in
    span_texts line (at + 1) (next ∷ parts) (rw same at are.4.2)
span_texts line at ((b ∷ part) ∷ next ∷ parts) are =
    let first = part_text line (b ∷ part) at (at + length (b ∷ part)) refl (are.2 ∙ ap (λ (end : ℕ). b ∷ part ++ drop end line) are.1) in
    let more = span_texts line (at + length (b ∷ part) + 1) (next ∷ parts) (rw are.1 at are.4.2) in
    rw (first, more) refl

pub texts_of_spans : AreTextsOfSpans
texts_of_spans line = span_texts line 0 (slice_split is_blank line) (parts_of line line 0 refl (omega arith))

-- a loop has looked at a line up to a place, and the run of bytes since the last blank begins at another
pub record IsScanned (line : List ℕ) (from at : ℕ) (spans : List Span) : Type 0 where
  pub low : from ≤ at
  pub solid : IsSolid line from at
  pub whole : token_spans line ≡ spans ++ spans_from from (slice_split is_blank (drop from line))

pub scanned_plain : (line : List ℕ) (from at : ℕ) (spans : List Span) → is_blank (get_or line at 0) ≡ false → IsScanned line from at spans → IsScanned line from (at + 1) spans
scanned_plain line from at spans plain scanned = record { low = let low = scanned.low in omega arith; solid = solid; whole = scanned.whole }
  where
    solid : IsSolid line from (at + 1)
    solid k l h = ⊎_elim {C = is_blank (get_or line k 0) ≡ false} (λ (e : k ≡ at). rw e plain) (λ (below : ¬ (k ≡ at)). scanned.solid k l (omega arith)) (cases_eq k at)

solid_part : (line : List ℕ) (from at : ℕ) → IsSolid line from at → All (λ b. is_blank b ≡ false) (slice_range line from at)
solid_part line from at solid =
    All-weaker (λ b. not (is_blank b) ≡ true) (λ b. is_blank b ≡ false) (λ b h. not-true (is_blank b) h) (slice_range line from at) (solid_range line from at solid)

range_length : (line : List ℕ) (from at : ℕ) → from ≤ at → at ≤ length line → at ≡ from + length (slice_range line from at)
range_length line from at low high = omega (arith, length-take (at - from) (drop from line), length-drop from line)

pub scanned_blank : (line : List ℕ) (from at : ℕ) (spans new : List Span) → at < length line → is_blank (get_or line at 0) ≡ true → new ≡ spans ++ token_at from at → IsScanned line from at spans → IsScanned line (at + 1) (at + 1) new
scanned_blank line from at spans new lt blank made scanned =
    record { low = omega arith; solid = λ k l h. absurd (omega arith); whole = rw (made, append_assoc) (scanned.whole ∙ ap (λ (more : List Span). spans ++ more) next) }
  where
    part : List ℕ
    part = slice_range line from at

    split : drop from line ≡ slice_range line from at ++ get_or line at 0 ∷ drop (at + 1) line
    split = drop_split line from at scanned.low ∙ ap (λ (rest : List ℕ). slice_range line from at ++ rest) (drop_more line at 0 lt)

    next : spans_from from (slice_split is_blank (drop from line)) ≡ token_at from at ++ spans_from (at + 1) (slice_split is_blank (drop (at + 1) line))
    next =
        ap (λ (rest : List ℕ). spans_from from (slice_split is_blank rest)) split
        ∙ ap (spans_from from) (slice_split_at is_blank (slice_range line from at) (get_or line at 0) (drop (at + 1) line) (solid_part line from at scanned.solid) blank)
        ∙ spans-part from at (slice_range line from at) (slice_split is_blank (drop (at + 1) line)) (range_length line from at scanned.low (omega arith))

pub scanned_all : (line : List ℕ) (from at : ℕ) (spans new : List Span) → at ≡ length line → new ≡ spans ++ token_at from (length line) → IsScanned line from at spans → new ≡ token_spans line
scanned_all line from at spans new end made scanned =
    made ∙ ap (λ (n : ℕ). spans ++ token_at from n) (sym end) ∙ sym (scanned.whole ∙ ap (λ (more : List Span). spans ++ more) last)
  where
    all : slice_range line from at ≡ drop from line
    all = take_all (at - from) (drop from line) (omega (arith, length-drop from line))

    last : spans_from from (slice_split is_blank (drop from line)) ≡ token_at from at
    last =
        ap (λ (rest : List ℕ). spans_from from (slice_split is_blank rest)) (sym all)
        ∙ ap (spans_from from) (slice_split_none is_blank (slice_range line from at) (solid_part line from at scanned.solid))
        ∙ spans-part from at (slice_range line from at) [] (range_length line from at scanned.low (omega arith))
        ∙ append-nil (token_at from at)
