-- The tokens of a line: its longest runs of bytes that are no blank.
use Rattle.std.specs.Prelude.{map, ◌≡◌, ℕ, ◌+◌, ◌-◌, ◌<◌, ◌≤◌, ◌==◌, ◌||◌, ◌⊎◌, Bool, not, List, [], ◌∷◌, length, nat_lt, slice_index, slice_range, IsTrue, if◌then◌else◌}
use Rattle.std.specs.List.{filter, slice_split, AllPass, AllPairs, Contains}
use Rattle.fsl_text.specs.declared.fault.Span.{Span}
use Rattle.fsl_text.specs.Bytes.{tab, carriage_return, space, is_empty}

-- space, tab and carriage return stand between tokens
abbrev pub is_blank : ℕ → Bool
is_blank b = (b == space) || (b == tab) || (b == carriage_return)

-- the tokens: of the parts between blanks those that have a byte
abbrev pub tokens_of : List ℕ → List (List ℕ)
tokens_of line = filter (λ part. not (is_empty part)) (slice_split is_blank line)

-- the bytes of a span
abbrev pub span_text : List ℕ → Span → List ℕ
span_text line span = slice_range line span.from span.to

-- a token stands from one place to another: bytes that are no blank, with a blank or an end of the line on both sides
pub record IsTokenAt (line : List ℕ) (from to : ℕ) : Type 0 where
  pub some : from < to
  pub inside : to ≤ length line
  pub solid : AllPass (λ b. not (is_blank b)) (slice_range line from to)
  pub begins : (from ≡ 0) ⊎ IsTrue (is_blank (slice_index line (from - 1)))
  pub ends : (to ≡ length line) ⊎ IsTrue (is_blank (slice_index line to))

-- the places of parts that stand in a row, each but the last with one blank behind it, where they have a byte
abbrev pub spans_from : ℕ → List (List ℕ) → List Span
spans_from at [] = []
spans_from at (part ∷ parts) =
    if is_empty part then spans_from (at + 1) parts
    else record { from = at; to = at + length part } ∷ spans_from (at + length part + 1) parts

-- the tokens of a line with their places
abbrev pub token_spans : List ℕ → List Span
token_spans line = spans_from 0 (slice_split is_blank line)

-- the span from one place to another, where it has a byte
abbrev pub token_at : ℕ → ℕ → List Span
token_at from to = if nat_lt from to then record { from = from; to = to } ∷ [] else []

-- spans are the tokens of a line: each is one, each token is among them, and a later one begins behind the end of an earlier one
pub record AreTokens (line : List ℕ) (spans : List Span) : Type 0 where
  pub tokens : (span : Span) → Contains spans span → IsTokenAt line span.from span.to
  pub every : (from to : ℕ) → IsTokenAt line from to → Contains spans (record { from = from; to = to })
  pub rising : AllPairs (λ earlier later. earlier.to < later.from) spans

-- the bytes at the places of a line's tokens are its tokens
abbrev pub AreTextsOfSpans : Type 0
AreTextsOfSpans = (line : List ℕ) → map (span_text line) (token_spans line) ≡ tokens_of line
