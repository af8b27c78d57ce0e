-- The fields of a head, by name.
use Rattle.std.specs.Prelude.{◌≡◌, ℕ, ◌<◌, ◌+◌, Bool, List, [], ◌∷◌, length, map, drop, get_or, if◌then◌else◌, ◌==◌, bytes_eq}
use Rattle.std.specs.Char.{to_ascii_lowercase}
use Rattle.httparse.specs.declared.spans.HeaderSpan.{HeaderSpan}
use Rattle.httparse.specs.Spans.{header_bytes}

-- two texts are one but for the case of letters
abbrev pub same_text : List ℕ → List ℕ → Bool
same_text a b = bytes_eq (map to_ascii_lowercase a) (map to_ascii_lowercase b)

-- the values of the fields of that name, in order
abbrev pub values_of : List ℕ → List (List ℕ × List ℕ) → List (List ℕ)
values_of name [] = []
values_of name (f ∷ fields) = if same_text f.0 name then f.1 ∷ values_of name fields else values_of name fields

-- the bytes before the first semicolon
abbrev pub before_semicolon : List ℕ → List ℕ
before_semicolon [] = []
before_semicolon (b ∷ bytes) = if b == 59 then [] else b ∷ before_semicolon bytes

-- the first header of that name stands at i
pub record IsAt (buf : List ℕ) (headers : List HeaderSpan) (name : List ℕ) (i : ℕ) : Type 0 where
  pub inside : i < length headers
  pub values : (d : HeaderSpan) → values_of name (map (header_bytes buf) headers) ≡ (header_bytes buf (get_or headers i d)).1 ∷ values_of name (map (header_bytes buf) (drop (i + 1) headers))
