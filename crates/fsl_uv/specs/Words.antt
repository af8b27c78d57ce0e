-- Words of a line, one space between them.
use Rattle.std.specs.Prelude.{◌≡◌, ◌≢◌, ⊤, ℕ, ◌==◌, Bool, false, List, [], ◌∷◌, ◌++◌, length, Option, Some, None, decimal, codes, option_map}
use Rattle.std.specs.List.{list_any}
use Rattle.fsl_name.specs.Name.{IsName, name_of}
use Rattle.fsl_date.specs.Moment.{IsMoment, moment_text}
use Rattle.fsl_uv.specs.Entries.{most_of_content, content}
use Rattle.fsl_uv.specs.Cards.{hashed}
use Rattle.std.specs.Prelude.{◌≤◌}

-- whether a byte stands in a text
abbrev pub stands : ℕ → List ℕ → Bool
stands byte text = list_any (λ b. b == byte) text

-- a name, where there is one
abbrev pub IsHash : Option (List ℕ) → Type 0
IsHash None = ⊤
IsHash (Some name) = IsName name

-- a moment, a hash and a further word
abbrev pub stamped : ℕ → Option (List ℕ) → List ℕ → List ℕ
stamped moment hash word = moment_text moment ++ (32 ∷ (hashed hash ++ (32 ∷ word)))

-- a moment, a hash and a size
abbrev pub marks_text : ℕ → Option (List ℕ) → ℕ → List ℕ
marks_text moment hash size = stamped moment hash (decimal size)

-- bytes that a hash is of; none where there is no content
abbrev pub IsContent : Option (List ℕ) → List ℕ → Type 0
IsContent None held = held ≡ []
IsContent (Some name) held = (name ≡ name_of held) × (length held ≤ most_of_content)

-- a content, or none, that has this hash and these bytes
pub record IsHeldAs (name : Option (List ℕ)) (held : List ℕ) (bytes : Option (List ℕ)) : Type 0 where
  pub hash : name ≡ option_map name_of bytes
  pub content : held ≡ content bytes

-- the text of an entry by the words of its line, and what follows the line
abbrev pub parts_text : ℕ → Option (List ℕ) → List ℕ → List ℕ → List ℕ
parts_text moment hash word held = codes "uv " ++ (stamped moment hash word ++ (10 ∷ held))

-- an entry's text by its parts, of which the path isn't read
pub record AreParts (text : List ℕ) (moment : ℕ) (hash : Option (List ℕ)) (word held : List ℕ) : Type 0 where
  pub is_moment : IsMoment moment
  pub is_hash : IsHash hash
  pub is_content : IsContent hash held
  pub layout : text ≡ parts_text moment hash word held
  pub one_line : stands 10 (codes "uv " ++ stamped moment hash word) ≡ false

-- no entry's text has such parts
abbrev pub HasNoParts : List ℕ → Type 0
HasNoParts text =
    (moment : ℕ) (hash : Option (List ℕ)) (word held : List ℕ) → IsMoment moment → IsHash hash → stands 10 word ≡ false → IsContent hash held → text ≢ parts_text moment hash word held
