-- Messages about unversioned files. A message is the texts of its cards, one after another, as the writers write them.
use Rattle.std.specs.Prelude.{◌≡◌, ◌≢◌, ◌+◌, ◌≤◌, ℕ, List, [], ◌∷◌, ◌++◌, length, flat_map, Option, Some, None, codes, decimal, IsTrue}
use Rattle.std.specs.List.{join_with_byte, AllByRecursion}
use Rattle.fsl_text.specs.Escapes.{escape}
use Rattle.fsl_name.specs.Name.{name_of, name_text, IsName}
use Rattle.fsl_date.specs.Moment.{IsMoment, moment_text}
use Rattle.fsl_uv.specs.declared.Card.{Card}
use Rattle.fsl_uv.specs.declared.Card.TheVariants.{Igot, Gimme, File}
use Rattle.fsl_uv.specs.Entries.{IsEntry, is_path, content, hash_text, most_of_content}

-- a hash as it is written, `-` where there is no content
abbrev pub hashed : Option (List ℕ) → List ℕ
hashed None = codes "-"
hashed (Some name) = name_text name

-- a line `OPERATOR PATH MOMENT HASH SIZE` with its newline, the path escaped
abbrev pub stamp_line : List ℕ → List ℕ → ℕ → List ℕ → ℕ → List ℕ
stamp_line operator path moment hash size = join_with_byte 32 (operator ∷ escape path ∷ moment_text moment ∷ hash ∷ decimal size ∷ []) ++ 10 ∷ []

-- the text of a file: its line, the content and a newline
abbrev pub file_text : List ℕ → ℕ → List ℕ → List ℕ → List ℕ
file_text path moment hash bytes = stamp_line (codes "uvfile") path moment hash (length bytes) ++ (bytes ++ (10 ∷ []))

-- the text of a card
abbrev pub card_text : Card → List ℕ
card_text (Igot path moment hash size) = stamp_line (codes "uvigot") path moment (hashed hash) size
card_text (Gimme path) = join_with_byte 32 (codes "uvgimme" ∷ escape path ∷ []) ++ 10 ∷ []
card_text (File e) = file_text e.path e.moment (hash_text e.bytes) (content e.bytes)

-- a name, and at most as many bytes as a content has; where there is no content, none
abbrev pub IsSized : Option (List ℕ) → ℕ → Type 0
IsSized None size = size ≡ 0
IsSized (Some name) size = IsName name × (size ≤ most_of_content)

-- what a card of a message meets
abbrev pub IsCard : Card → Type 0
IsCard (Igot path moment hash size) = IsTrue (is_path path) × IsMoment moment × IsSized hash size
IsCard (Gimme path) = IsTrue (is_path path)
IsCard (File e) = IsEntry e

abbrev pub message_text : List Card → List ℕ
message_text cards = flat_map card_text cards

-- the message has these cards
abbrev pub IsMessage : List ℕ → List Card → Type 0
IsMessage bytes cards = AllByRecursion IsCard cards × (bytes ≡ message_text cards)

-- ---- the first line that doesn't read

-- the bytes begin with a file whose content has another name than its line says
abbrev pub IsMisnamed : List ℕ → List ℕ → List ℕ → Type 0
IsMisnamed bytes kept found =
    (path : List ℕ) × (moment : ℕ) × (held more : List ℕ) × IsTrue (is_path path) × IsMoment moment × IsName kept × (length held ≤ most_of_content)
    × (bytes ≡ file_text path moment (name_text kept) held ++ more) × (found ≡ name_of held) × (kept ≢ found)

-- the bytes begin with no card, and with no file of another name
pub record BeginsNoCard (bytes : List ℕ) : Type 0 where
  pub card : (c : Card) (more : List ℕ) → IsCard c → bytes ≢ card_text c ++ more
  pub misnamed : (kept found : List ℕ) → ¬ (IsMisnamed bytes kept found)

-- cards stand there, and then something else; each card has one line, and the content of a file and its newline have none
pub record FailsAfter (bytes : List ℕ) (cards : List Card) (rest : List ℕ) : Type 0 where
  pub good : AllByRecursion IsCard cards
  pub layout : bytes ≡ message_text cards ++ rest

-- the first line that begins no card has this number, counted from 1
abbrev pub IsBadLine : List ℕ → ℕ → Type 0
IsBadLine bytes line = (cards : List Card) × (rest : List ℕ) × FailsAfter bytes cards rest × (rest ≢ []) × BeginsNoCard rest × (line ≡ length cards + 1)

-- the first content with another name: the name of its line, and its own
abbrev pub IsWrongName : List ℕ → List ℕ → List ℕ → Type 0
IsWrongName bytes kept found = (cards : List Card) × (rest : List ℕ) × FailsAfter bytes cards rest × IsMisnamed rest kept found
