-- Entries of unversioned files: what a path has from a moment on, and the text in which it is stored.
use Rattle.std.specs.Prelude.{◌≡◌, ◌≤◌, ◌&&◌, ℕ, nat_le, Bool, IsTrue, List, [], ◌∷◌, ◌++◌, length, Option, Some, None, codes}
use Rattle.std.specs.List.{join_with_byte}
use Rattle.fsl_text.specs.Escapes.{escape}
use Rattle.fsl_text.specs.Paths.{path_ok}
use Rattle.fsl_name.specs.Name.{name_of, name_text}
use Rattle.fsl_date.specs.Moment.{IsMoment, moment_text}
use Rattle.fsl_uv.specs.declared.Entry.{Entry}

-- the most bytes of a content, and of a path
abbrev pub most_of_content : ℕ
most_of_content = 16711680

abbrev pub most_of_path : ℕ
most_of_path = 512

-- what a path has: a moment, and a content, or none where the file is deleted
pub record Version : Type 0 where
  pub moment : ℕ
  pub bytes : Option (List ℕ)

-- the bytes of a content, none of a deleted file
abbrev pub content : Option (List ℕ) → List ℕ
content None = []
content (Some bytes) = bytes

-- the hash as it is written: the name of the content, or `-` of a deleted file
abbrev pub hash_text : Option (List ℕ) → List ℕ
hash_text None = codes "-"
hash_text (Some bytes) = name_text (name_of bytes)

-- a path that an entry may have
abbrev pub is_path : List ℕ → Bool
is_path path = path_ok path && nat_le (length path) most_of_path

-- a path of this form, a moment, and a content that isn't too large
pub record IsEntry (e : Entry) : Type 0 where
  pub path : IsTrue (is_path e.path)
  pub moment : IsMoment e.moment
  pub size : length (content e.bytes) ≤ most_of_content

-- what an entry says of its path
abbrev pub version_of : Entry → Version
version_of e = record { moment = e.moment; bytes = e.bytes }

-- the line `uv MOMENT HASH PATH` of an entry, its path escaped
abbrev pub entry_line : Entry → List ℕ
entry_line e = join_with_byte 32 (codes "uv" ∷ moment_text e.moment ∷ hash_text e.bytes ∷ escape e.path ∷ [])

-- the text of an entry: its line, a newline and the content
abbrev pub entry_text : Entry → List ℕ
entry_text e = entry_line e ++ 10 ∷ content e.bytes

-- the text is that of the entry, written as the writer writes it
abbrev pub IsEntryText : List ℕ → Entry → Type 0
IsEntryText text e = IsEntry e × (text ≡ entry_text e)
