-- What is printed: a status and a text, and the refusals among them.
use Rattle.std.specs.Prelude.{[], ℕ, List, ◌∷◌, ◌++◌, codes, decimal}
use Rattle.fsl_name.specs.Name.{name_text}

-- the status, and the text that is written
pub record Printed : Type 0 where
  pub status : ℕ
  pub text : List ℕ

-- a status and a text
abbrev pub with_text : ℕ → List ℕ → Printed
with_text status text = record { status = status; text = text }

-- the bytes of a line
abbrev pub line_of : List ℕ → List ℕ
line_of text = text ++ 10 ∷ []

-- a status and a line
abbrev pub with_line : ℕ → List ℕ → Printed
with_line status text = with_text status (line_of text)

-- ---- what is said of a fault

-- words outside the grammar
abbrev pub usage : Printed
usage = record { status = 1; text = codes "usage: fossil REPOSITORY COMMAND [WORDS]" ++ 10 ∷ [] }

-- a call of a disk failed
abbrev pub disk_fault : Printed
disk_fault = with_line 4 (codes "disk fault")

-- a read of the input or of the users file failed
abbrev pub input_fault : Printed
input_fault = with_line 5 (codes "input fault")

-- a door or the dial failed
abbrev pub link_fault : Printed
link_fault = with_line 7 (codes "link fault")

-- there was no memory
abbrev pub no_memory : Printed
no_memory = with_line 9 (codes "out of memory")

-- a content whose bytes were read and have another name than its own
abbrev pub damaged : List ℕ → List ℕ → Printed
damaged name found = record { status = 12; text = codes "damaged " ++ name_text name ++ 32 ∷ name_text found ++ 10 ∷ [] }

-- ---- refusals

-- a refusal for a reason
abbrev pub refused : List ℕ → Printed
refused text = record { status = 3; text = codes "refused: " ++ text ++ 10 ∷ [] }

-- an input of more than 2^27 bytes
abbrev pub too_long : Printed
too_long = refused (codes "input too long")

-- a line that doesn't read, by its number
abbrev pub bad_line : ℕ → Printed
bad_line n = refused (codes "line " ++ decimal n)

-- a card that is none of files, by the line on which it stands
abbrev pub not_a_file : ℕ → Printed
not_a_file n = refused (codes "not a file line " ++ decimal n)

-- a file that was sent under a wrong name, by this and the name of its bytes
abbrev pub wrong_name : List ℕ → List ℕ → List ℕ
wrong_name name found = codes "wrong name " ++ name_text name ++ 32 ∷ name_text found

abbrev pub wrong : List ℕ × List ℕ → Printed
wrong names = refused (wrong_name names.0 names.1)

-- a file of more than 2^24 bytes, by its name and its size
abbrev pub too_large : List ℕ → ℕ → Printed
too_large name size = refused (codes "too large " ++ name_text name ++ 32 ∷ decimal size)

-- a file for which there is no room, by its name
abbrev pub full : List ℕ → Printed
full name = refused (codes "full " ++ name_text name)

-- a line of a word and a name
abbrev pub name_line : List ℕ → List ℕ → List ℕ
name_line word name = word ++ 32 ∷ name_text name ++ 10 ∷ []
