-- What bytes of a message begin with, and how far a message is read.
use Rattle.std.specs.Prelude.{◌≡◌, ℕ, ◌+◌, ◌≤◌, Some, List, ◌∷◌, ◌++◌, length, drop, slice_range}
use Rattle.std.specs.List.{AllByRecursion}
use Rattle.fsl_wire.specs.declared.WireCard.{WireCard}
use Rattle.fsl_wire.specs.declared.WireFault.{WireFault}
use Rattle.fsl_wire.specs.declared.meaning.Meaning.{Meaning}
use Rattle.fsl_wire.specs.declared.fronts.Front.{Front}
use Rattle.fsl_wire.specs.declared.fronts.Front.TheVariants.{Line, Last, Bad}
use Rattle.fsl_wire.specs.Lines.{line_meant}
use Rattle.fsl_wire.specs.Messages.{Part, IsPart, IsLastLine, parts_bytes, cards_from, first_line_fault}
use Rattle.fsl_wire.specs.Meanings.{line_of, wrong_fault}

-- the bytes begin with a line of this meaning, and its content from one place to another
pub record IsLineFront (bytes : List ℕ) (meaning : Meaning) (from to : ℕ) : Type 0 where
  pub line : List ℕ
  pub part : IsPart (record { line = line; content = slice_range bytes from to })
  pub meant : line_meant line ≡ line_of meaning
  pub forward : from ≤ to
  pub inside : to ≤ length bytes
  pub whole : bytes ≡ line ++ 10 ∷ drop from bytes
  pub behind : drop from bytes ≡ slice_range bytes from to ++ drop to bytes

-- the bytes begin with a line that reads, are a last line that reads, or begin with one that doesn't read
abbrev pub IsFrontOf : List ℕ → Front → Type 0
IsFrontOf bytes (Line meaning from to) = IsLineFront bytes meaning from to
IsFrontOf bytes (Last meaning) = IsLastLine bytes × (line_meant bytes ≡ line_of meaning)
IsFrontOf bytes (Bad wrong) = (n : ℕ) → first_line_fault n bytes ≡ Some (wrong_fault wrong n)

-- every line of these bytes reads, and these are its cards, where the first line has this number
abbrev pub IsMessageFrom : ℕ → List ℕ → List (ℕ × WireCard) → Type 0
IsMessageFrom n bytes cards =
    (parts : List Part) × (last : List ℕ) × (bytes ≡ parts_bytes parts ++ last)
    × AllByRecursion IsPart parts × IsLastLine last × (cards ≡ cards_from n parts last)

-- this is the fault of the first line that doesn't read, where the first of all has this number
abbrev pub IsFaultFrom : ℕ → List ℕ → WireFault → Type 0
IsFaultFrom n bytes fault =
    (parts : List Part) × (rest : List ℕ) × (bytes ≡ parts_bytes parts ++ rest)
    × AllByRecursion IsPart parts × (first_line_fault (length parts + n) rest ≡ Some fault)
