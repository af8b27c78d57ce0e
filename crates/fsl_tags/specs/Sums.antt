-- A number of a row that tells most rows apart.
use Rattle.std.specs.Prelude.{ℕ, ◌+◌, ◌*◌, List, ◌∷◌, sum_by}
use Rattle.fsl_tags.specs.declared.Assertion.{Assertion}

-- the number in the first four bytes
abbrev pub front : List ℕ → ℕ
front (a ∷ b ∷ c ∷ d ∷ rest) = ((a * 256 + b) * 256 + c) * 256 + d
front bytes = 0

-- that of the name of an assertion's source
abbrev pub mark : Assertion → ℕ
mark a = front a.source

-- the marks of all
abbrev pub marks_of : List Assertion → ℕ
marks_of row = sum_by mark row
