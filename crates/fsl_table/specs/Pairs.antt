-- What belongs to a name, among pairs of a name and one that belongs to it.
use Rattle.std.specs.Prelude.{ℕ, List, [], ◌∷◌, Bool, true, false, if◌then◌else◌, ◌&&◌, Option, Some, None, filter, is_some}
use Rattle.std.specs.Str.{bytes_eq}
use Rattle.std.specs.Ordering.{is_lt}
use Rattle.fsl_order.specs.Names.{bytes_cmp, has}
use Rattle.fsl_table.specs.Contents.{value_at}
use Rattle.fsl_table.specs.Exact.{pair_cmp}
use Rattle.fsl_table.specs.declared.key.Pair.{Pair}

-- the second name of a pair that has this name as its first
abbrev pub second_of : List ℕ → Pair × Unit {0} → Option (List ℕ)
second_of p e = if bytes_eq e.0.first p then e.0.second else None

-- what may be there before a list
abbrev pub put_first : Option (List ℕ) → List (List ℕ) → List (List ℕ)
put_first None cs = cs
put_first (Some c) cs = c ∷ cs

-- the names that belong to a name, in order
abbrev pub seconds : List ℕ → List (Pair × Unit {0}) → List (List ℕ)
seconds p [] = []
seconds p (e ∷ es) = put_first (second_of p e) (seconds p es)

-- whether a name comes after what may be there
abbrev pub comes_after : Option (List ℕ) → List ℕ → Bool
comes_after None c = true
comes_after (Some a) c = is_lt (bytes_cmp a c)

-- those after what may be there
abbrev pub rest_after : Option (List ℕ) → List (List ℕ) → List (List ℕ)
rest_after a cs = filter (comes_after a) cs

-- the next name and those after it
abbrev pub left_from : Option (List ℕ) → List (List ℕ) → List (List ℕ)
left_from None cs = []
left_from (Some c) cs = c ∷ rest_after (Some c) cs

-- whether the name is there, and this
abbrev pub is_name : Option (List ℕ) → List ℕ → Bool
is_name None q = false
is_name (Some p) q = bytes_eq p q

-- whether a pair is among those of a table
abbrev pub is_linked : List (Pair × Unit {0}) → Pair → Bool
is_linked entries k = is_some (value_at pair_cmp k entries)

-- whether a pair is that of a second name and a first that may be there
abbrev pub is_link : List ℕ → Option (List ℕ) → Pair → Bool
is_link second first k = is_name k.second second && is_name first k.first

-- whether a pair is that of a second name and one of these first
abbrev pub is_link_of : List ℕ → List (List ℕ) → Pair → Bool
is_link_of second firsts k = is_name k.second second && has firsts k.first
