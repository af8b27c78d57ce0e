-- A row with an assertion in its place.
use Rattle.std.specs.Prelude.{List, [], ◌∷◌}
use Rattle.std.specs.Ordering.{match_ordering}
use Rattle.fsl_order.specs.Names.{bytes_cmp}
use Rattle.fsl_tags.specs.declared.Assertion.{Assertion}

-- before the first whose tag isn't less, or in the place of that of its tag
abbrev pub put_in : List Assertion → Assertion → List Assertion
put_in [] a = a ∷ []
put_in (x ∷ xs) a = match_ordering (bytes_cmp x.tag a.tag) (x ∷ put_in xs a) (a ∷ xs) (a ∷ x ∷ xs)
