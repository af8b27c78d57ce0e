-- A law of technotes.
use Rattle.std.specs.Prelude.{◌≡◌, ℕ, List, ◌∷◌, true, false, map}
use Rattle.std.specs.Str.{bytes_eq}
use Rattle.fsl_order.specs.Rows.{by_name, AreDistinct}
use Rattle.fsl_wiki.specs.declared.Note.{Note}
use Rattle.fsl_wiki.specs.declared.Fact.{Fact}
use Rattle.fsl_wiki.specs.declared.Fact.TheVariants as fact
use Rattle.fsl_wiki.specs.Pages.{fact_name, pages_row}

-- one technote more makes no other one current
abbrev pub NoOtherCurrent : Type 0
NoOtherCurrent =
    (facts : List Fact) (note : Note) (name : List ℕ) → AreDistinct (map fact_name (fact.Note note ∷ facts)) → bytes_eq note.name name ≡ false
    → (pages_row (by_name fact_name (fact.Note note ∷ facts)) name).1 ≡ true → (pages_row facts name).1 ≡ true
