use Rattle.std.proofs.Common.{◌≡◌, ℕ, false, List, [], ◌∷◌, sym, ◌∙◌}
use Rattle.std.specs.List.{IsDistinct}
use Rattle.std.specs.Str.{bytes_eq}
use Rattle.std.proofs.lemmas.Bool.{not-true}
use Rattle.fsl_order.specs.Rows.{AreDistinct}
use Rattle.tests_tables.proofs.names.are_distinct.Goals as goal

two : (first second : List ℕ) → bytes_eq first second ≡ false → AreDistinct (first ∷ second ∷ [])
unfolding IsDistinct
two first second differ = ((differ, tt), (tt, tt))

pub returns : goal.returns
returns c test = two c.args.first c.args.second (not-true (bytes_eq c.args.first c.args.second) (sym c.ne.ensures ∙ test))
