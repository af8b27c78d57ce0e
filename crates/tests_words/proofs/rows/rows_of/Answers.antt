use Rattle.std.proofs.Common.{ℕ, List, [], ◌∷◌}
use Rattle.std.specs.List.{IsDistinct}
use Rattle.fsl_order.specs.Rows.{AreDistinct}
use Rattle.tests_words.proofs.rows.rows_of.Goals as goal

alone : (name : List ℕ) → AreDistinct (name ∷ [])
unfolding IsDistinct
alone name = (tt, tt)

pub build-requires : goal.build-requires
build-requires c = alone c.row_of.result.name
