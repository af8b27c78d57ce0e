-- Two names that differ.
use Rattle.std.specs.Prelude.{◌≡◌, ℕ, List, [], ◌∷◌, false}
use Rattle.std.specs.List.{IsDistinct}
use Rattle.std.specs.Str.{bytes_eq}
use Rattle.fsl_order.specs.Rows.{AreDistinct}

pub distinct_pair : (a b : List ℕ) → bytes_eq a b ≡ false → AreDistinct (a ∷ b ∷ [])
unfolding IsDistinct
distinct_pair a b differ = ((differ, tt), (tt, tt))
