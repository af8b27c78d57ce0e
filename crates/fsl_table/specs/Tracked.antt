-- What contracts see of a map that knows its way back, and of such a way.
use Rattle.std.specs.Prelude.{ℕ}
use Rattle.fsl_table.specs.Contents.{Contents}

-- what it holds, what it was where the change began, and how many steps lead back
pub record Course (K X : Type 0) : Type 0 where
  pub held : Contents K X
  pub was : Contents K X
  pub back : ℕ
