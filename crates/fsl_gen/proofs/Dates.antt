-- The dates of the artifacts.
use Rattle.std.proofs.Common.{◌≡◌, ℕ, ◌+◌, ◌*◌, refl}
use Rattle.fsl_gen.specs.Table.{date_at}

-- in milliseconds since the year 0 began
pub date_is : (i : ℕ) → date_at i ≡ 63745056000000 + 1000 * i
unfolding date_at
date_is i = refl
