-- The count of a machine that stores nothing.
use Rattle.std.specs.Prelude.{◌≤◌}
use Rattle.std.proofs.Common.{arith}

pub none_less : 0 ≤ 0
none_less = omega arith
