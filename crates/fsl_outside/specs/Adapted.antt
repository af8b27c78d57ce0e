-- What clauses see of an adapter over a reader or a writer of std.
use Rattle.std.specs.Prelude.{ℕ, Option, IsErr, IsNone, Result}

-- what it adapts, if anything, and how many calls failed, up to the last value of u64
pub record Adapted (R : Type 0) : Type 0 where
  pub inner : Option R
  pub faults : ℕ

-- over nothing every call fails, and nothing it stays
abbrev pub NeverServes : {R T E : Type 0} → Adapted R → Adapted R → Result T E → Type 0
NeverServes old new result = IsNone old.inner → IsErr result × IsNone new.inner
