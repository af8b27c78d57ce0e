-- What clauses see of bytes that come in and of bytes that go out.
use Rattle.std.specs.Prelude.{ℕ, List, Option}

pub record SourceState : Type 0 where
  -- the bytes that reads will give from here on, where they are told
  pub left : Option (List ℕ)
  -- how many calls failed, up to the last value of u64
  pub faults : ℕ

pub record SinkState : Type 0 where
  -- the bytes that were taken, where they are told
  pub taken : Option (List ℕ)
  -- how many calls failed, up to the last value of u64
  pub faults : ℕ
