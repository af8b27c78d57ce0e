-- What contracts see of clocks: their moments, as milliseconds since 0000-01-01T00:00:00.000.
use Rattle.std.specs.Prelude.{◌≡◌, ℕ, ◌+◌, ◌-◌, ◌/◌, ◌^◌, nat_lt, min, List, ◌++◌, replicate, Option, Some, None, IfSome, if◌then◌else◌}

-- a clock was asked, and answered those moments in their order: what is still told goes on from what was told by them, and a clock that tells no more never tells again
abbrev pub Asks : Option (List ℕ) → Option (List ℕ) → List ℕ → Type 0
Asks before after moments = IfSome after (λ told. (was : List ℕ) × (before ≡ Some was) × (told ≡ was ++ moments))

-- a clock that is set: its moment, and how often it was asked, up to the last value of u64
pub record Set : Type 0 where
  pub moment : ℕ
  pub calls : ℕ

-- the moments that it answered, told until its count stands at the last value
abbrev pub set_told : Set → Option (List ℕ)
set_told s = if nat_lt s.calls (2 ^ 64 - 1) then Some (replicate s.calls s.moment) else None

-- the moment nearest to so many nanoseconds after 1970
abbrev pub nearest : ℕ → ℕ
nearest nanos = min (nanos / 1_000_000 + 62_167_219_200_000) 315_569_519_999_999
