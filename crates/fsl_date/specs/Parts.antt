-- A day and a time of day by their numbers, each for itself.
use Rattle.std.specs.Prelude.{ℕ, ◌+◌, ◌*◌, ◌&&◌, nat_le, Bool}
use Rattle.fsl_date.specs.Calendar.{days_in_month}

-- the calendar has the day
abbrev pub is_day : ℕ → ℕ → ℕ → Bool
is_day y m d = nat_le y 9999 && nat_le 1 m && nat_le m 12 && nat_le 1 d && nat_le d (days_in_month y m)

-- the clock has the time
abbrev pub is_time : ℕ → ℕ → ℕ → ℕ → Bool
is_time hour minute second milli = nat_le hour 23 && nat_le minute 59 && nat_le second 59 && nat_le milli 999

-- its milliseconds since midnight
abbrev pub time_ms : ℕ → ℕ → ℕ → ℕ → ℕ
time_ms hour minute second milli = ((hour * 60 + minute) * 60 + second) * 1000 + milli
