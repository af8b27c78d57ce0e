-- Each moment has a text: each number of a day is that of a day of the calendar, counted up a day at a time.
use Rattle.std.proofs.Common.{◌≡◌, ℕ, zero, suc, ◌+◌, ◌-◌, ◌/◌, ◌%◌, ◌<◌, ◌≤◌, true, List, inl, inr, refl, arith, pos}
use Rattle.std.specs.Prelude.{◌&&◌, nat_le}
use Rattle.std.proofs.lemmas.Bool.{cases_lt, and_from}
use Rattle.jiff_core.proofs.SignedLemmas.{signed_arith}
use Rattle.jiff_core.proofs.CalendarLemmas.{days_of_months_all, day_count-next_year}
use Rattle.fsl_date.specs.Calendar.{days_in_month, days_of_months, days_of_years, day_number}
use Rattle.fsl_date.specs.Parts.{is_day, is_time, time_ms}
use Rattle.fsl_date.specs.Moment.{Civil, IsMoment, IsPrinted, millis_text}
use Rattle.fsl_date.proofs.Conditions.{le_to}
use Rattle.fsl_date.proofs.Days.{days_of_months-same, day_count-new_year}
use Rattle.fsl_date.proofs.Printed.{printed_by}

-- the calendar has the day, of whatever year, and this is its number
pub record IsDay (y m d n : ℕ) : Type 0 where
  pub from_january : 1 ≤ m
  pub to_december : m ≤ 12
  pub from_first : 1 ≤ d
  pub to_last : d ≤ days_in_month y m
  pub number : day_number y m d ≡ n

abbrev SomeDay : ℕ → Type 0
SomeDay n = (y : ℕ) × (m : ℕ) × (d : ℕ) × IsDay y m d n

pub days_of_months-next : (y m : ℕ) → 1 ≤ m → days_of_months y m ≡ days_of_months y (m - 1) + days_in_month y m
days_of_months-next y zero h = absurd (omega arith)
days_of_months-next y (suc m) h = let e : suc m - 1 ≡ m = omega arith in rw e refl

pub days_of_years-next : (y : ℕ) → days_of_years (y + 1) ≡ days_of_years y + days_of_months y 12
days_of_years-next y =
    let next = day_count-next_year (pos y) (pos (y + 1)) (omega (arith, signed_arith)) (omega (arith, signed_arith)) in
    omega (arith, next, day_count-new_year y, day_count-new_year (y + 1), days_of_months_all (pos y), days_of_months-same y 12)

first_of_next : (y m : ℕ) → 28 ≤ days_in_month y m
first_of_next y m = grind arith

next_day : (n y m d : ℕ) → IsDay y m d n → SomeDay (suc n)
next_day n y m d h =
    elim (cases_lt d (days_in_month y m)) [
      | inl more ↦ (y, m, d + 1, record { from_january = h.from_january; to_december = h.to_december; from_first = omega arith; to_last = omega (arith, more); number = omega (arith, h.number, h.from_first) })
      | inr last ↦
          let e : d ≡ days_in_month y m = omega (arith, last, h.to_last) in
          elim (cases_lt m 12) [
            | inl month ↦
                let back : m + 1 - 1 ≡ m = omega arith in (
                  y,
                  m + 1,
                  1,
                  record {
                    from_january = omega arith;
                    to_december = omega (arith, month);
                    from_first = omega arith;
                    to_last = omega (arith, first_of_next y (m + 1));
                    number = rw back (omega (arith, h.number, e, h.from_first, days_of_months-next y m h.from_january));
                  },
                )
            | inr december ↦
                let twelve : m ≡ 12 = omega (arith, december, h.to_december) in
                let number = rw (twelve) at h.number in
                let e' = rw (twelve) at e in (
                  y + 1,
                  1,
                  1,
                  record {
                    from_january = omega arith;
                    to_december = omega arith;
                    from_first = omega arith;
                    to_last = omega (arith, first_of_next (y + 1) 1);
                    number = omega (arith, number, e', h.from_first, days_of_years-next y, days_of_months-next y 12 (omega arith));
                  },
                )
          ]
    ]

some_day : (n : ℕ) → SomeDay n
some_day zero = (0, 1, 1, record { from_january = omega arith; to_december = omega arith; from_first = omega arith; to_last = omega arith; number = refl })
some_day (suc n) = let day = some_day n in next_day n day.0 day.1 day.2 day.3

-- the days of ten thousand years are of these years
year_in : (y m d n : ℕ) → IsDay y m d n → n < 3652425 → y ≤ 9999
year_in y m d n h small = omega (arith, h.number, small)

is_day-by : (y m d n : ℕ) → IsDay y m d n → y ≤ 9999 → is_day y m d ≡ true
is_day-by y m d n h year =
    and_from (nat_le y 9999 && nat_le 1 m && nat_le m 12 && nat_le 1 d) (nat_le d (days_in_month y m))
    (and_from (nat_le y 9999 && nat_le 1 m && nat_le m 12) (nat_le 1 d)
    (and_from (nat_le y 9999 && nat_le 1 m) (nat_le m 12)
    (and_from (nat_le y 9999) (nat_le 1 m) (le_to y 9999 year) (le_to 1 m h.from_january))
    (le_to m 12 h.to_december))
    (le_to 1 d h.from_first))
    (le_to d (days_in_month y m) h.to_last)

is_time-by : (t : ℕ) → t < 86400000 → is_time (t / 3600000) (t / 60000 % 60) (t / 1000 % 60) (t % 1000) ≡ true
is_time-by t h =
    and_from (nat_le (t / 3600000) 23 && nat_le (t / 60000 % 60) 59 && nat_le (t / 1000 % 60) 59) (nat_le (t % 1000) 999)
    (and_from (nat_le (t / 3600000) 23 && nat_le (t / 60000 % 60) 59) (nat_le (t / 1000 % 60) 59)
    (and_from (nat_le (t / 3600000) 23) (nat_le (t / 60000 % 60) 59) (le_to (t / 3600000) 23 (omega (arith, h))) (le_to (t / 60000 % 60) 59 (omega arith)))
    (le_to (t / 1000 % 60) 59 (omega arith)))
    (le_to (t % 1000) 999 (omega arith))

time_ms-by : (t : ℕ) → time_ms (t / 3600000) (t / 60000 % 60) (t / 1000 % 60) (t % 1000) ≡ t
time_ms-by t = omega arith

pub some_text : (ms : ℕ) → IsMoment ms → (text : List ℕ) × IsPrinted ms text
some_text ms h =
    let n : ℕ = ms / 86400000 in
    let t : ℕ = ms % 86400000 in
    let day = some_day (ms / 86400000) in
    let below : ms / 86400000 < 3652425 = omega (arith, h) in
    let year = year_in day.0 day.1 day.2 (ms / 86400000) day.3 below in
    let c : Civil = record { year = day.0; month = day.1; day = day.2; hour = ms % 86400000 / 3600000; minute = ms % 86400000 / 60000 % 60; second = ms % 86400000 / 1000 % 60; milli = ms % 86400000 % 1000 } in
    let time = time_ms-by (ms % 86400000) in
    let number = day.3.number in
    (millis_text c, printed_by c ms (is_day-by day.0 day.1 day.2 (ms / 86400000) day.3 year) (is_time-by (ms % 86400000) (omega arith)) (omega (arith, time, number)) (millis_text c) refl)
