-- The text of a moment is the one that it is printed as: a day's number gives the year, the month and the day back.
use Rattle.std.proofs.Common.{◌≡◌, ℕ, zero, suc, ◌+◌, ◌-◌, ◌*◌, ◌/◌, ◌%◌, ◌<◌, ◌≤◌, Bool, true, false, List, inl, inr, refl, sym, ap, subst, ◌∙◌, arith, Some}
use Rattle.std.specs.Prelude.{◌&&◌, nat_le, cond, count_by}
use Rattle.std.specs.List.{range_with_len}
use Rattle.std.proofs.lemmas.Bool.{cases_lt, le-leb, lt-leb, and_parts, leb-true}
use Rattle.std.proofs.lemmas.List.Sums.{sum_by-cons}
use Rattle.fsl_date.specs.Calendar.{is_leap_year, days_in_month, days_of_months, days_of_years, day_number, has_begun, near_year, year_of, month_of}
use Rattle.fsl_date.specs.Moment.{Civil, is_civil, civil_ms, civil_of, millis_text, date_in, moment_text, IsMoment, IsPrinted, IsAlwaysPrinted, IsPrintedOnce}
use Rattle.fsl_date.proofs.Printed.{printed_is_read}
use Rattle.fsl_date.proofs.EachMoment.{IsDay, days_of_months-next, days_of_years-next, some_text}

-- ---- how many of some numbers that rise are reached

reached : (ℕ → ℕ) → ℕ → ℕ → ℕ → ℕ
reached f x from len = count_by (λ k. nat_le (f k) x) (range_with_len from len)

reached-zero : (f : ℕ → ℕ) (x from : ℕ) → reached f x from 0 ≡ 0
unfolding reached
reached-zero f x from = refl

reached-suc : (f : ℕ → ℕ) (x from len : ℕ) → reached f x from (suc len) ≡ cond (nat_le (f from) x) 1 0 + reached f x (from + 1) len
unfolding reached
reached-suc f x from len = sum_by-cons (λ k. cond (nat_le (f k) x) 1 0) from (range_with_len (from + 1) len)

none_reached : (f : ℕ → ℕ) (x m : ℕ) → ((k : ℕ) → m < k → x < f k) → (len from : ℕ) → m < from → reached f x from len ≡ 0
none_reached f x m high zero from past = reached-zero f x from
none_reached f x m high (suc len) from past =
    let rest = none_reached f x m high len (from + 1) (omega arith) in
    let no : nat_le (f from) x ≡ false = lt-leb (f from) x (high from past) in
    omega (arith, rest, reached-suc f x from len, ap {B = ℕ} (λ (b : Bool). cond b 1 0) no)

all_reached : (f : ℕ → ℕ) (x m : ℕ) → ((k : ℕ) → k ≤ m → f k ≤ x) → ((k : ℕ) → m < k → x < f k)
    → (len from : ℕ) → from ≤ m + 1 → m + 1 ≤ from + len → from + reached f x from len ≡ m + 1
all_reached f x m low high zero from begins ends = omega (arith, reached-zero f x from)
all_reached f x m low high (suc len) from begins ends =
    elim (cases_lt m from) [
      | inl past ↦ omega (arith, past, none_reached f x m high (suc len) from past)
      | inr within ↦
          let rest = all_reached f x m low high len (from + 1) (omega (arith, within)) (omega (arith, ends)) in
          let yes : nat_le (f from) x ≡ true = le-leb (f from) x (low from within) in
          omega (arith, rest, reached-suc f x from len, ap {B = ℕ} (λ (b : Bool). cond b 1 0) yes)
    ]

-- ---- months

days_of_months-rises : (y m n : ℕ) → m ≤ n → days_of_months y m ≤ days_of_months y n
days_of_months-rises y m zero h = let e : m ≡ 0 = omega arith in subst (λ k. days_of_months y k ≤ days_of_months y 0) (sym e) (omega arith)
days_of_months-rises y m (suc n) h =
    elim (cases_lt n m) [
      | inl last ↦ let e : m ≡ suc n = omega (arith, last, h) in subst (λ k. days_of_months y k ≤ days_of_months y (suc n)) (sym e) (omega arith)
      | inr more ↦ let before = days_of_months-rises y m n more in omega (arith, before)
    ]

month-is : (y m d : ℕ) → IsDay y m d (day_number y m d) → month_of y (day_number y m d) ≡ m
unfolding reached
month-is y m d h =
    let low : (k : ℕ) → k ≤ m → day_number y k 1 ≤ day_number y m d =
    λ k le. omega (arith, days_of_months-rises y (k - 1) (m - 1) (omega (arith, le))) in
    let high : (k : ℕ) → m < k → day_number y m d < day_number y k 1 =
    λ k lt. omega (arith, h.from_january, h.from_first, h.to_last, days_of_months-next y m h.from_january, days_of_months-rises y m (k - 1) (omega (arith, lt))) in
    let count : 1 + month_of y (day_number y m d) ≡ m + 1 =
    all_reached (λ k. day_number y k 1) (day_number y m d) m low high 12 1 (omega arith) (omega (arith, h.to_december)) in
    omega (arith, count)

-- ---- years

year_days : (y : ℕ) (b : Bool) → is_leap_year y ≡ b → days_of_months y 12 ≡ 365 + cond b 1 0
year_days y true h = omega (arith, ap {B = ℕ} (λ (b : Bool). cond b 29 28) h)
year_days y false h = omega (arith, ap {B = ℕ} (λ (b : Bool). cond b 29 28) h)

year_most : (y : ℕ) (b : Bool) → is_leap_year y ≡ b → days_of_months y 12 ≤ 366
year_most y true h = omega (arith, year_days y true h)
year_most y false h = omega (arith, year_days y false h)

-- 400 years have 146097 days, and a year begins at most so far from its share of them
year_low : (y : ℕ) → 146097 * y ≤ 400 * days_of_years y + 396
year_low y = omega arith

year_high : (y : ℕ) → 400 * days_of_years y ≤ 146097 * y + 699
year_high y = omega arith

guess_low : (y d n : ℕ) → 146097 * y ≤ 400 * d + 396 → d ≤ n → y ≤ n * 400 / 146097 + 1
guess_low y d n h k = omega arith

guess_high : (y d n : ℕ) → 400 * d ≤ 146097 * y + 699 → n < d + 366 → n * 400 / 146097 ≤ y + 1
guess_high y d n h k = omega arith

near-is : (n y g : ℕ) → has_begun n y ≡ true → has_begun n (y + 1) ≡ false → has_begun n (y + 2) ≡ false → y ≤ g + 1 → g ≤ y + 1 → near_year n g ≡ y
near-is n y g begun next after low high =
    elim (cases_lt g y) [
      | inl less ↦
          let e : g + 1 ≡ y = omega (arith, less, low) in
          let b : has_begun n (g + 1) ≡ true = ap (has_begun n) e ∙ begun in
          ap (λ b. cond b (g + 1) (cond (has_begun n g) g (g - 1))) b ∙ e
      | inr more ↦ elim (cases_lt y g) [
        | inl greater ↦
            let e : g ≡ y + 1 = omega (arith, greater, high) in
            let e' : g + 1 ≡ y + 2 = omega (arith, e) in
            let b : has_begun n (g + 1) ≡ false = ap (has_begun n) e' ∙ after in
            let b' : has_begun n g ≡ false = ap (has_begun n) e ∙ next in
            ap (λ b. cond b (g + 1) (cond (has_begun n g) g (g - 1))) b ∙ ap (λ b. cond b g (g - 1)) b' ∙ omega (arith, e)
        | inr same ↦
            let e : g ≡ y = omega (arith, same, more) in
            let e' : g + 1 ≡ y + 1 = omega (arith, e) in
            let b : has_begun n (g + 1) ≡ false = ap (has_begun n) e' ∙ next in
            let b' : has_begun n g ≡ true = ap (has_begun n) e ∙ begun in
            ap (λ b. cond b (g + 1) (cond (has_begun n g) g (g - 1))) b ∙ ap (λ b. cond b g (g - 1)) b' ∙ e
      ]
    ]

in_year : (y m d : ℕ) → IsDay y m d (day_number y m d) → day_number y m d < days_of_years y + days_of_months y 12
in_year y m d h =
    omega (arith, h.from_january, h.from_first, h.to_last, days_of_months-next y m h.from_january, days_of_months-rises y m 12 h.to_december)

begins : (y n : ℕ) → days_of_years y ≤ n → has_begun n y ≡ true
begins y n h = le-leb (day_number y 1 1) n (omega arith)

not_begun : (y n : ℕ) → n < days_of_years y → has_begun n y ≡ false
not_begun y n h = lt-leb (day_number y 1 1) n (omega arith)

year-is : (y m d : ℕ) → IsDay y m d (day_number y m d) → year_of (day_number y m d) ≡ y
year-is y m d h =
    let n : ℕ = day_number y m d in
    let first : days_of_years y ≤ day_number y m d = omega arith in
    let below = in_year y m d h in
    let next : day_number y m d < days_of_years (suc y) = omega (arith, below, days_of_years-next y) in
    let after : day_number y m d < days_of_years (suc (suc y)) = omega (arith, next, days_of_years-next (suc y)) in
    let one : y + 1 ≡ suc y = omega arith in
    let two : y + 2 ≡ suc (suc y) = omega arith in
    near-is (day_number y m d) y (day_number y m d * 400 / 146097)
    (begins y (day_number y m d) first)
    (ap (has_begun (day_number y m d)) one ∙ not_begun (suc y) (day_number y m d) next)
    (ap (has_begun (day_number y m d)) two ∙ not_begun (suc (suc y)) (day_number y m d) after)
    (guess_low y (days_of_years y) (day_number y m d) (year_low y) first)
    (guess_high y (days_of_years y) (day_number y m d) (year_high y) (omega (arith, below, year_most y (is_leap_year y) refl)))

-- ---- moments

-- what the parts of a date and a time of day are at most
record IsCivil (c : Civil) : Type 0 where
  day_in : IsDay c.year c.month c.day (day_number c.year c.month c.day)
  hour_in : c.hour ≤ 23
  minute_in : c.minute ≤ 59
  second_in : c.second ≤ 59
  milli_in : c.milli ≤ 999

civil_parts : (c : Civil) → is_civil c ≡ true → IsCivil c
civil_parts c h =
    let h8 = and_parts (nat_le c.year 9999 && nat_le 1 c.month && nat_le c.month 12 && nat_le 1 c.day && nat_le c.day (days_in_month c.year c.month) && nat_le c.hour 23 && nat_le c.minute 59 && nat_le c.second 59) (nat_le c.milli 999) h in
    let h7 = and_parts (nat_le c.year 9999 && nat_le 1 c.month && nat_le c.month 12 && nat_le 1 c.day && nat_le c.day (days_in_month c.year c.month) && nat_le c.hour 23 && nat_le c.minute 59) (nat_le c.second 59) h8.0 in
    let h6 = and_parts (nat_le c.year 9999 && nat_le 1 c.month && nat_le c.month 12 && nat_le 1 c.day && nat_le c.day (days_in_month c.year c.month) && nat_le c.hour 23) (nat_le c.minute 59) h7.0 in
    let h5 = and_parts (nat_le c.year 9999 && nat_le 1 c.month && nat_le c.month 12 && nat_le 1 c.day && nat_le c.day (days_in_month c.year c.month)) (nat_le c.hour 23) h6.0 in
    let h4 = and_parts (nat_le c.year 9999 && nat_le 1 c.month && nat_le c.month 12 && nat_le 1 c.day) (nat_le c.day (days_in_month c.year c.month)) h5.0 in
    let h3 = and_parts (nat_le c.year 9999 && nat_le 1 c.month && nat_le c.month 12) (nat_le 1 c.day) h4.0 in
    let h2 = and_parts (nat_le c.year 9999 && nat_le 1 c.month) (nat_le c.month 12) h3.0 in
    let h1 = and_parts (nat_le c.year 9999) (nat_le 1 c.month) h2.0 in
    record {
      day_in = record {
        from_january = leb-true 1 c.month h1.1;
        to_december = leb-true c.month 12 h2.1;
        from_first = leb-true 1 c.day h3.1;
        to_last = leb-true c.day (days_in_month c.year c.month) h4.1;
        number = refl;
      };
      hour_in = leb-true c.hour 23 h5.1;
      minute_in = leb-true c.minute 59 h6.1;
      second_in = leb-true c.second 59 h7.1;
      milli_in = leb-true c.milli 999 h8.1;
    }

record AreParts (n : ℕ) (c : Civil) (ms : ℕ) : Type 0 where
  day : ms / 86400000 ≡ n
  hour : ms / 3600000 % 24 ≡ c.hour
  minute : ms / 60000 % 60 ≡ c.minute
  second : ms / 1000 % 60 ≡ c.second
  milli : ms % 1000 ≡ c.milli

parts : (n : ℕ) (c : Civil) (ms : ℕ) → IsCivil c → (((n * 24 + c.hour) * 60 + c.minute) * 60 + c.second) * 1000 + c.milli ≡ ms → AreParts n c ms
parts n c ms h e =
    record {
      day = omega (arith, e, h.hour_in, h.minute_in, h.second_in, h.milli_in);
      hour = omega (arith, e, h.hour_in, h.minute_in, h.second_in, h.milli_in);
      minute = omega (arith, e, h.hour_in, h.minute_in, h.second_in, h.milli_in);
      second = omega (arith, e, h.hour_in, h.minute_in, h.second_in, h.milli_in);
      milli = omega (arith, e, h.hour_in, h.minute_in, h.second_in, h.milli_in);
    }

civil_again : (c : Civil) (ms : ℕ) → IsCivil c → civil_ms c ≡ ms → civil_of ms ≡ c
civil_again c ms h e =
    let p = parts (day_number c.year c.month c.day) c ms h e in
    let year : year_of (ms / 86400000) ≡ c.year = ap year_of p.day ∙ year-is c.year c.month c.day h.day_in in
    let month : month_of (year_of (ms / 86400000)) (ms / 86400000) ≡ c.month = (λ i. month_of (year i) (p.day i)) ∙ month-is c.year c.month c.day h.day_in in
    let last : day_number c.year c.month c.day - day_number c.year c.month 1 + 1 ≡ c.day = omega (arith, h.day_in.from_first) in
    let day : ms / 86400000 - day_number (year_of (ms / 86400000)) (month_of (year_of (ms / 86400000)) (ms / 86400000)) 1 + 1 ≡ c.day = (λ i. p.day i - day_number (year i) (month i) 1 + 1) ∙ last in
    λ i. record { year = year i; month = month i; day = day i; hour = p.hour i; minute = p.minute i; second = p.second i; milli = p.milli i }

-- a text that is printed is the text of the moment
pub printed_once : IsPrintedOnce
unfolding moment_text
printed_once ms text h = h.3 ∙ ap millis_text (sym (civil_again h.0 ms (civil_parts h.0 h.1) h.2))

-- and each moment has one
pub always_printed : IsAlwaysPrinted
always_printed ms h = let text = some_text ms h in subst (λ (t : List ℕ). IsPrinted ms t) (printed_once ms text.0 text.1) text.1

-- the text of a moment is read as it
pub is_read : (ms : ℕ) → IsMoment ms → (text : List ℕ) → text ≡ moment_text ms → date_in text ≡ Some ms
is_read ms h text e = ap date_in e ∙ printed_is_read ms (moment_text ms) (always_printed ms h)
