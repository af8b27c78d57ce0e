-- A date that is written is read again.
use Rattle.std.proofs.Common.{◌≡◌, ℕ, ◌+◌, ◌/◌, ◌%◌, ◌≤◌, Bool, true, false, cond, eqb, List, Some, refl, sym, ap, subst, ◌∙◌, arith, inl, inr}
use Rattle.std.specs.Prelude.{◌⊎◌, nat_le}
use Rattle.fsl_order.proofs.Booleans.{first_holds, second_holds}
use Rattle.fsl_text.specs.Decimals.{is_decimal_digit, decimal_value}
use Rattle.fsl_date.specs.Calendar.{days_in_month}
use Rattle.fsl_date.specs.Moment.{Civil, is_civil, civil_ms, date_in, civil_in, has_date_shape, two_digits, three_digits, four_digits, seconds_text, millis_text, IsDateText}
use Rattle.fsl_date.proofs.Conditions.{le_from}

digit : (n : ℕ) → n ≤ 9 → is_decimal_digit (48 + n) ≡ true
digit n h = grind arith

-- what the parts of a date are at most
pub record Bounds (c : Civil) : Type 0 where
  pub year : c.year ≤ 9999
  pub month : c.month ≤ 99
  pub day : c.day ≤ 99
  pub hour : c.hour ≤ 99
  pub minute : c.minute ≤ 99
  pub second : c.second ≤ 99
  pub milli : c.milli ≤ 999

two_value : (n : ℕ) → n ≤ 99 → decimal_value (two_digits n) ≡ n
two_value n h = omega arith

three_value : (n : ℕ) → n ≤ 999 → decimal_value (three_digits n) ≡ n
three_value n h = omega arith

four_value : (n : ℕ) → n ≤ 9999 → decimal_value (four_digits n) ≡ n
four_value n h = omega arith

civil_again : (c : Civil) → Bounds c → civil_in (millis_text c) ≡ c
civil_again c b =
    let year = four_value c.year b.year in
    let month = two_value c.month b.month in
    let day = two_value c.day b.day in
    let hour = two_value c.hour b.hour in
    let minute = two_value c.minute b.minute in
    let second = two_value c.second b.second in
    let milli = three_value c.milli b.milli in
    λ i. record { year = year i; month = month i; day = day i; hour = hour i; minute = minute i; second = second i; milli = milli i }

civil_again_short : (c : Civil) → Bounds c → c.milli ≡ 0 → civil_in (seconds_text c) ≡ c
civil_again_short c b none =
    let year = four_value c.year b.year in
    let month = two_value c.month b.month in
    let day = two_value c.day b.day in
    let hour = two_value c.hour b.hour in
    let minute = two_value c.minute b.minute in
    let second = two_value c.second b.second in
    let milli : 0 ≡ c.milli = sym none in
    λ i. record { year = year i; month = month i; day = day i; hour = hour i; minute = minute i; second = second i; milli = milli i }

shape_again : (c : Civil) → Bounds c → has_date_shape (millis_text c) ≡ true
shape_again c b = rw (
  digit (c.year / 100 / 10) (omega (arith, b.year)),
  digit (c.year / 100 % 10) (omega arith),
  digit (c.year % 100 / 10) (omega arith),
  digit (c.year % 100 % 10) (omega arith),
  digit (c.month / 10) (omega (arith, b.month)),
  digit (c.month % 10) (omega arith),
  digit (c.day / 10) (omega (arith, b.day)),
  digit (c.day % 10) (omega arith),
  digit (c.hour / 10) (omega (arith, b.hour)),
  digit (c.hour % 10) (omega arith),
  digit (c.minute / 10) (omega (arith, b.minute)),
  digit (c.minute % 10) (omega arith),
  digit (c.second / 10) (omega (arith, b.second)),
  digit (c.second % 10) (omega arith),
  digit (c.milli / 100) (omega (arith, b.milli)),
  digit (c.milli % 100 / 10) (omega arith),
  digit (c.milli % 100 % 10) (omega arith),
) refl

shape_again_short : (c : Civil) → Bounds c → has_date_shape (seconds_text c) ≡ true
shape_again_short c b = rw (
  digit (c.year / 100 / 10) (omega (arith, b.year)),
  digit (c.year / 100 % 10) (omega arith),
  digit (c.year % 100 / 10) (omega arith),
  digit (c.year % 100 % 10) (omega arith),
  digit (c.month / 10) (omega (arith, b.month)),
  digit (c.month % 10) (omega arith),
  digit (c.day / 10) (omega (arith, b.day)),
  digit (c.day % 10) (omega arith),
  digit (c.hour / 10) (omega (arith, b.hour)),
  digit (c.hour % 10) (omega arith),
  digit (c.minute / 10) (omega (arith, b.minute)),
  digit (c.minute % 10) (omega arith),
  digit (c.second / 10) (omega (arith, b.second)),
  digit (c.second % 10) (omega arith),
) refl

if_at_most : (t : Bool) (m n limit : ℕ) → m ≤ limit → n ≤ limit → cond t m n ≤ limit
if_at_most true m n limit h k = h
if_at_most false m n limit h k = k

pub short_month : (y m : ℕ) → days_in_month y m ≤ 31
short_month y m =
    if_at_most (eqb m 2) _ _ 31 (if_at_most _ 29 28 31 (omega arith) (omega arith)) (if_at_most _ 30 31 31 (omega arith) (omega arith))

bounds : (c : Civil) → is_civil c ≡ true → Bounds c
bounds c h =
    let h8 = first_holds _ (nat_le c.milli 999) h in
    let h7 = first_holds _ (nat_le c.second 59) h8 in
    let h6 = first_holds _ (nat_le c.minute 59) h7 in
    let h5 = first_holds _ (nat_le c.hour 23) h6 in
    let h4 = first_holds _ (nat_le c.day (days_in_month c.year c.month)) h5 in
    let h3 = first_holds _ (nat_le 1 c.day) h4 in
    let h2 = first_holds _ (nat_le c.month 12) h3 in
    let h1 = first_holds _ (nat_le 1 c.month) h2 in
    let day = le_from c.day (days_in_month c.year c.month) (second_holds _ (nat_le c.day (days_in_month c.year c.month)) h5) in
    let month = le_from c.month 12 (second_holds _ (nat_le c.month 12) h3) in
    let hour = le_from c.hour 23 (second_holds _ (nat_le c.hour 23) h6) in
    let minute = le_from c.minute 59 (second_holds _ (nat_le c.minute 59) h7) in
    let second = le_from c.second 59 (second_holds _ (nat_le c.second 59) h8) in
    record {
      year = le_from c.year 9999 h1;
      month = omega (arith, month);
      day = omega (arith, day, short_month c.year c.month);
      hour = omega (arith, hour);
      minute = omega (arith, minute);
      second = omega (arith, second);
      milli = le_from c.milli 999 (second_holds _ (nat_le c.milli 999) h);
    }

-- a text whose numbers are those of a date that the calendar has
read_by : (text : List ℕ) (c : Civil) → has_date_shape text ≡ true → civil_in text ≡ c → is_civil c ≡ true → date_in text ≡ Some (civil_ms c)
read_by text c shape e h =
    let good : is_civil (civil_in text) ≡ true = subst (λ (d : Civil). is_civil d ≡ true) (sym e) h in
    rw (shape, good) (ap (λ (d : Civil). Some (civil_ms d)) e)

-- each text of a date is read
pub read-from_written : (text : List ℕ) (ms : ℕ) → IsDateText text ms → date_in text ≡ Some ms
read-from_written text ms h = by h.3
  where
    by : ((text ≡ millis_text h.0) ⊎ ((h.0.milli ≡ 0) × (text ≡ seconds_text h.0))) → date_in text ≡ Some ms
    by (inl e) =
        let b = bounds h.0 h.1 in
        ap date_in e ∙ read_by (millis_text h.0) h.0 (shape_again h.0 b) (civil_again h.0 b) h.1 ∙ ap (λ (z : ℕ). Some z) h.2
    by (inr e) =
        let b = bounds h.0 h.1 in
        ap date_in e.1 ∙ read_by (seconds_text h.0) h.0 (shape_again_short h.0 b) (civil_again_short h.0 b e.0) h.1 ∙ ap (λ (z : ℕ). Some z) h.2
