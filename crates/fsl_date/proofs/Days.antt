-- The number of a day from the year 0 is its day number from 1970, moved by 719528.
use Rattle.std.proofs.Common.{◌≡◌, ℕ, zero, suc, ◌+◌, ◌-◌, ◌<◌, ◌≤◌, Bool, true, false, refl, sym, ap, subst, ◌∙◌, arith, ℤ, pos, negsuc, ◌+ℤ◌, ◌-ℤ◌, ◌≤ℤ◌, unsigned_abs, to_z, of_z, w8, w16, w32, w64}
use Rattle.std.specs.Prelude.{◌&&◌, nat_le}
use Rattle.std.proofs.lemmas.Int.{by_lt_z}
use Rattle.std.proofs.lemmas.Bool.{and_from}
use Rattle.jiff_core.specs.Calendar.{day_count, days_from_civil, IsCivilDate, IsDate, IsEpochDay}
use Rattle.jiff_core.specs.Calendar.{days_of_months as their_days_of_months, days_in_month as their_days_in_month}
use Rattle.jiff_core.proofs.SignedLemmas.{signed_arith, signed_casts}
use Rattle.jiff_core.proofs.MarchLemmas.{day_count-early}
use Rattle.jiff_core.proofs.CalendarLemmas.{day_count-day_of_year, day_count-lt_year, days_from_civil-day_count, day_count_bounds}
use Rattle.fsl_date.specs.Calendar.{days_of_years, days_of_months, days_in_month, day_number}
use Rattle.fsl_date.specs.Parts.{is_day}
use Rattle.fsl_order.proofs.Booleans.{first_holds, second_holds}
use Rattle.fsl_date.proofs.Conditions.{le_from, le_to}
use Rattle.fsl_date.proofs.ReadAgain.{short_month}

-- the days of the months of a year are the same
pub days_of_months-same : (y n : ℕ) → their_days_of_months (pos y) n ≡ days_of_months y n
unfolding their_days_of_months
days_of_months-same y zero = refl
days_of_months-same y (suc n) = ap (λ k. k + their_days_in_month (pos y) (suc n)) (days_of_months-same y n)

-- 10000 years have 3652425 days
pub day_count-new_year : (y : ℕ) → day_count (pos y) 1 1 ≡ 3652425 + days_of_years y
day_count-new_year y =
    let from : pos y +ℤ pos 10000 ≡ pos (suc (y + 9999)) = omega (arith, signed_arith) in
    omega (arith, day_count-early (pos y) (y + 9999) 1 1 from (omega arith) (omega arith) (omega arith))

pub day_count-day_number : (y m d : ℕ) → 1 ≤ d → day_count (pos y) m d ≡ 3652425 + day_number y m d
day_count-day_number y m d h =
    omega (arith, day_count-day_of_year (pos y) m d h, day_count-new_year y, days_of_months-same y (m - 1))

pub days_from_civil-day_number : (y m d : ℕ) → 1 ≤ d → (days_from_civil (pos y) m d +ℤ pos 719528) ≡ pos (day_number y m d)
days_from_civil-day_number y m d h =
    omega (arith, signed_arith, days_from_civil-day_count (pos y) m d, day_count-day_number y m d h)

-- a day that doesn't stand before 1 January of the year 0 is of no year before it
pub year_from_zero : (y : ℤ) (m d : ℕ) → IsCivilDate y m d → pos 0 ≤ℤ (days_from_civil y m d +ℤ pos 719528) → pos 0 ≤ℤ y
year_from_zero y m d h late =
    by_lt_z y (pos 0)
    (λ lt. absurd (omega (arith, signed_arith, days_from_civil-day_count y m d, day_count-new_year 0, day_count-lt_year y m d (pos 0) 1 1 h (omega arith) lt)))
    (λ le. le)

-- ---- the days that the calendar has

pub is_day-from : (y m d : ℕ) → IsCivilDate (pos y) m d → is_day y m d ≡ true
is_day-from y m d h =
    let year : y ≤ 9999 = omega (arith, signed_arith, h.0.1) in
    and_from (nat_le y 9999 && nat_le 1 m && nat_le m 12 && nat_le 1 d) (nat_le d (days_in_month y m))
    (and_from (nat_le y 9999 && nat_le 1 m && nat_le m 12) (nat_le 1 d)
    (and_from (nat_le y 9999 && nat_le 1 m) (nat_le m 12)
    (and_from (nat_le y 9999) (nat_le 1 m) (le_to y 9999 year) (le_to 1 m h.1.0))
    (le_to m 12 h.1.1))
    (le_to 1 d h.2.0))
    (le_to d (days_in_month y m) h.2.1)

-- a day that the calendar has is a date of jiff, in its numbers of the machine
date_of : (y m d : ℕ) → is_day y m d ≡ true → IsDate (to_z w16 y) (to_z w8 m) (to_z w8 d)
date_of y m d h =
    let h4 = first_holds _ (nat_le d (days_in_month y m)) h in
    let h3 = first_holds _ (nat_le 1 d) h4 in
    let h2 = first_holds _ (nat_le m 12) h3 in
    let year : y ≤ 9999 = le_from y 9999 (first_holds _ (nat_le 1 m) h2) in
    let from_january : 1 ≤ m = le_from 1 m (second_holds (nat_le y 9999) _ h2) in
    let to_december : m ≤ 12 = le_from m 12 (second_holds _ (nat_le m 12) h3) in
    let from_first : 1 ≤ d = le_from 1 d (second_holds _ (nat_le 1 d) h4) in
    let to_last : d ≤ days_in_month y m = le_from d (days_in_month y m) (second_holds _ (nat_le d (days_in_month y m)) h) in
    let short : d ≤ 31 = omega (arith, to_last, short_month y m) in
    let ey : pos y ≡ to_z w16 y = omega (arith, signed_casts, year) in
    let em : pos m ≡ to_z w8 m = omega (arith, signed_casts, to_december) in
    let ed : pos d ≡ to_z w8 d = omega (arith, signed_casts, short) in
    let date : IsDate (pos y) (pos m) (pos d) = ((omega (arith, signed_arith, year), omega (arith, signed_arith, year)), (omega (arith, signed_arith, from_january), omega (arith, signed_arith, to_december)), (omega (arith, signed_arith, from_first), omega (arith, signed_arith, to_last))) in
    subst (λ t. IsDate (to_z w16 y) (to_z w8 m) t) ed (subst (λ t. IsDate (to_z w16 y) t (pos d)) em (subst (λ t. IsDate t (pos m) (pos d)) ey date))

-- where jiff has no date, the calendar has no day
pub no_day : (y m d : ℕ) → (IsDate (to_z w16 y) (to_z w8 m) (to_z w8 d) → ⊥) → is_day y m d ≡ false
no_day y m d none = by (is_day y m d) refl
  where
    by : (t : Bool) → is_day y m d ≡ t → is_day y m d ≡ false
    by true e = absurd (none (date_of y m d e))
    by false e = e

-- what the number of a date of jiff says of the day
pub record IsNumbered (y m d : ℕ) (z : ℤ) : Type 0 where
  pub civil : is_day y m d ≡ true
  pub number : (z +ℤ pos 719528) ≡ pos (day_number y m d)
  pub small : day_number y m d < 3652425

pub numbered : (y m d : ℕ) → IsCivilDate (pos y) m d → (z : ℤ) → z ≡ days_from_civil (pos y) m d → IsNumbered y m d z
numbered y m d h z e =
    record {
      civil = is_day-from y m d h;
      number = ap (λ (n : ℤ). n +ℤ pos 719528) e ∙ days_from_civil-day_number y m d h.2.0;
      small = omega (arith, (day_count_bounds (pos y) m d h).1, day_count-day_number y m d h.2.0);
    }

pos_same : (m n : ℕ) → pos m ≡ pos n → m ≡ n
pos_same m n e = omega (arith, signed_arith, e)

pub numbered-by : (year : ℤ) (month day : ℕ) → IsCivilDate year month day → (y m d : ℕ) → year ≡ pos y → pos month ≡ pos m → pos day ≡ pos d
    → (z : ℤ) → z ≡ days_from_civil year month day → IsNumbered y m d z
numbered-by year month day h y m d ey em ed z e =
    let em' : month ≡ m = pos_same month m em in
    let ed' : day ≡ d = pos_same day d ed in
    numbered y m d (subst (λ t. IsCivilDate (pos y) m t) ed' (subst (λ t. IsCivilDate (pos y) t day) em' (subst (λ t. IsCivilDate t month day) ey h))) z
    (e ∙ (λ i. days_from_civil (ey i) (em' i) (ed' i)))

-- ---- the numbers of the machine

-- a day number of 32 bits, in 64 bits and moved to the year 0
pub moved_day : (r f : ℤ) (n : ℕ) → IsEpochDay r → f ≡ to_z w32 (of_z w32 r) → (r +ℤ pos 719528) ≡ pos n → to_z w64 (of_z w64 (to_z w64 (of_z w64 f) +ℤ pos 719528)) ≡ pos n
moved_day r f n bound e number =
    let small : to_z w32 (of_z w32 r) ≡ r = omega (arith, signed_arith, bound.0, bound.1) in
    let same : f ≡ r = e ∙ small in
    let wide : to_z w64 (of_z w64 f) ≡ f = omega (arith, signed_arith, bound.0, bound.1, same) in
    let sum : (to_z w64 (of_z w64 f) +ℤ pos 719528) ≡ pos n = ap (λ (z : ℤ). z +ℤ pos 719528) (wide ∙ same) ∙ number in
    let back : to_z w64 (of_z w64 (pos n)) ≡ pos n = omega (arith, signed_arith, bound.0, bound.1, number) in
    ap (λ (z : ℤ). to_z w64 (of_z w64 z)) sum ∙ back

-- the date of a day number that was moved from the year 0
pub record IsDated (y : ℤ) (m d : ℕ) (n : ℕ) : Type 0 where
  pub year : to_z w16 (of_z w16 y) ≡ pos (unsigned_abs y)
  pub small : unsigned_abs y ≤ 9999
  pub number : day_number (unsigned_abs y) m d ≡ n

not_negative : (y : ℤ) → pos 0 ≤ℤ y → y ≡ pos (unsigned_abs y)
not_negative (pos n) h = refl
not_negative (negsuc n) h = absurd (omega (arith, signed_arith, h))

pub dated : (y : ℤ) (m d n : ℕ) → IsCivilDate y m d → n < 3652425 → days_from_civil y m d ≡ to_z w64 (of_z w64 (to_z w64 n -ℤ pos 719528)) → IsDated y m d n
dated y m d n h small e =
    let moved : (days_from_civil y m d +ℤ pos 719528) ≡ pos n = omega (arith, signed_casts, small, e) in
    let late : pos 0 ≤ℤ y = year_from_zero y m d h (omega (arith, signed_arith, moved)) in
    let same = not_negative y late in
    let high : unsigned_abs y ≤ 9999 = omega (arith, signed_arith, h.0.1, same) in
    let at_year : (days_from_civil (pos (unsigned_abs y)) m d +ℤ pos 719528) ≡ pos n = subst (λ (x : ℤ). (days_from_civil x m d +ℤ pos 719528) ≡ pos n) same moved in
    record {
      year = omega (arith, signed_arith, late, high, same);
      small = high;
      number = pos_same _ _ (sym (days_from_civil-day_number (unsigned_abs y) m d h.2.0) ∙ at_year);
    }
