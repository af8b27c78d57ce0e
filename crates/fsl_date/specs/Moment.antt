-- Moments and the texts of dates. Contracts see a moment as its milliseconds since 0000-01-01T00:00:00.000.
use Rattle.std.specs.Prelude.{◌≡◌, ℕ, ◌<◌, ◌+◌, ◌-◌, ◌*◌, ◌/◌, ◌%◌, ◌⊎◌, ◌==◌, ◌&&◌, ◌||◌, nat_le, Bool, List, [], ◌∷◌, ◌++◌, if◌then◌else◌, codes, slice_range, IsTrue, Option, Some, None}
use Rattle.std.specs.Cmp.Lexicographic.{pointwise}
use Rattle.fsl_text.specs.Decimals.{is_decimal_digit, decimal_value}
use Rattle.fsl_date.specs.Calendar.{day_number, days_in_month, year_of, month_of}

-- a millisecond of the years 0 to 9999
abbrev pub IsMoment : ℕ → Type 0
IsMoment ms = ms < 315569520000000

-- a date and a time of day
pub record Civil : Type 0 where
  pub year : ℕ
  pub month : ℕ
  pub day : ℕ
  pub hour : ℕ
  pub minute : ℕ
  pub second : ℕ
  pub milli : ℕ

-- the calendar and the clock have it
abbrev pub is_civil : Civil → Bool
is_civil c =
    nat_le c.year 9999 && nat_le 1 c.month && nat_le c.month 12
    && nat_le 1 c.day && nat_le c.day (days_in_month c.year c.month)
    && nat_le c.hour 23 && nat_le c.minute 59 && nat_le c.second 59 && nat_le c.milli 999

-- its milliseconds since the year 0 began
abbrev pub civil_ms : Civil → ℕ
civil_ms c =
    (((day_number c.year c.month c.day * 24 + c.hour) * 60 + c.minute) * 60 + c.second) * 1000 + c.milli

-- ---- reading

-- a byte fits a place of a shape: a digit where the shape has `9`, and else the same byte
abbrev pub fits_place : ℕ → ℕ → Bool
fits_place place b = if place == 57 then is_decimal_digit b else b == place

-- the two shapes of a date: to the second, or to the millisecond
abbrev pub has_date_shape : List ℕ → Bool
has_date_shape text =
    pointwise fits_place (codes "9999-99-99T99:99:99") text || pointwise fits_place (codes "9999-99-99T99:99:99.999") text

-- the number that stands from one place to another
abbrev pub number_between : ℕ → ℕ → List ℕ → ℕ
number_between from to text = decimal_value (slice_range text from to)

-- what the numbers of a date say; without milliseconds these are 0
abbrev pub civil_in : List ℕ → Civil
civil_in text =
    record {
      year = number_between 0 4 text;
      month = number_between 5 7 text;
      day = number_between 8 10 text;
      hour = number_between 11 13 text;
      minute = number_between 14 16 text;
      second = number_between 17 19 text;
      milli = number_between 20 23 text;
    }

-- the moment that a text is, if it is a date that the calendar has
abbrev pub date_in : List ℕ → Option ℕ
date_in text = if has_date_shape text && is_civil (civil_in text) then Some (civil_ms (civil_in text)) else None

-- ---- writing

-- a number in two, three or four digits
abbrev pub two_digits : ℕ → List ℕ
two_digits n = (48 + n / 10) ∷ (48 + n % 10) ∷ []

abbrev pub three_digits : ℕ → List ℕ
three_digits n = (48 + n / 100) ∷ two_digits (n % 100)

abbrev pub four_digits : ℕ → List ℕ
four_digits n = two_digits (n / 100) ++ two_digits (n % 100)

-- YYYY-MM-DDTHH:MM:SS
abbrev pub seconds_text : Civil → List ℕ
seconds_text c =
    four_digits c.year ++ 45 ∷ two_digits c.month ++ 45 ∷ two_digits c.day
    ++ 84 ∷ two_digits c.hour ++ 58 ∷ two_digits c.minute ++ 58 ∷ two_digits c.second

-- YYYY-MM-DDTHH:MM:SS.SSS
abbrev pub millis_text : Civil → List ℕ
millis_text c = seconds_text c ++ 46 ∷ three_digits c.milli

-- the date and the time of day of a moment, by the number, the year and the month of its day
abbrev pub civil_in_month : ℕ → ℕ → ℕ → ℕ → Civil
civil_in_month ms day year month =
    record {
      year = year;
      month = month;
      day = day - day_number year month 1 + 1;
      hour = ms / 3600000 % 24;
      minute = ms / 60000 % 60;
      second = ms / 1000 % 60;
      milli = ms % 1000;
    }

abbrev pub civil_of : ℕ → Civil
civil_of ms = let day = ms / 86400000 in let year = year_of day in civil_in_month ms day year (month_of year day)

-- the text of a moment: YYYY-MM-DDTHH:MM:SS.SSS
unfoldable pub moment_text : ℕ → List ℕ
moment_text ms = millis_text (civil_of ms)

-- ---- laws

-- a text is a moment exactly where it is one of the two texts of a date with these milliseconds
abbrev pub IsDateText : List ℕ → ℕ → Type 0
IsDateText text ms =
    (c : Civil) × IsTrue (is_civil c) × (civil_ms c ≡ ms)
    × ((text ≡ millis_text c) ⊎ ((c.milli ≡ 0) × (text ≡ seconds_text c)))

-- what is read is one of the two texts, and each of these is read
pub record DatesReadAsWritten : Type 0 where
  pub read : (text : List ℕ) (ms : ℕ) → date_in text ≡ Some ms → IsDateText text ms
  pub written : (text : List ℕ) (ms : ℕ) → IsDateText text ms → date_in text ≡ Some ms

-- a text is that of a date and a time of day with these milliseconds
abbrev pub IsPrinted : ℕ → List ℕ → Type 0
IsPrinted ms text = (c : Civil) × IsTrue (is_civil c) × (civil_ms c ≡ ms) × (text ≡ millis_text c)

-- the text of a moment is that of a date and a time of day with its milliseconds
abbrev pub IsAlwaysPrinted : Type 0
IsAlwaysPrinted = (ms : ℕ) → IsMoment ms → IsPrinted ms (moment_text ms)

-- and no other text is
abbrev pub IsPrintedOnce : Type 0
IsPrintedOnce = (ms : ℕ) (text : List ℕ) → IsPrinted ms text → text ≡ moment_text ms
