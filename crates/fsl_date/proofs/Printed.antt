-- The text of a day and a time of day.
use Rattle.std.proofs.Common.{◌≡◌, ℕ, ◌+◌, ◌*◌, Bool, true, false, List, Some, refl, ◌∙◌, arith, inl}
use Rattle.std.specs.Prelude.{◌&&◌, nat_le}
use Rattle.std.proofs.lemmas.Bool.{and_from}
use Rattle.fsl_date.specs.Calendar.{day_number}
use Rattle.fsl_date.specs.Parts.{is_day, is_time, time_ms}
use Rattle.fsl_date.specs.Moment.{Civil, is_civil, civil_ms, date_in, millis_text, IsPrinted}
use Rattle.fsl_date.proofs.ReadAgain.{read-from_written}

and_assoc : (p q r s t : Bool) → (p && q && r && s && t) ≡ (p && (q && r && s && t))
and_assoc true q r s t = refl
and_assoc false q r s t = refl

-- a date and a time of day are one where both are
pub is_civil-parts : (c : Civil) → is_civil c ≡ (is_day c.year c.month c.day && is_time c.hour c.minute c.second c.milli)
is_civil-parts c = and_assoc (is_day c.year c.month c.day) (nat_le c.hour 23) (nat_le c.minute 59) (nat_le c.second 59) (nat_le c.milli 999)

pub civil_ms-parts : (c : Civil) → civil_ms c ≡ day_number c.year c.month c.day * 86400000 + time_ms c.hour c.minute c.second c.milli
civil_ms-parts c = omega arith

-- a text that is printed is read as the moment
pub printed_is_read : (ms : ℕ) (text : List ℕ) → IsPrinted ms text → date_in text ≡ Some ms
printed_is_read ms text h = read-from_written text ms (h.0, h.1, h.2, inl h.3)

-- a day and a time of day, printed
pub printed_by : (c : Civil) (ms : ℕ) → is_day c.year c.month c.day ≡ true → is_time c.hour c.minute c.second c.milli ≡ true
    → day_number c.year c.month c.day * 86400000 + time_ms c.hour c.minute c.second c.milli ≡ ms → (text : List ℕ) → text ≡ millis_text c → IsPrinted ms text
printed_by c ms hd ht e text same = (c, is_civil-parts c ∙ and_from (is_day c.year c.month c.day) (is_time c.hour c.minute c.second c.milli) hd ht, civil_ms-parts c ∙ e, same)
