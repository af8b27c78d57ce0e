use Rattle.std.proofs.Common.{arith, ◌∙◌}
use Rattle.std.specs.Prelude.{unsigned_abs}
use Rattle.fsl_date.specs.Calendar.{day_number}
use Rattle.fsl_date.proofs.Days.{dated}
use Rattle.fsl_date.proofs.calendar.Day.of_number.Goals as goal

pub overflow_cast-result : goal.overflow_cast-result
overflow_cast-result c =
    let date = c.unwrap-date.result in
    let d = dated date.year date.month date.day c.args.number (date.year_in, date.month_in, date.day_in) c.requires (rw c.unwrap-date.ensures at c.from_unix_epoch_day.ensures.value) in
    rw (d.year) (tt, omega (arith, d.small))

pub returns-clause-value : goal.returns-clause-value
returns-clause-value c =
    let date = c.unwrap-date.result in
    let d = dated date.year date.month date.day c.args.number (date.year_in, date.month_in, date.day_in) c.requires (rw c.unwrap-date.ensures at c.from_unix_epoch_day.ensures.value) in
    rw (d.year) ((λ i. day_number (unsigned_abs date.year) (c.from.ensures i) (c.from-2.ensures i)) ∙ d.number)
