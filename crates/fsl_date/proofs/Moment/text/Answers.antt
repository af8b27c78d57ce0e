use Rattle.std.proofs.Common.{rules, arith, refl}
use Rattle.fsl_date.specs.Moment.{Civil}
use Rattle.fsl_date.proofs.Printed.{printed_by}
use Rattle.fsl_date.proofs.MomentTexts.{is_read, printed_once}
use Rattle.fsl_date.proofs.Moment.text.Goals as goal

pub returns-clause-value : goal.returns-clause-value
returns-clause-value c =
    let day = c.of_number-day in
    let time = c.of_ms-time in
    let civil : Civil = record { year = day.result.year; month = day.result.month; day = day.result.day; hour = time.result.hour; minute = time.result.minute; second = time.result.second; milli = time.result.milli } in
    printed_once c.args.self.now _
    (printed_by civil c.args.self.now day.ensures.civil time.ensures.civil (omega (arith, day.ensures.value, time.ensures.value)) _
    (rw (c.four-year.ensures, c.two-month.ensures, c.two-date.ensures, c.two-hour.ensures, c.two-minute.ensures, c.two-second.ensures, c.three-milli.ensures) refl))

pub returns-clause-again : goal.returns-clause-again
returns-clause-again c = is_read c.args.self.now (search rules) _ (returns-clause-value c)
