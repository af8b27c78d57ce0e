use Rattle.std.proofs.Common.{refl, arith}
use Rattle.fsl_date.proofs.Shapes.{digits_at, to_seconds}
use Rattle.fsl_date.proofs.calendar.Day.read.Goals as goal

pub slice_bounds-number-end : goal.slice_bounds-number-end
slice_bounds-number-end c = omega (arith, to_seconds c.args.text.now c.requires)

pub slice_bounds-number-end-2 : goal.slice_bounds-number-end-2
slice_bounds-number-end-2 c = omega (arith, to_seconds c.args.text.now c.requires)

pub slice_bounds-number-end-3 : goal.slice_bounds-number-end-3
slice_bounds-number-end-3 c = omega (arith, to_seconds c.args.text.now c.requires)

pub number-requires-clause-digits : goal.number-requires-clause-digits
number-requires-clause-digits c = digits_at c.args.text.now 0 4 4 c.requires refl refl

pub number-requires-2-clause-digits : goal.number-requires-2-clause-digits
number-requires-2-clause-digits c = digits_at c.args.text.now 5 7 2 c.requires refl refl

pub number-requires-3-clause-digits : goal.number-requires-3-clause-digits
number-requires-3-clause-digits c = digits_at c.args.text.now 8 10 2 c.requires refl refl

pub returns-clause-year : goal.returns-clause-year
returns-clause-year c = c.number.ensures.value

pub returns-clause-month : goal.returns-clause-month
returns-clause-month c = c.number-2.ensures.value

pub returns-clause-day : goal.returns-clause-day
returns-clause-day c = c.number-3.ensures.value
