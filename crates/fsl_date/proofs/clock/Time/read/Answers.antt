use Rattle.std.proofs.Common.{refl, arith}
use Rattle.fsl_date.proofs.Shapes.{digits_at, to_seconds}
use Rattle.fsl_date.proofs.clock.Time.read.Goals as goal

pub slice_bounds-number-end : goal.slice_bounds-number-end
slice_bounds-number-end c = omega (arith, to_seconds c.args.text.now c.requires)

pub slice_bounds-number-end-2 : goal.slice_bounds-number-end-2
slice_bounds-number-end-2 c = omega (arith, to_seconds c.args.text.now c.requires)

pub slice_bounds-number-end-3 : goal.slice_bounds-number-end-3
slice_bounds-number-end-3 c = omega (arith, to_seconds c.args.text.now c.requires)

pub number-requires-clause-digits : goal.number-requires-clause-digits
number-requires-clause-digits c = digits_at c.args.text.now 11 13 2 c.requires refl refl

pub number-requires-2-clause-digits : goal.number-requires-2-clause-digits
number-requires-2-clause-digits c = digits_at c.args.text.now 14 16 2 c.requires refl refl

pub number-requires-3-clause-digits : goal.number-requires-3-clause-digits
number-requires-3-clause-digits c = digits_at c.args.text.now 17 19 2 c.requires refl refl

pub returns : goal.returns
returns c = record { hour = c.number.ensures.value; minute = c.number-2.ensures.value; second = c.number-3.ensures.value; milli = c.milli.ensures }
