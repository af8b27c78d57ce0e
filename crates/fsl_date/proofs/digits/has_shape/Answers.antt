use Rattle.std.proofs.Common.{sym, ◌∙◌}
use Rattle.fsl_date.specs.Moment.{fits_place}
use Rattle.fsl_date.proofs.Shapes.{pointwise-zip}
use Rattle.fsl_date.proofs.digits.has_shape.Goals as goal

pub returns-then-text-shape : goal.returns-then-text-shape
returns-then-text-shape c = c.fits_each.ensures ∙ sym (pointwise-zip fits_place c.args.shape.now c.args.text.now c.if-text-shape.true)
