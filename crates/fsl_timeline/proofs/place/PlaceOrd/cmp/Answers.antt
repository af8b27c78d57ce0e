use Rattle.std.proofs.Common.{rules}
use Rattle.fsl_timeline.proofs.place.PlaceOrd.cmp.Goals as goal

pub returns : goal.returns
returns c = search rules
