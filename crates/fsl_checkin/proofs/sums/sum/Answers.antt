use Rattle.std.proofs.Common.{◌∙◌, sym}
use Rattle.fsl_checkin.proofs.SumLemmas.{sum_rising}
use Rattle.fsl_checkin.proofs.sums.sum.Goals as goal

pub returns : goal.returns
returns c = c.finalize.ensures _ (c.take_items.ensures) ∙ sym (sum_rising c.args.items.now c.requires)
