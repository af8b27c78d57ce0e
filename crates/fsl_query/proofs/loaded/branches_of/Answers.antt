use Rattle.std.proofs.Common.{◌≡◌, IfOk, subst}
use Rattle.fsl_cross.specs.Checkins.{branch}
use Rattle.fsl_timeline.specs.Timeline.{timeline}
use Rattle.fsl_query.specs.Listings.{branches_report}
use Rattle.fsl_query.proofs.loaded.branches_of.Goals as goal

pub returns : goal.returns
returns c fields = subst (λ rows. IfOk c.branches_by-text.result (λ text. text ≡ branches_report (branch c.args.items.now) (timeline rows))) (c.in_ok-rows.ensures fields) c.branches_by-text.ensures
