use Rattle.std.proofs.Common.{◌≡◌, IfOk, subst}
use Rattle.fsl_timeline.specs.Timeline.{timeline}
use Rattle.fsl_query.specs.Listings.{threads_report}
use Rattle.fsl_query.proofs.loaded.threads_over.Goals as goal

pub returns : goal.returns
returns c fields = subst (λ rows. IfOk c.threads_by-text.result (λ text. text ≡ threads_report c.args.table.now.facts (timeline rows))) (c.in_ok-rows.ensures fields) c.threads_by-text.ensures
