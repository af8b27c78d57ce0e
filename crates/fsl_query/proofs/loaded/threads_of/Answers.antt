use Rattle.std.proofs.Common.{◌≡◌, IfOk, sym, subst}
use Rattle.fsl_cross.specs.Tables.{tables}
use Rattle.fsl_timeline.specs.Timeline.{timeline}
use Rattle.fsl_query.specs.Listings.{threads_report}
use Rattle.fsl_query.proofs.loaded.threads_of.Goals as goal

pub threads_over-text-requires : goal.threads_over-text-requires
threads_over-text-requires c = sym c.in_ok-table.ensures.own

pub returns : goal.returns
returns c fields =
    subst (λ facts. IfOk c.threads_over-text.result (λ text. text ≡ threads_report facts (timeline (tables fields c.args.items.now).timeline))) (c.in_ok-table.ensures.facts fields)
    (c.threads_over-text.ensures fields)
