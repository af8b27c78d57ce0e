use Rattle.std.proofs.Common.{◌<◌, List, length, refl, ap, ◌∙◌, rules}
use Rattle.fsl_timeline.specs.declared.Row.{Row}
use Rattle.fsl_timeline.specs.Timeline.{timeline, latest}
use Rattle.fsl_cross.specs.Tables as cross
use Rattle.fsl_query.proofs.NoteLemmas.{rows_counted}
use Rattle.fsl_query.proofs.summing.rows.Goals as goal

pub returns : goal.returns
returns c =
    let few : length c.items.result.now < 18446744073709551615 = search rules in
    rows_counted 18446744073709551615 (length c.items.result.now) c.items.result.now (timeline (cross.tables c.args.tables.now.fields c.args.tables.now.items).timeline)
    (c.items.ensures ∙ c.in_ok-rows.ensures ∙ ap (λ (rows : List Row). latest rows 18446744073709551615) c.timeline.ensures.facts) refl few
