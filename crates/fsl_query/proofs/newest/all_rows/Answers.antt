use Rattle.std.proofs.Common.{◌<◌, length, refl, sym, ◌∙◌, rules}
use Rattle.fsl_timeline.specs.Timeline.{timeline}
use Rattle.fsl_query.proofs.NoteLemmas.{rows_whole}
use Rattle.fsl_query.proofs.newest.all_rows.Goals as goal

pub returns : goal.returns
returns c =
    let few : length c.items.result.now < 18446744073709551615 = search rules in
    sym c.items.ensures
    ∙ rows_whole 18446744073709551615 (length c.items.result.now) c.items.result.now (timeline c.args.table.now.facts) (c.items.ensures ∙ c.in_ok-rows.ensures) refl few
