use Rattle.std.proofs.Common.{◌++◌, ap, sym, ◌∙◌}
use Rattle.std.specs.Prelude.{option_to_list}
use Rattle.fsl_cross.specs.Facts.{assertion}
use Rattle.fsl_cross.proofs.FactLemmas.{assertions-next}
use Rattle.fsl_cross.proofs.facts.tags.assertions_of.Goals as goal

pub loop-place-preserved : goal.loop-place-preserved
loop-place-preserved c =
    let date = c.args.date in
    let source = c.args.source in
    let i = c.loop-place.place in
    let card = c.index-cards-place.result in
    c.in_ok-push_said.ensures ∙ ap (λ l. l ++ option_to_list (assertion date source (i, card))) c.loop-place.invariant
    ∙ sym (assertions-next date source c.args.cards.now i card c.loop-place-test.true c.index-cards-place.is)
