use Rattle.std.proofs.Common.{refl, sym, ◌∙◌, subst}
use Rattle.std.proofs.lemmas.List.{take_all}
use Rattle.std.proofs.lemmas.Bool.{or_parts}
use Rattle.fsl_forum.proofs.Noting.{has-next}
use Rattle.fsl_cross.specs.Gone.{RowsGone, is_gone}
use Rattle.fsl_cross.specs.Mixed.{rows_mixed}
use Rattle.fsl_cross.proofs.Going.{goes-next}
use Rattle.fsl_cross.proofs.Retiring.{rising-fresh, has-at}
use Rattle.fsl_cross.proofs.change.gone.retire_each.Goals as goal

pub loop-name-init : goal.loop-name-init
loop-name-init g c = record { facts = λ done e. e; others = λ q out. refl; led = λ first h. h }

pub retire-requires-clause-shown : goal.retire-requires-clause-shown
retire-requires-clause-shown g c = λ gone.
    c.loop-name.invariant.others c.name-item.result (rising-fresh c.args.names.now c.loop-name.name-index c.name-item.result c.requires.rising c.loop-name-test.true c.name-item.is)
    ∙ c.requires.shown c.name-item.result (has-at c.args.names.now c.loop-name.name-index c.name-item.result c.loop-name-test.true c.name-item.is) gone

pub returns-in_err-retire-clause-led : goal.returns-in_err-retire-clause-led
returns-in_err-retire-clause-led g c = λ first h. c.retire.ensures.led first (c.loop-name.invariant.led first h)

pub loop-name-preserved : goal.loop-name-preserved
loop-name-preserved g c = record {
  facts =
      goes-next (rows_mixed c.args.items.now c.args.item.now.name) (is_gone c.args.items.now c.args.item.now.name) c.args.names.now c.loop-name.name-index c.name-item.result c.args.timeline.now.facts c.loop-name.timeline.facts c.retire.new.timeline.facts
      c.loop-name-test.true c.name-item.is c.loop-name.invariant.facts c.in_ok-retire.ensures.facts;
  others = λ q out.
      let parts = or_parts _ _ (sym (has-next c.args.names.now c.loop-name.name-index c.name-item.result c.loop-name-test.true c.name-item.is q) ∙ out) in
      c.in_ok-retire.ensures.others q parts.0 ∙ c.loop-name.invariant.others q parts.1;
  led = λ first h. c.retire.ensures.led first (c.loop-name.invariant.led first h);
}

pub returns-clause-facts : goal.returns-clause-facts
returns-clause-facts g c =
    subst (λ l. RowsGone c.args.items.now c.args.item.now.name l c.args.timeline.now.facts c.loop-name.timeline.facts) (take_all c.loop-name.name-index c.args.names.now c.loop-name-test.false) c.loop-name.invariant.facts
