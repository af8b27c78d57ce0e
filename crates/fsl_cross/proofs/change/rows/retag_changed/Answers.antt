use Rattle.std.proofs.Common.{◌∙◌, subst, refl, sym}
use Rattle.std.proofs.lemmas.List.{take_all}
use Rattle.fsl_cross.specs.Mixed.{GoesOn, rows_mixed, pushed, is_other_checkin, all_changed}
use Rattle.fsl_cross.proofs.Going.{goes-mixture, goes-change}
use Rattle.fsl_cross.proofs.Quiet.{none-at, quiet-on}
use Rattle.fsl_cross.specs.Touches.{NoneOf}
use Rattle.fsl_cross.proofs.change.rows.retag_changed.Goals as goal

pub loop-change-init : goal.loop-change-init
loop-change-init g c = record { facts = λ done e. e; led = λ first h. h; idle = λ none. (refl, refl) }

pub retag_each-requires-clause-facts : goal.retag_each-requires-clause-facts
retag_each-requires-clause-facts g c =
    goes-mixture (rows_mixed c.args.items.now c.args.item.now.name) (is_other_checkin c.args.items.now c.args.item.now.name) _ c.args.timeline.now.facts c.loop-change.timeline.facts c.loop-change.invariant.facts c.requires.facts

pub returns-in_err-retag_each-clause-led : goal.returns-in_err-retag_each-clause-led
returns-in_err-retag_each-clause-led g c = λ first h. c.retag_each.ensures.led first (c.loop-change.invariant.led first h)

pub loop-change-preserved : goal.loop-change-preserved
loop-change-preserved g c = record {
  facts =
      goes-change (rows_mixed c.args.items.now c.args.item.now.name) (is_other_checkin c.args.items.now c.args.item.now.name) c.args.changes.now c.loop-change.change-index c.change-item.result c.args.timeline.now.facts c.loop-change.timeline.facts c.retag_each.new.timeline.facts
      c.loop-change-test.true c.change-item.is c.loop-change.invariant.facts (subst (λ l. GoesOn (rows_mixed c.args.items.now c.args.item.now.name) (pushed (is_other_checkin c.args.items.now c.args.item.now.name) l) c.loop-change.timeline.facts c.retag_each.new.timeline.facts) (c.items.ensures ∙ c.changed-names.ensures) c.in_ok-retag_each.ensures.facts);
  led = λ first h. c.retag_each.ensures.led first (c.loop-change.invariant.led first h);
  idle = λ none. quiet-on _ _ _ _ _ _ (c.loop-change.invariant.idle none) (c.retag_each.ensures.idle (subst (NoneOf (is_other_checkin c.args.items.now c.args.item.now.name)) (sym (c.items.ensures ∙ c.changed-names.ensures)) (none-at (is_other_checkin c.args.items.now c.args.item.now.name) c.args.changes.now c.loop-change.change-index c.change-item.result c.loop-change-test.true c.change-item.is none)));
}

pub returns-clause-facts : goal.returns-clause-facts
returns-clause-facts g c =
    subst (λ l. GoesOn (rows_mixed c.args.items.now c.args.item.now.name) (pushed (is_other_checkin c.args.items.now c.args.item.now.name) (all_changed l)) c.args.timeline.now.facts c.loop-change.timeline.facts) (take_all c.loop-change.change-index c.args.changes.now c.loop-change-test.false) c.loop-change.invariant.facts

pub returns-in_err-retag_each-clause-idle : goal.returns-in_err-retag_each-clause-idle
returns-in_err-retag_each-clause-idle g c = λ none. quiet-on _ _ _ _ _ _ (c.loop-change.invariant.idle none) (c.retag_each.ensures.idle (subst (NoneOf (is_other_checkin c.args.items.now c.args.item.now.name)) (sym (c.items.ensures ∙ c.changed-names.ensures)) (none-at (is_other_checkin c.args.items.now c.args.item.now.name) c.args.changes.now c.loop-change.change-index c.change-item.result c.loop-change-test.true c.change-item.is none)))
