use Rattle.std.proofs.Common.{◌∙◌, subst, refl, sym}
use Rattle.std.proofs.lemmas.List.{take_all}
use Rattle.fsl_cross.specs.Mixed.{GoesOn, tags_mixed, pushed, is_child, all_changed}
use Rattle.fsl_cross.proofs.Going.{goes-mixture, goes-change}
use Rattle.fsl_cross.proofs.Quiet.{none-at, quiet-on}
use Rattle.fsl_cross.specs.Touches.{NoneOf}
use Rattle.fsl_cross.proofs.change.tags.give_late.Goals as goal

pub loop-change-init : goal.loop-change-init
loop-change-init g c = record { facts = λ done e. e; led = λ first h. h; told = λ t. t; idle = λ none. (refl, refl) }

pub give_parents-requires-clause-facts : goal.give_parents-requires-clause-facts
give_parents-requires-clause-facts g c =
    goes-mixture (tags_mixed c.args.items.now c.args.item.now.name) (is_child c.args.items.now c.args.item.now.name) _ c.args.tags.now.facts c.loop-change.tags.facts c.loop-change.invariant.facts c.requires.facts

pub returns-in_err-give_parents-clause-led : goal.returns-in_err-give_parents-clause-led
returns-in_err-give_parents-clause-led g c = λ first h. c.give_parents.ensures.led first (c.loop-change.invariant.led first h)

pub loop-change-preserved : goal.loop-change-preserved
loop-change-preserved g c = record {
  facts =
      goes-change (tags_mixed c.args.items.now c.args.item.now.name) (is_child c.args.items.now c.args.item.now.name) c.args.changes.now c.loop-change.change-index c.change-item.result c.args.tags.now.facts c.loop-change.tags.facts c.give_parents.new.tags.facts
      c.loop-change-test.true c.change-item.is c.loop-change.invariant.facts (subst (λ l. GoesOn (tags_mixed c.args.items.now c.args.item.now.name) (pushed (is_child c.args.items.now c.args.item.now.name) l) c.loop-change.tags.facts c.give_parents.new.tags.facts) (c.items.ensures ∙ c.changed-names.ensures) c.in_ok-give_parents.ensures.facts);
  led = λ first h. c.give_parents.ensures.led first (c.loop-change.invariant.led first h);
  told = λ t. c.in_ok-give_parents.ensures.told (c.loop-change.invariant.told t);
  idle = λ none. quiet-on _ _ _ _ _ _ (c.loop-change.invariant.idle none) (c.give_parents.ensures.idle (subst (NoneOf (is_child c.args.items.now c.args.item.now.name)) (sym (c.items.ensures ∙ c.changed-names.ensures)) (none-at (is_child c.args.items.now c.args.item.now.name) c.args.changes.now c.loop-change.change-index c.change-item.result c.loop-change-test.true c.change-item.is none)));
}

pub returns-clause-facts : goal.returns-clause-facts
returns-clause-facts g c =
    subst (λ l. GoesOn (tags_mixed c.args.items.now c.args.item.now.name) (pushed (is_child c.args.items.now c.args.item.now.name) (all_changed l)) c.args.tags.now.facts c.loop-change.tags.facts) (take_all c.loop-change.change-index c.args.changes.now c.loop-change-test.false) c.loop-change.invariant.facts

pub returns-in_err-give_parents-clause-idle : goal.returns-in_err-give_parents-clause-idle
returns-in_err-give_parents-clause-idle g c = λ none. quiet-on _ _ _ _ _ _ (c.loop-change.invariant.idle none) (c.give_parents.ensures.idle (subst (NoneOf (is_child c.args.items.now c.args.item.now.name)) (sym (c.items.ensures ∙ c.changed-names.ensures)) (none-at (is_child c.args.items.now c.args.item.now.name) c.args.changes.now c.loop-change.change-index c.change-item.result c.loop-change-test.true c.change-item.is none)))
