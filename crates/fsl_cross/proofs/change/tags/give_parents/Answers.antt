use Rattle.std.proofs.Common.{subst, refl}
use Rattle.std.proofs.lemmas.List.{take_all}
use Rattle.fsl_cross.specs.Mixed.{GoesOn, tags_mixed, pushed, is_child}
use Rattle.fsl_cross.proofs.Going.{goes-mixture, goes-next}
use Rattle.fsl_cross.proofs.Quiet.{quiet-on}
use Rattle.fsl_cross.proofs.Retiring.{has-at}
use Rattle.fsl_cross.proofs.change.tags.give_parents.Goals as goal

pub loop-child-init : goal.loop-child-init
loop-child-init g c = record { facts = λ done e. e; led = λ first h. h; told = λ t. t; idle = λ none. (refl, refl) }

pub give_parent-requires-clause-facts : goal.give_parent-requires-clause-facts
give_parent-requires-clause-facts g c =
    goes-mixture (tags_mixed c.args.items.now c.args.item.now.name) (is_child c.args.items.now c.args.item.now.name) _ c.args.tags.now.facts c.loop-child.tags.facts c.loop-child.invariant.facts c.requires.facts

pub returns-in_err-give_parent-clause-led : goal.returns-in_err-give_parent-clause-led
returns-in_err-give_parent-clause-led g c = λ first h. c.give_parent.ensures.led first (c.loop-child.invariant.led first h)

pub loop-child-preserved : goal.loop-child-preserved
loop-child-preserved g c = record {
  facts =
      goes-next (tags_mixed c.args.items.now c.args.item.now.name) (is_child c.args.items.now c.args.item.now.name) c.args.children.now c.loop-child.child-index c.child-item.result c.args.tags.now.facts c.loop-child.tags.facts c.give_parent.new.tags.facts
      c.loop-child-test.true c.child-item.is c.loop-child.invariant.facts c.in_ok-give_parent.ensures.facts;
  led = λ first h. c.give_parent.ensures.led first (c.loop-child.invariant.led first h);
  told = λ t. c.in_ok-give_parent.ensures.told (c.loop-child.invariant.told t);
  idle = λ none. quiet-on _ _ _ _ _ _ (c.loop-child.invariant.idle none) (c.give_parent.ensures.idle (none c.child-item.result (has-at c.args.children.now c.loop-child.child-index c.child-item.result c.loop-child-test.true c.child-item.is)));
}

pub returns-clause-facts : goal.returns-clause-facts
returns-clause-facts g c =
    subst (λ l. GoesOn (tags_mixed c.args.items.now c.args.item.now.name) (pushed (is_child c.args.items.now c.args.item.now.name) l) c.args.tags.now.facts c.loop-child.tags.facts) (take_all c.loop-child.child-index c.args.children.now c.loop-child-test.false) c.loop-child.invariant.facts

pub returns-in_err-give_parent-clause-idle : goal.returns-in_err-give_parent-clause-idle
returns-in_err-give_parent-clause-idle g c = λ none. quiet-on _ _ _ _ _ _ (c.loop-child.invariant.idle none) (c.give_parent.ensures.idle (none c.child-item.result (has-at c.args.children.now c.loop-child.child-index c.child-item.result c.loop-child-test.true c.child-item.is)))
