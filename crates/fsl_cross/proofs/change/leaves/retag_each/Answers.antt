use Rattle.std.proofs.Common.{subst, refl}
use Rattle.std.proofs.lemmas.List.{take_all}
use Rattle.fsl_cross.specs.Mixed.{GoesOn, leaves_mixed, pushed, is_other_checkin}
use Rattle.fsl_cross.proofs.Going.{goes-mixture, goes-next}
use Rattle.fsl_cross.proofs.Quiet.{quiet-on}
use Rattle.fsl_cross.proofs.Retiring.{has-at}
use Rattle.fsl_cross.proofs.change.leaves.retag_each.Goals as goal

pub loop-name-init : goal.loop-name-init
loop-name-init g c = record { facts = λ done e. e; led = λ first h. h; idle = λ none. (refl, refl) }

pub retag-requires-clause-facts : goal.retag-requires-clause-facts
retag-requires-clause-facts g c =
    goes-mixture (leaves_mixed c.args.items.now c.args.item.now.name) (is_other_checkin c.args.items.now c.args.item.now.name) _ c.args.leaves.now.facts c.loop-name.leaves.facts c.loop-name.invariant.facts c.requires.facts

pub returns-in_err-retag-clause-led : goal.returns-in_err-retag-clause-led
returns-in_err-retag-clause-led g c = λ first h. c.retag.ensures.led first (c.loop-name.invariant.led first h)

pub loop-name-preserved : goal.loop-name-preserved
loop-name-preserved g c = record {
  facts =
      goes-next (leaves_mixed c.args.items.now c.args.item.now.name) (is_other_checkin c.args.items.now c.args.item.now.name) c.args.names.now c.loop-name.name-index c.name-item.result c.args.leaves.now.facts c.loop-name.leaves.facts c.retag.new.leaves.facts
      c.loop-name-test.true c.name-item.is c.loop-name.invariant.facts c.in_ok-retag.ensures.facts;
  led = λ first h. c.retag.ensures.led first (c.loop-name.invariant.led first h);
  idle = λ none. quiet-on _ _ _ _ _ _ (c.loop-name.invariant.idle none) (c.retag.ensures.idle (none c.name-item.result (has-at c.args.names.now c.loop-name.name-index c.name-item.result c.loop-name-test.true c.name-item.is)));
}

pub returns-clause-facts : goal.returns-clause-facts
returns-clause-facts g c =
    subst (λ l. GoesOn (leaves_mixed c.args.items.now c.args.item.now.name) (pushed (is_other_checkin c.args.items.now c.args.item.now.name) l) c.args.leaves.now.facts c.loop-name.leaves.facts) (take_all c.loop-name.name-index c.args.names.now c.loop-name-test.false) c.loop-name.invariant.facts

pub returns-in_err-retag-clause-idle : goal.returns-in_err-retag-clause-idle
returns-in_err-retag-clause-idle g c = λ none. quiet-on _ _ _ _ _ _ (c.loop-name.invariant.idle none) (c.retag.ensures.idle (none c.name-item.result (has-at c.args.names.now c.loop-name.name-index c.name-item.result c.loop-name-test.true c.name-item.is)))
