use Rattle.std.proofs.Common.{subst}
use Rattle.std.proofs.lemmas.List.{take_all}
use Rattle.fsl_cross.specs.Kinds.{KindsGo, is_attachment}
use Rattle.fsl_cross.specs.Mixed.{rows_mixed}
use Rattle.fsl_cross.proofs.Going.{goes-mixture, goes-next}
use Rattle.fsl_cross.proofs.Rekinded.{has-place}
use Rattle.fsl_cross.proofs.change.kinds.change_each.Goals as goal

pub loop-name-init : goal.loop-name-init
loop-name-init g c = record { facts = λ done e. e; led = λ first h. h }

pub change_at-requires-clause-kind : goal.change_at-requires-clause-kind
change_at-requires-clause-kind g c = c.requires.kinds c.name-item.result (has-place c.args.names.now c.loop-name.name-index c.name-item.result c.loop-name-test.true c.name-item.is)

pub change_at-requires-clause-facts : goal.change_at-requires-clause-facts
change_at-requires-clause-facts g c =
    goes-mixture (rows_mixed c.args.items.now c.args.item.now.name) (is_attachment c.args.items.now) _ c.args.timeline.now.facts c.loop-name.timeline.facts c.loop-name.invariant.facts c.requires.facts

pub returns-in_err-change_at-clause-led : goal.returns-in_err-change_at-clause-led
returns-in_err-change_at-clause-led g c = λ first h. c.change_at.ensures.led first (c.loop-name.invariant.led first h)

pub loop-name-preserved : goal.loop-name-preserved
loop-name-preserved g c = record {
  facts =
      goes-next (rows_mixed c.args.items.now c.args.item.now.name) (is_attachment c.args.items.now) c.args.names.now c.loop-name.name-index c.name-item.result c.args.timeline.now.facts c.loop-name.timeline.facts c.change_at.new.timeline.facts
      c.loop-name-test.true c.name-item.is c.loop-name.invariant.facts c.in_ok-change_at.ensures.facts;
  led = λ first h. c.change_at.ensures.led first (c.loop-name.invariant.led first h);
}

pub returns-clause-facts : goal.returns-clause-facts
returns-clause-facts g c =
    subst (λ l. KindsGo c.args.items.now c.args.item.now.name l c.args.timeline.now.facts c.loop-name.timeline.facts) (take_all c.loop-name.name-index c.args.names.now c.loop-name-test.false) c.loop-name.invariant.facts
