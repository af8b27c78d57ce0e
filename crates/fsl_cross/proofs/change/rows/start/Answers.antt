use Rattle.std.proofs.Common.{◌∷◌, [], ap, ◌∙◌, sym, subst}
use Rattle.fsl_table.proofs.Outcomes.{on_ok_map}
use Rattle.fsl_cross.specs.Mixed.{rows_mixed, tagged_done}
use Rattle.fsl_cross.proofs.Quiet.{within-quiet}
use Rattle.fsl_cross.specs.Touches.{NoneRetagged}
use Rattle.fsl_cross.proofs.change.rows.start.Goals as goal

pub retag_changed-requires-clause-facts : goal.retag_changed-requires-clause-facts
retag_changed-requires-clause-facts g c = (c.args.item.now.name ∷ [], c.in_ok-add.ensures.facts)

pub returns-clause-facts : goal.returns-clause-facts
returns-clause-facts g c =
    let items = c.args.items.now in
    let item = c.args.item.now in
    on_ok_map c.retag_changed.result
    (λ go. go (item.name ∷ []) c.in_ok-add.ensures.facts ∙ ap (λ us. rows_mixed items item.name (tagged_done items item.name us)) c.items.ensures) c.retag_changed.ensures.facts

pub returns-clause-led : goal.returns-clause-led
returns-clause-led g c = λ first h. c.retag_changed.ensures.led first (c.add.ensures.led first h)

pub returns-clause-cost : goal.returns-clause-cost
returns-clause-cost g c = λ none.
    let idle = c.retag_changed.ensures.idle (subst (NoneRetagged c.args.items.now c.args.item.now.name) (sym c.items.ensures) none) in
    within-quiet _ _ _ 4 c.add.ensures.cost idle.0
