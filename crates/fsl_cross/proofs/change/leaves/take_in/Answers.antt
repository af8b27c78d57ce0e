use Rattle.std.proofs.Common.{◌∷◌, [], ap, ◌∙◌, sym, subst}
use Rattle.fsl_cross.specs.Mixed.{leaves_mixed, pushed, is_other_checkin, all_changed}
use Rattle.fsl_table.proofs.Outcomes.{on_ok_map}
use Rattle.fsl_cross.proofs.Retagged.{leaves-end}
use Rattle.fsl_cross.proofs.Quiet.{within-quiet}
use Rattle.fsl_cross.specs.Touches.{NoneRetagged}
use Rattle.fsl_cross.proofs.change.leaves.take_in.Goals as goal

pub retag_changed-requires-clause-facts : goal.retag_changed-requires-clause-facts
retag_changed-requires-clause-facts g c = (c.args.item.now.name ∷ [], c.in_ok-add.ensures.facts)

pub returns-clause-facts : goal.returns-clause-facts
returns-clause-facts g c =
    let items = c.args.items.now in
    let item = c.args.item.now in
    let t = c.requires.trail in
    on_ok_map c.retag_changed.result
    (λ go. go (item.name ∷ []) c.in_ok-add.ensures.facts
    ∙ ap (λ us. leaves_mixed items item.name (pushed (is_other_checkin items item.name) (all_changed us) (item.name ∷ []))) c.items.ensures
    ∙ leaves-end items c.requires.new.rising item c.requires.new.there c.effective_by_row.ensures t.first c.args.tags.now c.args.changes.now t.leads t.told t.before c.requires.tags) c.retag_changed.ensures.facts

pub returns-clause-led : goal.returns-clause-led
returns-clause-led g c = λ first h. c.retag_changed.ensures.led first (c.add.ensures.led first h)

pub returns-in_err-add-clause-idle : goal.returns-in_err-add-clause-idle
returns-in_err-add-clause-idle g c = λ none quiet. (c.add.ensures.idle none).0

pub returns-clause-idle : goal.returns-clause-idle
returns-clause-idle g c = λ none quiet.
    let idle = c.retag_changed.ensures.idle (subst (NoneRetagged c.args.items.now c.args.item.now.name) (sym c.items.ensures) quiet) in
    idle.0 ∙ (c.add.ensures.idle none).0

pub returns-in_err-add-clause-cost : goal.returns-in_err-add-clause-cost
returns-in_err-add-clause-cost g c = λ quiet. c.add.ensures.cost quiet.0

pub returns-clause-cost : goal.returns-clause-cost
returns-clause-cost g c = λ quiet.
    let idle = c.retag_changed.ensures.idle (subst (NoneRetagged c.args.items.now c.args.item.now.name) (sym c.items.ensures) quiet.1) in
    within-quiet _ _ _ _ (c.add.ensures.cost quiet.0) idle.0
