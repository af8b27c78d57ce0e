use Rattle.std.proofs.Common.{◌∷◌, [], ap, ◌∙◌, ◌≤◌, List, length, sym, subst}
use Rattle.fsl_cross.specs.Mixed.{tags_mixed, pushed, is_child, all_changed}
use Rattle.fsl_table.proofs.Outcomes.{on_ok_map, always_ok}
use Rattle.fsl_cross.proofs.Parents.{tags-end}
use Rattle.fsl_cross.proofs.Quiet.{quiet-on, within-quiet}
use Rattle.fsl_cross.specs.Touches.{NoneLate}
use Rattle.fsl_order.specs.TableState.{Change}
use Rattle.fsl_tags.specs.declared.Fact.{Fact}
use Rattle.fsl_cross.proofs.change.tags.take_in.Goals as goal

pub give_late-requires-clause-facts : goal.give_late-requires-clause-facts
give_late-requires-clause-facts g c = (c.args.item.now.name ∷ [], c.in_ok-add.ensures.facts)

pub returns-clause-facts : goal.returns-clause-facts
returns-clause-facts g c =
    let items = c.args.items.now in
    let item = c.args.item.now in
    let t = c.requires.trail in
    on_ok_map c.give_late.result
    (λ go. go (item.name ∷ []) c.in_ok-add.ensures.facts ∙ ap (λ us. tags_mixed items item.name (pushed (is_child items item.name) (all_changed us) (item.name ∷ []))) c.items.ensures
    ∙ tags-end items c.requires.new.rising item c.requires.new.there t.first c.args.changes.now c.args.links.now t.leads t.told t.before c.requires.links) c.give_late.ensures.facts

pub returns-clause-led : goal.returns-clause-led
returns-clause-led g c = λ first h. c.give_late.ensures.led first (c.add.ensures.led first h)

pub returns-clause-told : goal.returns-clause-told
returns-clause-told g c = on_ok_map c.give_late.result (λ more t. more (c.in_ok-add.ensures.told t)) c.give_late.ensures.told

pub returns-in_err-add-clause-idle : goal.returns-in_err-add-clause-idle
returns-in_err-add-clause-idle g c = λ none quiet. c.add.ensures.idle none

pub returns-clause-idle : goal.returns-clause-idle
returns-clause-idle g c = λ none quiet.
    let idle = c.give_late.ensures.idle (subst (NoneLate c.args.items.now c.args.item.now.name) (sym c.items.ensures) quiet) in
    quiet-on _ _ _ _ _ _ (c.add.ensures.idle none) idle

pub returns-clause-single : goal.returns-clause-single
returns-clause-single g c =
    always_ok c.give_late.result (λ quiet none.
    let idle = c.give_late.ensures.idle (subst (NoneLate c.args.items.now c.args.item.now.name) (sym c.items.ensures) quiet) in
    subst (λ (us : List (Change Fact)). length us ≤ 1) (sym idle.1) (c.in_ok-add.ensures.single none))

pub returns-in_err-add-clause-cost : goal.returns-in_err-add-clause-cost
returns-in_err-add-clause-cost g c = λ own quiet. c.add.ensures.cost own

pub returns-clause-cost : goal.returns-clause-cost
returns-clause-cost g c = λ own quiet.
    let idle = c.give_late.ensures.idle (subst (NoneLate c.args.items.now c.args.item.now.name) (sym c.items.ensures) quiet) in
    within-quiet _ _ _ _ (c.add.ensures.cost own) idle.0
