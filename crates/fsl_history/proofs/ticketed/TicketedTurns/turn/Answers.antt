use Rattle.std.proofs.Common.{arith, sym, ap, subst, ◌∙◌, ◌++◌, ◌∷◌, [], Some}
use Rattle.fsl_history.specs.Rule.{tale_in}
use Rattle.fsl_history.specs.Plays.{IsCalled}
use Rattle.fsl_history.proofs.Keeper.{settled}
use Rattle.fsl_history.proofs.Beside.{called_grows}
use Rattle.fsl_history.proofs.ticketed.TicketedTurns.turn.Goals as goal

pub step-answer-requires-clause-table : goal.step-answer-requires-clause-table
step-answer-requires-clause-table g c = c.pass.invariant.0 ∙ sym c.args.self.now.named

pub step-answer-requires-clause-idle : goal.step-answer-requires-clause-idle
step-answer-requires-clause-idle g c = (tale_in c.pass.inside.chair.me.0, c.pass.inside.left, omega (arith, c.if-pass-eq0.false), c.pass.invariant.1)

pub invariant_of-pass : goal.invariant_of-pass
invariant_of-pass g c =
    let called = c.step-answer.ensures.called (tale_in c.pass.inside.chair.me.0) c.pass.inside.left c.pass.invariant.1 in
    (c.step-answer.ensures.table.0 ∙ c.pass.invariant.0, settled g.M.Machine.may_step g.M.Machine.stored_count c.args.self.now.table.shared.key.items c.step-answer.new.chair.me called.0 _ called.2)

pub returns-clause-called : goal.returns-clause-called
returns-clause-called g c =
    let t = tale_in c.pass.inside.chair.me.0 in
    let called = c.step-answer.ensures.called t c.pass.inside.left c.pass.invariant.1 in
    subst (λ x. IsCalled g.M.Machine.may_step g.M.Machine.stored_count g.B.Chronicle.first x (tale_in c.step-answer.new.chair.me.0) c.args.event.now c.step-answer.result) c.pass.view_is
    (subst (λ y. IsCalled g.M.Machine.may_step g.M.Machine.stored_count g.B.Chronicle.first t y c.args.event.now c.step-answer.result) (sym (ap (λ x. tale_in x.0) called.2)) called.1)

pub returns-clause-grown : goal.returns-clause-grown
returns-clause-grown g c =
    let t = tale_in c.pass.inside.chair.me.0 in
    let called = c.step-answer.ensures.called t c.pass.inside.left c.pass.invariant.1 in
    called_grows g.M.Machine.may_step g.M.Machine.stored_count g.B.Chronicle.first _ _ c.args.event.now c.step-answer.result
    (subst (λ x. IsCalled g.M.Machine.may_step g.M.Machine.stored_count g.B.Chronicle.first x (tale_in c.step-answer.new.chair.me.0) c.args.event.now c.step-answer.result) c.pass.view_is
    (subst (λ y. IsCalled g.M.Machine.may_step g.M.Machine.stored_count g.B.Chronicle.first t y c.args.event.now c.step-answer.result) (sym (ap (λ x. tale_in x.0) called.2)) called.1))

pub returns-clause-told : goal.returns-clause-told
returns-clause-told g c =
    let t = tale_in c.pass.inside.chair.me.0 in
    let called = c.step-answer.ensures.called t c.pass.inside.left c.pass.invariant.1 in
    let mine = ap (λ x. (tale_in x.0).mine) called.2 ∙ called.1.mine ∙ ap (λ x. x.mine ++ (c.args.event.now, c.step-answer.result) ∷ []) c.pass.view_is in
    ((c.args.event.now, c.step-answer.result) ∷ [], ap Some mine, (λ i. (c.args.event.now, c.step-answer.result) ∷ []))

pub returns-clause-step : goal.returns-clause-step
returns-clause-step g c =
    let called = c.step-answer.ensures.called (tale_in c.pass.inside.chair.me.0) c.pass.inside.left c.pass.invariant.1 in
    (called.1.before, called.1.after, called.1.step)
