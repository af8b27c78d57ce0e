use Rattle.std.proofs.Common.{sym, ap, subst, ◌∙◌}
use Rattle.fsl_history.specs.Rule.{tale_in}
use Rattle.fsl_history.specs.Plays.{IsShown}
use Rattle.fsl_history.proofs.Keeper.{settled}
use Rattle.fsl_history.proofs.ticketed.Ticketed.look.Goals as goal

pub count-requires-clause-table : goal.count-requires-clause-table
count-requires-clause-table g c = c.pass.invariant.0 ∙ sym c.args.self.now.named

pub count-requires-clause-idle : goal.count-requires-clause-idle
count-requires-clause-idle g c = (tale_in c.pass.inside.chair.me.0, c.pass.inside.left, c.pass.invariant.1)

pub invariant_of-pass : goal.invariant_of-pass
invariant_of-pass g c =
    let shown = c.count.ensures.shown (tale_in c.pass.inside.chair.me.0) c.pass.inside.left c.pass.invariant.1 in
    (c.count.ensures.table.0 ∙ c.pass.invariant.0, settled g.M.Machine.may_step g.M.Machine.stored_count c.args.self.now.table.shared.key.items c.count.new.chair.me shown.0 c.pass.inside.left shown.2)

pub returns : goal.returns
returns g c =
    let t = tale_in c.pass.inside.chair.me.0 in
    let shown = c.count.ensures.shown t c.pass.inside.left c.pass.invariant.1 in
    subst (λ x. IsShown g.M.Machine.may_step g.B.Chronicle.first x (tale_in c.count.new.chair.me.0) c.count.result) c.pass.view_is
    (subst (λ y. IsShown g.M.Machine.may_step g.B.Chronicle.first t y c.count.result) (sym (ap (λ x. tale_in x.0) shown.2)) shown.1)
