use Rattle.std.proofs.Common.{arith, sym, ap, ◌∙◌, []}
use Rattle.fsl_history.specs.Rule.{tale_in, most_turns}
use Rattle.fsl_history.specs.Plays.{issued, after_issue}
use Rattle.fsl_history.specs.Entries.{newcomer}
use Rattle.fsl_history.proofs.Keeper.{splits_at, settled}
use Rattle.fsl_history.proofs.ticketed.issue.Goals as goal

pub split_seat-chair-requires : goal.split_seat-chair-requires
split_seat-chair-requires g c =
    let k = c.requires.keeper in
    let t = c.requires.table in
    (t.0 ∙ sym t.1, omega (arith, t.2, ap (λ z. z.words) t.1), splits_at _ _ _ _ _ k.0 [] k.2 (ap (λ x. x.0) k.3) k.1)

pub invariant_of-result : goal.invariant_of-result
invariant_of-result g c =
    let k = c.requires.keeper in
    let e = c.split_seat-chair.ensures in
    (e.3 ∙ c.requires.table.0, settled g.M.Machine.may_step g.M.Machine.stored_count c.args.table.now.shared.key.items c.split_seat-chair.result.me (newcomer k.0) most_turns (e.4 ∙ ap (λ x. (issued x.0, [])) k.3))

pub returns-clause-table : goal.returns-clause-table
returns-clause-table g c = let e = c.split_seat-chair.ensures in (e.0, e.1)

pub returns-clause-issued : goal.returns-clause-issued
returns-clause-issued g c = λ n at. let e = c.split_seat-chair.ensures in (e.2 ∙ ap (λ x. (after_issue x.0, x.1)) at, ap (λ x. tale_in x.0) (e.4 ∙ ap (λ x. (issued x.0, [])) at))
