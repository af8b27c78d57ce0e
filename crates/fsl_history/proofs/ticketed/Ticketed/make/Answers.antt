use Rattle.std.proofs.Common.{arith, sym, ap, subst, refl, ◌∙◌, ◌≡◌, ℕ, Some, [], ◌∷◌, ◌++◌}
use Rattle.fsl_history.specs.Entries.{newcomers, IsClosed}
use Rattle.fsl_history.specs.Rule.{back_in}
use Rattle.fsl_history.specs.declared.view.View.TheVariants as view
use Rattle.fsl_history.proofs.Lists.{newcomers-next, untouched, some_or}
use Rattle.fsl_history.proofs.ticketed.Ticketed.make.Goals as goal

pub emptied-requires-clause-table : goal.emptied-requires-clause-table
emptied-requires-clause-table g c = (c.args.housed.tied, c.args.housed.sized.1)

pub emptied-requires-clause-all : goal.emptied-requires-clause-all
emptied-requires-clause-all g c = (0, [], refl, c.args.housed.fresh.0, c.args.housed.fresh.1)

pub returns-in_default-clause-refused : goal.returns-in_default-clause-refused
returns-in_default-clause-refused g c =
    let first = c.requires.first in
    let e = subst (λ x. IsClosed g.M.Machine.may_step g.M.Machine.stored_count c.args.housed.table.shared.key.items (back_in x.0) c.emptied.result) c.args.housed.fresh.1 c.emptied.ensures in
    first.1 ∙ ap Some (untouched g.M.Machine.may_step g.M.Machine.stored_count c.args.housed.table.shared.key.items c.emptied.result first.0 e first.2)

pub loop-number-init : goal.loop-number-init
loop-number-init g c = let e = c.in-Ok.ensures in (refl, c.args.housed.fresh.0, c.args.housed.fresh.1, e.items, e.len, e.capacity)

pub issue-requires-clause-table : goal.issue-requires-clause-table
issue-requires-clause-table g c =
    let v = c.loop-number.invariant in
    (v.0 ∙ c.args.housed.tied ∙ c.requires.table, c.requires.table, sym (ap (λ z. z.words) c.requires.table) ∙ c.args.housed.sized.0)

pub issue-requires-clause-keeper : goal.issue-requires-clause-keeper
issue-requires-clause-keeper g c =
    let v = c.loop-number.invariant in
    (c.loop-number._number, omega (arith, c.loop-number-test.true, c.requires.few.1), v.1, v.2)

pub push_reserved-requires : goal.push_reserved-requires
push_reserved-requires g c = let v = c.loop-number.invariant in omega (arith, c.loop-number-test.true, v.4, v.5)

pub loop-number-preserved : goal.loop-number-preserved
loop-number-preserved g c =
    let v = c.loop-number.invariant in
    let n = c.loop-number._number in
    let i = c.issue.ensures.issued n v.2 in
    let p = c.push_reserved.ensures in
    (c.issue.ensures.table.0 ∙ v.0, c.issue.ensures.table.1 ∙ v.1, i.0, p.items ∙ (λ k. v.3 k ++ i.1 k ∷ []) ∙ newcomers-next n, omega (arith, p.len, v.4), omega (arith, p.capacity, v.5))

pub invariant_of-keeper : goal.invariant_of-keeper
invariant_of-keeper g c =
    let v = c.loop-number.invariant in
    let n : ℕ = c.loop-number._number in
    let all : n ≡ g.B.Chronicle.passes = omega (arith, c.loop-number-test.false, c.loop-number.auto._number-end, c.requires.all) in
    record {
      named = v.0 ∙ c.args.housed.tied ∙ c.requires.table;
      kept = (v.1, v.2 ∙ ap (λ k. (view.Keeper k [], [])) all);
    }

pub invariant_of-ticketed : goal.invariant_of-ticketed
invariant_of-ticketed g c =
    let first = c.requires.first in
    record {
      sized = c.args.housed.sized;
      named = c.requires.table;
      born = λ f is. first.2 ∙ ap (λ o. some_or o first.0 ∷ []) (sym first.1 ∙ is);
      counted = c.args.housed.counted;
    }

pub returns-clause-passes : goal.returns-clause-passes
returns-clause-passes g c =
    let v = c.loop-number.invariant in
    let n : ℕ = c.loop-number._number in
    let all : n ≡ c.args.passes = omega (arith, c.loop-number-test.false, c.loop-number.auto._number-end) in
    v.3 ∙ ap (λ k. newcomers k) all
