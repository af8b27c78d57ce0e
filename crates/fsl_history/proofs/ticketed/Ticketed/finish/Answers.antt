use Rattle.std.proofs.Common.{rules, arith, sym, ap, subst, refl, ◌∙◌, ◌≡◌, List, [], ◌∷◌, ◌++◌, length, append_assoc, append-nil}
use Rattle.std.specs.Vec.Iter.{into_iter_items}
use Rattle.fsl_history.specs.Entries.{IsFinished, shares_in, calls_in}
use Rattle.fsl_history.specs.Rule.{back_in}
use Rattle.fsl_history.proofs.Lists.{heads, if_some, if_on, runs_later}
use Rattle.fsl_history.proofs.ticketed.Ticketed.finish.Goals as goal

all_in : {X : Type 0} (front rest whole : List X) → length rest ≡ 0 → front ++ rest ≡ whole → front ≡ whole
all_in front [] whole e is = sym (append-nil front) ∙ is
all_in front (x ∷ xs) whole e is = absurd (omega (arith, e))

pub loop-pass-init : goal.loop-pass-init
loop-pass-init g c = (refl, c.into_inner-seat.result.kept.0, [], c.into_inner-seat.result.kept.1, search rules)

pub gather-requires-clause-table : goal.gather-requires-clause-table
gather-requires-clause-table g c =
    let v = c.loop-pass.invariant in
    (v.0 ∙ c.into_inner-seat.result.named, c.args.self.named, sym (ap (λ z. z.words) c.args.self.named) ∙ c.args.self.sized.0)

pub gather-requires-clause-keeper : goal.gather-requires-clause-keeper
gather-requires-clause-keeper g c = let v = c.loop-pass.invariant in (g.B.Chronicle.passes, v.2, v.1, v.3)

pub loop-pass-preserved : goal.loop-pass-preserved
loop-pass-preserved g c =
    let v = c.loop-pass.invariant in
    let e = c.gather.ensures in
    let p = c.in-Some.pass in (
      e.table.0 ∙ v.0,
      e.table.1 ∙ v.1,
      v.2 ++ p ∷ [],
      e.gathered g.B.Chronicle.passes v.2 v.3,
      append_assoc v.2 (p ∷ []) (into_iter_items c.next.new.self) ∙ ap (λ l. v.2 ++ l) (sym c.in-Some.ensures.steps.0) ∙ v.4,
    )

pub emptied-machine-requires-clause-table : goal.emptied-machine-requires-clause-table
emptied-machine-requires-clause-table g c = let v = c.loop-pass.invariant in (v.0 ∙ c.into_inner-seat.result.named ∙ sym c.args.self.named, c.args.self.sized.1)

pub emptied-machine-requires-clause-all : goal.emptied-machine-requires-clause-all
emptied-machine-requires-clause-all g c =
    let v = c.loop-pass.invariant in
    let all = all_in v.2 (into_iter_items c.loop-pass.pass-iterator) c.args.passes.items (sym c.loop-pass.pass-iterator.rest.ok.0 ∙ c.in-None.ensures.steps.0) v.4 in
    (g.B.Chronicle.passes, v.2, ap (λ l. length l) all ∙ sym c.args.passes.ok.0 ∙ c.requires, v.1, v.3)

pub overflow_sub-stored : goal.overflow_sub-stored
overflow_sub-stored g c =
    let e = c.emptied-machine.ensures in
    let s = c.stored.ensures in
    let b = heads _ _ _ c.args.self.counted e.begun in
    omega (arith, s, b, e.finished.share)

pub returns-clause-history : goal.returns-clause-history
returns-clause-history g c =
    let v = c.loop-pass.invariant in
    let e = c.emptied-machine.ensures in
    let all = all_in v.2 (into_iter_items c.loop-pass.pass-iterator) c.args.passes.items (sym c.loop-pass.pass-iterator.rest.ok.0 ∙ c.in-None.ensures.steps.0) v.4 in
    let is = ap (λ x. back_in x.0) v.3 ∙ all in
    if_some g.B.Chronicle.first _ (λ f named.
    subst (λ m. IsFinished g.M.Machine.may_step g.M.Machine.stored_count m c.args.passes.items c.emptied-machine.result) (heads _ _ _ e.born (c.args.self.born f named))
    (subst (λ ts. IsFinished g.M.Machine.may_step g.M.Machine.stored_count e.first ts c.emptied-machine.result) is e.finished))

pub returns-clause-sum : goal.returns-clause-sum
returns-clause-sum g c =
    let v = c.loop-pass.invariant in
    let e = c.emptied-machine.ensures in
    let s = c.stored.ensures in
    let b = heads _ _ _ c.args.self.counted e.begun in
    let all = all_in v.2 (into_iter_items c.loop-pass.pass-iterator) c.args.passes.items (sym c.loop-pass.pass-iterator.rest.ok.0 ∙ c.in-None.ensures.steps.0) v.4 in
    let is = ap (λ ts. shares_in ts) (ap (λ x. back_in x.0) v.3 ∙ all) in
    omega (arith, s, b, e.finished.share, is)

pub returns-clause-later : goal.returns-clause-later
returns-clause-later g c =
    let m = g.met.M.Machine in
    if_on g.B.Chronicle.first _ _ (λ f done. runs_later g.M.Machine.may_step g.M.Machine.later m.later_self m.later_through m.step_later f (calls_in done.log) c.emptied-machine.result done.history) (returns-clause-history g c)

pub returns-clause-rise : goal.returns-clause-rise
returns-clause-rise g c = let sum = returns-clause-sum g c in if_on g.B.Chronicle.first _ _ (λ f done. omega (arith, sum, done.share, c.stored.ensures, overflow_sub-stored g c)) (returns-clause-history g c)
