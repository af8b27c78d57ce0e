use Rattle.std.proofs.Common.{rules, ◌≡◌, sym, ap, ◌∙◌}
use Rattle.std.specs.Prelude.{None, true, false}
use Rattle.std.specs.FinSet as set
use Rattle.fsl_blobs.specs.Fold.{contents}
use Rattle.fsl_repo.specs.Machine.{now}
use Rattle.fsl_repo.proofs.Unshuns.{stopped_step, not_shunned_step, unlisting_step}
use Rattle.fsl_repo.proofs.repo.Repo.unshun.Goals as goal

pub returns-in-Some-clause-step : goal.returns-in-Some-clause-step
returns-in-Some-clause-step g c =
    stopped_step c.args.self.now.seen.state c.args.name c.in-Some.faults (ap (λ v. v.seen.state.stopped) (sym c.self.view_is) ∙ sym c.in-Some.ensures)

pub returns-then-not-is_shunned-clause-step : goal.returns-then-not-is_shunned-clause-step
returns-then-not-is_shunned-clause-step g c =
    let runs : c.args.self.now.seen.state.stopped ≡ None = search rules in
    let is : set.contains (now c.args.self.now.seen.state).shunned c.args.name ≡ false =
    sym (ap (λ v. set.contains (contents v.seen.state.records).shunned c.args.name) c.self.view_is) ∙ sym (ap (λ rs. set.contains (contents rs).shunned c.args.name) c.self.invariant.same.records)
    ∙ sym c.is_shunned.ensures ∙ c.if-not-is_shunned.true in
    not_shunned_step c.args.self.now.seen.state c.args.name runs is

pub returns-clause-step : goal.returns-clause-step
returns-clause-step g c =
    let runs : c.args.self.now.seen.state.stopped ≡ None = search rules in
    let is : set.contains (now c.args.self.now.seen.state).shunned c.args.name ≡ true =
    sym (ap (λ v. set.contains (contents v.seen.state.records).shunned c.args.name) c.self.view_is) ∙ sym (ap (λ rs. set.contains (contents rs).shunned c.args.name) c.self.invariant.same.records)
    ∙ sym c.is_shunned.ensures ∙ c.if-not-is_shunned.false in
    unlisting_step c.args.self.now.seen.state c.args.name runs is c.unlist.result c.unlist.new.self.seen.state c.unlist.ensures.step
