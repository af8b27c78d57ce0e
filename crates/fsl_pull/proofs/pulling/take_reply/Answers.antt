use Rattle.std.proofs.Common.{◌≡◌, List, ℕ, Option, Result, Ok, Err, sym, subst, arith}
use Rattle.fsl_pull.specs.declared.PullFault.{PullFault}
use Rattle.fsl_pull.specs.Pulls.{missing_fault}
use Rattle.fsl_pull.specs.Steps.{IsCommitted}
use Rattle.fsl_pull.specs.PullTurns.{IsTaken}
use Rattle.fsl_pull.proofs.PullTaken.{wrong_turn, behind_all, committed_turn, failed_turn, missing_refused}
use Rattle.fsl_pull.proofs.pulling.take_reply.Goals as goal

pub returns-in-Err-clause-step : goal.returns-in-Err-clause-step
returns-in-Err-clause-step g c =
    wrong_turn missing_fault c.args.asked.now c.args.cards.now (g.D.Disk.state c.args.repo.now.disk) (g.D.Disk.state c.take_cards.new.repo.disk) c.args.repo.now.seen c.take_cards.new.repo.seen (c.take_cards.new.repo.disk ≡ c.args.repo.now.disk)
    c.in-Err.fault c.in-Err.ensures.taken c.take_cards.ensures.disk

pub returns-in-Err-told_step-clause-step : goal.returns-in-Err-told_step-clause-step
returns-in-Err-told_step-clause-step g c =
    behind_all missing_fault c.args.asked.now c.args.cards.now (g.D.Disk.state c.args.repo.now.disk) (g.D.Disk.state c.take_cards.new.repo.disk) c.args.repo.now.seen c.take_cards.new.repo.seen (c.take_cards.new.repo.disk ≡ c.args.repo.now.disk)
    c.in-Ok.moved c.in-Ok.ensures.taken.0 c.in-Ok.ensures.taken.1 c.take_cards.ensures.disk

pub returns-in-Ok-commit-clause-step : goal.returns-in-Ok-commit-clause-step
returns-in-Ok-commit-clause-step g c =
    let mid = c.take_cards.new.repo.seen in
    let new = c.commit.new.repo.seen in
    let before = g.D.Disk.state c.args.repo.now.disk in
    let after = g.D.Disk.state c.commit.new.repo.disk in
    let committed = subst (λ d. IsCommitted (g.D.Disk.state d) after mid new (Ok tt)) c.take_cards.ensures.disk c.in-Ok-commit.ensures.committed in
    subst (λ (r : Result (Option (List (List ℕ))) PullFault). IsTaken missing_fault c.args.asked.now c.args.cards.now before after c.args.repo.now.seen new (c.commit.new.repo.disk ≡ c.args.repo.now.disk) r) (sym c.answer.ensures.answer)
    (committed_turn missing_fault c.args.asked.now c.args.cards.now before after c.args.repo.now.seen new (c.commit.new.repo.disk ≡ c.args.repo.now.disk)
    mid c.in-Ok.moved c.in-Ok.ensures.taken.0 c.in-Ok-told_step.step missing_refused c.in-Ok.ensures.taken.1 c.is_whole.ensures.seen (c.is_whole-2.ensures.seen).items c.in-Ok-told_step.ensures.step committed)

pub returns-in-Err-commit-clause-step : goal.returns-in-Err-commit-clause-step
returns-in-Err-commit-clause-step g c =
    let mid = c.take_cards.new.repo.seen in
    let new = c.commit.new.repo.seen in
    let before = g.D.Disk.state c.args.repo.now.disk in
    let after = g.D.Disk.state c.commit.new.repo.disk in
    let committed = subst (λ d. IsCommitted (g.D.Disk.state d) after mid new (Err c.in-Err-commit.field-0)) c.take_cards.ensures.disk c.in-Err-commit.ensures.committed in
    failed_turn missing_fault c.args.asked.now c.args.cards.now before after c.args.repo.now.seen new (c.commit.new.repo.disk ≡ c.args.repo.now.disk)
    mid c.in-Ok.moved c.in-Ok.ensures.taken.0 c.in-Err-commit.field-0 missing_refused c.in-Ok.ensures.taken.1 c.is_whole.ensures.seen (c.is_whole-2.ensures.seen).items committed

pub returns-in-Err-commit-clause-later : goal.returns-in-Err-commit-clause-later
returns-in-Err-commit-clause-later g c =
    let taken = (c.in-Ok.ensures.taken.1).appends in
    omega (arith, c.commit.ensures.later, taken.faults)
