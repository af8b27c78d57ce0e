use Rattle.std.proofs.Common.{◌≡◌, List, ℕ, Option, Result, Ok, Err, sym, subst, arith}
use Rattle.fsl_pull.specs.declared.PullFault.{PullFault}
use Rattle.fsl_pull.specs.Steps.{IsCommitted}
use Rattle.fsl_pull.specs.PushTurns.{IsPushTaken}
use Rattle.fsl_pull.proofs.PushTaken.{wrong_turn, behind_all, committed_turn, failed_turn}
use Rattle.fsl_pull.proofs.pushing.take_reply.Goals as goal

pub returns-in-Err-clause-step : goal.returns-in-Err-clause-step
returns-in-Err-clause-step g c =
    wrong_turn c.args.due.now c.args.cards.now (g.D.Disk.state c.args.repo.now.disk) (g.D.Disk.state c.take_cards.new.repo.disk) c.args.repo.now.seen c.take_cards.new.repo.seen c.args.sent.now c.args.sent.now (c.take_cards.new.repo.disk ≡ c.args.repo.now.disk)
    c.in-Err.fault c.in-Err.ensures.taken c.take_cards.ensures.disk

pub returns-in-Err-noted_step-clause-step : goal.returns-in-Err-noted_step-clause-step
returns-in-Err-noted_step-clause-step g c =
    behind_all c.args.due.now c.args.cards.now (g.D.Disk.state c.args.repo.now.disk) (g.D.Disk.state c.take_cards.new.repo.disk) c.args.repo.now.seen c.take_cards.new.repo.seen c.args.sent.now c.noted_step.new.sent (c.take_cards.new.repo.disk ≡ c.args.repo.now.disk)
    c.in-Ok.field-0 c.in-Ok.ensures.taken.0 c.in-Ok.ensures.taken.1 c.take_cards.ensures.disk

pub returns-in-Ok-commit-clause-step : goal.returns-in-Ok-commit-clause-step
returns-in-Ok-commit-clause-step g c =
    let mid = c.take_cards.new.repo.seen in
    let new = c.commit.new.repo.seen in
    let before = g.D.Disk.state c.args.repo.now.disk in
    let after = g.D.Disk.state c.commit.new.repo.disk in
    let committed = subst (λ d. IsCommitted (g.D.Disk.state d) after mid new (Ok tt)) c.take_cards.ensures.disk c.in-Ok-commit.ensures.committed in
    subst (λ (r : Result (Option (List (List ℕ))) PullFault). IsPushTaken c.args.due.now c.args.cards.now before after c.args.repo.now.seen new c.args.sent.now c.noted_step.new.sent (c.commit.new.repo.disk ≡ c.args.repo.now.disk) r) (sym c.answer.ensures.answer)
    (committed_turn c.args.due.now c.args.cards.now before after c.args.repo.now.seen new c.args.sent.now c.noted_step.new.sent (c.commit.new.repo.disk ≡ c.args.repo.now.disk)
    mid c.in-Ok.field-0 c.in-Ok.ensures.taken.0 c.in-Ok-noted_step.step c.in-Ok.ensures.taken.1 c.is_whole.ensures.seen c.in-Ok-noted_step.ensures.step c.in-Ok-noted_step.ensures.sent committed)

pub returns-in-Err-commit-clause-step : goal.returns-in-Err-commit-clause-step
returns-in-Err-commit-clause-step g c =
    let mid = c.take_cards.new.repo.seen in
    let new = c.commit.new.repo.seen in
    let before = g.D.Disk.state c.args.repo.now.disk in
    let after = g.D.Disk.state c.commit.new.repo.disk in
    let committed = subst (λ d. IsCommitted (g.D.Disk.state d) after mid new (Err c.in-Err-commit.field-0)) c.take_cards.ensures.disk c.in-Err-commit.ensures.committed in
    failed_turn c.args.due.now c.args.cards.now before after c.args.repo.now.seen new c.args.sent.now c.noted_step.new.sent (c.commit.new.repo.disk ≡ c.args.repo.now.disk)
    mid c.in-Ok.field-0 c.in-Ok.ensures.taken.0 c.in-Err-commit.field-0 c.in-Ok.ensures.taken.1 c.is_whole.ensures.seen committed

pub returns-in-Err-commit-clause-later : goal.returns-in-Err-commit-clause-later
returns-in-Err-commit-clause-later g c =
    let taken = (c.in-Ok.ensures.taken.1).appends in
    omega (arith, c.commit.ensures.later, taken.faults)
