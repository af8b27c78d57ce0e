use Rattle.std.proofs.Common.{◌≡◌, List, ℕ, Option, Ok, Err, sym, ap, subst, arith, ◌∙◌}
use Rattle.fsl_pull.specs.Steps.{IsCommitted}
use Rattle.fsl_pull.proofs.LocalMore.{local_wrong, local_behind, local_committed, local_failed, asked_keeps, commit_runs}
use Rattle.fsl_pull.proofs.local.local_round.Goals as goal

pub returns-in-Err-clause-step : goal.returns-in-Err-clause-step
returns-in-Err-clause-step g c =
    local_wrong c.args.peer.now.seen.state c.args.told.now c.args.asked.now (g.D.Disk.state c.args.repo.now.disk) (g.D.Disk.state c.take_asked.new.repo.disk) c.args.repo.now.seen c.take_asked.new.repo.seen (c.take_asked.new.repo.disk ≡ c.args.repo.now.disk) c.take_asked.new.peer.seen.state
    c.in-Err.fault c.in-Err.ensures.taken c.take_asked.ensures.disk

pub returns-in-Err-what_follows-clause-step : goal.returns-in-Err-what_follows-clause-step
returns-in-Err-what_follows-clause-step g c =
    local_behind c.args.peer.now.seen.state c.args.told.now c.args.asked.now (g.D.Disk.state c.args.repo.now.disk) (g.D.Disk.state c.take_asked.new.repo.disk) c.args.repo.now.seen c.take_asked.new.repo.seen (c.take_asked.new.repo.disk ≡ c.args.repo.now.disk) c.take_asked.new.peer.seen.state
    c.in-Ok.moved c.in-Ok.ensures.taken c.take_asked.ensures.disk

pub returns-in-Ok-commit-clause-step : goal.returns-in-Ok-commit-clause-step
returns-in-Ok-commit-clause-step g c =
    let after = g.D.Disk.state c.commit.new.repo.disk in
    let mid = c.take_asked.new.repo.seen in
    let new = c.commit.new.repo.seen in
    let committed = subst (λ d. IsCommitted (g.D.Disk.state d) after mid new (Ok tt)) c.take_asked.ensures.disk c.in-Ok-commit.ensures.committed in
    local_committed c.args.peer.now.seen.state c.args.told.now c.args.asked.now (g.D.Disk.state c.args.repo.now.disk) after c.args.repo.now.seen new (c.commit.new.repo.disk ≡ c.args.repo.now.disk) c.take_asked.new.peer.seen.state
    mid c.in-Ok.moved c.in-Ok-what_follows.step (Ok c.answer.result) c.in-Ok.ensures.taken c.is_whole.ensures.seen (c.is_whole-2.ensures.seen).items c.in-Ok-what_follows.ensures.step committed (ap (λ (o : Option (List (List ℕ))). Ok o) (sym c.answer.ensures))

pub returns-in-Err-commit-clause-step : goal.returns-in-Err-commit-clause-step
returns-in-Err-commit-clause-step g c =
    let after = g.D.Disk.state c.commit.new.repo.disk in
    let mid = c.take_asked.new.repo.seen in
    let new = c.commit.new.repo.seen in
    let committed = subst (λ d. IsCommitted (g.D.Disk.state d) after mid new (Err c.in-Err-commit.field-0)) c.take_asked.ensures.disk c.in-Err-commit.ensures.committed in
    local_failed c.args.peer.now.seen.state c.args.told.now c.args.asked.now (g.D.Disk.state c.args.repo.now.disk) after c.args.repo.now.seen new (c.commit.new.repo.disk ≡ c.args.repo.now.disk) c.take_asked.new.peer.seen.state
    mid c.in-Ok.moved c.in-Err-commit.field-0 c.in-Ok.ensures.taken c.is_whole.ensures.seen (c.is_whole-2.ensures.seen).items committed

pub returns-in-Err-commit-clause-later : goal.returns-in-Err-commit-clause-later
returns-in-Err-commit-clause-later g c =
    let kept = asked_keeps c.args.peer.now.seen.state c.args.asked.now c.args.repo.now.seen c.take_asked.new.repo.seen (Ok c.in-Ok.moved) c.take_asked.new.peer.seen.state c.in-Ok.ensures.taken in
    omega (arith, c.commit.ensures.later, kept.faults)

pub commit-requires : goal.commit-requires
commit-requires g c =
    let kept = asked_keeps c.args.peer.now.seen.state c.args.asked.now c.args.repo.now.seen c.take_asked.new.repo.seen (Ok c.in-Ok.moved) c.take_asked.new.peer.seen.state c.in-Ok.ensures.taken in
    kept.stopped ∙ c.requires.runs

pub returns-in-Err-clause-loaded : goal.returns-in-Err-clause-loaded
returns-in-Err-clause-loaded g c =
    let kept = asked_keeps c.args.peer.now.seen.state c.args.asked.now c.args.repo.now.seen c.take_asked.new.repo.seen (Err c.in-Err.fault) c.take_asked.new.peer.seen.state c.in-Err.ensures.taken in
    kept.loaded

pub returns-in-Err-what_follows-clause-loaded : goal.returns-in-Err-what_follows-clause-loaded
returns-in-Err-what_follows-clause-loaded g c =
    let kept = asked_keeps c.args.peer.now.seen.state c.args.asked.now c.args.repo.now.seen c.take_asked.new.repo.seen (Ok c.in-Ok.moved) c.take_asked.new.peer.seen.state c.in-Ok.ensures.taken in
    kept.loaded

pub returns-in-Ok-commit-clause-loaded : goal.returns-in-Ok-commit-clause-loaded
returns-in-Ok-commit-clause-loaded g c =
    let kept = asked_keeps c.args.peer.now.seen.state c.args.asked.now c.args.repo.now.seen c.take_asked.new.repo.seen (Ok c.in-Ok.moved) c.take_asked.new.peer.seen.state c.in-Ok.ensures.taken in
    (c.in-Ok-commit.ensures.committed).loaded ∙ kept.loaded

pub returns-in-Err-commit-clause-loaded : goal.returns-in-Err-commit-clause-loaded
returns-in-Err-commit-clause-loaded g c =
    let kept = asked_keeps c.args.peer.now.seen.state c.args.asked.now c.args.repo.now.seen c.take_asked.new.repo.seen (Ok c.in-Ok.moved) c.take_asked.new.peer.seen.state c.in-Ok.ensures.taken in
    (c.in-Err-commit.ensures.committed).loaded ∙ kept.loaded

pub returns-in-Err-clause-later : goal.returns-in-Err-clause-later
returns-in-Err-clause-later g c =
    let kept = asked_keeps c.args.peer.now.seen.state c.args.asked.now c.args.repo.now.seen c.take_asked.new.repo.seen (Err c.in-Err.fault) c.take_asked.new.peer.seen.state c.in-Err.ensures.taken in
    omega (arith, kept.faults)

pub returns-in-Err-what_follows-clause-later : goal.returns-in-Err-what_follows-clause-later
returns-in-Err-what_follows-clause-later g c =
    let kept = asked_keeps c.args.peer.now.seen.state c.args.asked.now c.args.repo.now.seen c.take_asked.new.repo.seen (Ok c.in-Ok.moved) c.take_asked.new.peer.seen.state c.in-Ok.ensures.taken in
    omega (arith, kept.faults)

pub returns-in-Ok-commit-clause-later : goal.returns-in-Ok-commit-clause-later
returns-in-Ok-commit-clause-later g c =
    let kept = asked_keeps c.args.peer.now.seen.state c.args.asked.now c.args.repo.now.seen c.take_asked.new.repo.seen (Ok c.in-Ok.moved) c.take_asked.new.peer.seen.state c.in-Ok.ensures.taken in
    omega (arith, c.commit.ensures.later, kept.faults)

pub returns-in-Ok-commit-clause-runs : goal.returns-in-Ok-commit-clause-runs
returns-in-Ok-commit-clause-runs g c =
    let kept = asked_keeps c.args.peer.now.seen.state c.args.asked.now c.args.repo.now.seen c.take_asked.new.repo.seen (Ok c.in-Ok.moved) c.take_asked.new.peer.seen.state c.in-Ok.ensures.taken in
    commit_runs (g.D.Disk.state c.take_asked.new.repo.disk) (g.D.Disk.state c.commit.new.repo.disk) c.take_asked.new.repo.seen c.commit.new.repo.seen (kept.stopped ∙ c.requires.runs) c.in-Ok-commit.ensures.committed
