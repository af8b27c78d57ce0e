use Rattle.std.proofs.Common.{◌≡◌, ℕ, Option, Some, None, Ok, Err, sym, subst, ◌∙◌}
use Rattle.fsl_pull.specs.Steps.{IsCommitted}
use Rattle.fsl_pull.specs.CloneTurns.{IsCloneTaken}
use Rattle.fsl_pull.proofs.CloneAnswers.{unless_all}
use Rattle.fsl_pull.proofs.CloneTaken.{wrong_turn, endless_turn, committed_turn, failed_turn, wrong_same, commit_same}
use Rattle.fsl_pull.proofs.Undamaged.{refused_undamaged}
use Rattle.fsl_pull.proofs.cloning.take_reply.Goals as goal

pub returns-in-Err-clause-step : goal.returns-in-Err-clause-step
returns-in-Err-clause-step g c =
    wrong_turn c.args.from c.args.cards.now (g.D.Disk.state c.args.repo.now.disk) (g.D.Disk.state c.take_cards.new.repo.disk) c.args.repo.now.seen c.take_cards.new.repo.seen (c.take_cards.new.repo.disk ≡ c.args.repo.now.disk)
    c.in-Err.fault c.is_whole.ensures.seen c.in-Err.ensures.taken c.take_cards.ensures.disk

pub returns-in-Err-clause-runs : goal.returns-in-Err-clause-runs
returns-in-Err-clause-runs g c =
    unless_all {A = Option ℕ} (c.take_cards.new.repo.seen.state.stopped ≡ None) (Err c.in-Err.fault)
    ((wrong_same c.args.repo.now.seen c.take_cards.new.repo.seen (Some c.args.from) c.args.cards.now c.in-Err.fault c.in-Err.ensures.taken).0 ∙ c.requires.runs)

pub returns-in-Err-clause-steady : goal.returns-in-Err-clause-steady
returns-in-Err-clause-steady g c =
    unless_all {A = Option ℕ} (c.take_cards.new.repo.seen.state.faults ≡ c.args.repo.now.seen.state.faults) (Err c.in-Err.fault)
    (wrong_same c.args.repo.now.seen c.take_cards.new.repo.seen (Some c.args.from) c.args.cards.now c.in-Err.fault c.in-Err.ensures.taken).1

pub returns-in-None-clause-step : goal.returns-in-None-clause-step
returns-in-None-clause-step g c =
    endless_turn c.args.from c.args.cards.now (g.D.Disk.state c.args.repo.now.disk) (g.D.Disk.state c.take_cards.new.repo.disk) c.args.repo.now.seen c.take_cards.new.repo.seen (c.take_cards.new.repo.disk ≡ c.args.repo.now.disk)
    c.in-Ok.field-0 c.in-Ok.ensures.taken.0 c.is_whole.ensures.seen c.in-Ok.ensures.taken.1 (sym c.sequel_in.ensures ∙ c.in-None.is) c.take_cards.ensures.disk

pub returns-in-None-clause-runs : goal.returns-in-None-clause-runs
returns-in-None-clause-runs g c = ((c.in-Ok.ensures.taken.1).appends).stopped ∙ c.requires.runs

pub returns-in-None-clause-steady : goal.returns-in-None-clause-steady
returns-in-None-clause-steady g c = ((c.in-Ok.ensures.taken.1).appends).faults

pub returns-in-Ok-commit-clause-step : goal.returns-in-Ok-commit-clause-step
returns-in-Ok-commit-clause-step g c =
    let mid = c.take_cards.new.repo.seen in
    let new = c.commit.new.repo.seen in
    let before = g.D.Disk.state c.args.repo.now.disk in
    let after = g.D.Disk.state c.commit.new.repo.disk in
    let committed = subst (λ d. IsCommitted (g.D.Disk.state d) after mid new (Ok tt)) c.take_cards.ensures.disk c.in-Ok-commit.ensures.committed in
    subst (λ (o : Option ℕ). IsCloneTaken c.args.from c.args.cards.now before after c.args.repo.now.seen new (c.commit.new.repo.disk ≡ c.args.repo.now.disk) (Ok o)) (sym c.place.ensures)
    (committed_turn c.args.from c.args.cards.now before after c.args.repo.now.seen new (c.commit.new.repo.disk ≡ c.args.repo.now.disk)
    mid c.in-Ok.field-0 c.in-Ok.ensures.taken.0 c.in-Some.next c.in-Ok.ensures.taken.1 c.is_whole.ensures.seen (sym c.sequel_in.ensures ∙ c.in-Some.is) committed)

pub returns-in-Ok-commit-clause-runs : goal.returns-in-Ok-commit-clause-runs
returns-in-Ok-commit-clause-runs g c =
    (commit_same (g.D.Disk.state c.take_cards.new.repo.disk) (g.D.Disk.state c.commit.new.repo.disk) c.take_cards.new.repo.seen c.commit.new.repo.seen c.in-Ok-commit.ensures.committed).0
    ∙ ((c.in-Ok.ensures.taken.1).appends).stopped ∙ c.requires.runs

pub returns-in-Ok-commit-clause-steady : goal.returns-in-Ok-commit-clause-steady
returns-in-Ok-commit-clause-steady g c =
    (commit_same (g.D.Disk.state c.take_cards.new.repo.disk) (g.D.Disk.state c.commit.new.repo.disk) c.take_cards.new.repo.seen c.commit.new.repo.seen c.in-Ok-commit.ensures.committed).1
    ∙ ((c.in-Ok.ensures.taken.1).appends).faults

pub returns-in-Err-commit-clause-step : goal.returns-in-Err-commit-clause-step
returns-in-Err-commit-clause-step g c =
    let mid = c.take_cards.new.repo.seen in
    let new = c.commit.new.repo.seen in
    let before = g.D.Disk.state c.args.repo.now.disk in
    let after = g.D.Disk.state c.commit.new.repo.disk in
    let committed = subst (λ d. IsCommitted (g.D.Disk.state d) after mid new (Err c.in-Err-commit.field-0)) c.take_cards.ensures.disk c.in-Err-commit.ensures.committed in
    failed_turn c.args.from c.args.cards.now before after c.args.repo.now.seen new (c.commit.new.repo.disk ≡ c.args.repo.now.disk)
    mid c.in-Ok.field-0 c.in-Ok.ensures.taken.0 c.in-Some.next c.in-Err-commit.field-0 c.in-Ok.ensures.taken.1 c.is_whole.ensures.seen (sym c.sequel_in.ensures ∙ c.in-Some.is) committed

pub returns-in-Err-clause-undamaged : goal.returns-in-Err-clause-undamaged
returns-in-Err-clause-undamaged g c = refused_undamaged c.args.repo.now.seen c.take_cards.new.repo.seen (Some c.args.from) c.args.cards.now c.in-Err.fault c.in-Err.ensures.taken
