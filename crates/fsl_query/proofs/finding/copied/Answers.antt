use Rattle.std.proofs.Common.{refl, arith}
use Rattle.std.proofs.lemmas.Result.{err_from_is_err_and}
use Rattle.fsl_blobs.proofs.ContentLemmas.{quiet-same}
use Rattle.fsl_query.proofs.Answered.{fails_now, never_unasked, read_now, unfound}
use Rattle.fsl_query.proofs.finding.copied.Goals as goal

pub returns-in_err-name-clause-means : goal.returns-in_err-name-clause-means
returns-in_err-name-clause-means g c =
    let s = c.args.repo.now.seen.state in
    let p = err_from_is_err_and c.from_residual.result c.from_residual.ensures.1 in
    rw (p.1, p.2) (unfound s.honest s.records c.is_whole.ensures.seen.records c.args.prefix.now s.faults c.in_err-name.field-0.0 c.in_err-name.ensures)

pub returns-in_err-name-clause-state : goal.returns-in_err-name-clause-state
returns-in_err-name-clause-state g c = record { state = refl; faults = omega arith }

pub returns-in_err-name-clause-disk : goal.returns-in_err-name-clause-disk
returns-in_err-name-clause-disk g c = quiet-same _

pub returns-in-Ok-clause-means : goal.returns-in-Ok-clause-means
returns-in-Ok-clause-means g c =
    read_now c.args.repo.now.seen.state c.is_whole.ensures.seen.records c.args.prefix.now c.in_ok-name.name c.in_ok-name.ensures c.in-Ok.bytes c.content.new.self.seen.state
    c.in-Ok.ensures.count c.in-Ok.ensures.bytes

pub returns-in-Ok-clause-unread : goal.returns-in-Ok-clause-unread
returns-in-Ok-clause-unread g c = λ none.
    let s = c.args.repo.now.seen.state in
    absurd (never_unasked s.honest s.records c.is_whole.ensures.seen.records c.args.prefix.now s.faults c.in_ok-name.name c.in_ok-name.ensures none)

pub returns-in-Err-clause-means : goal.returns-in-Err-clause-means
returns-in-Err-clause-means g c =
    fails_now c.args.repo.now.seen.state c.is_whole.ensures.seen.records c.args.prefix.now c.in_ok-name.name c.in_ok-name.ensures c.in-Err.fault c.unread.result c.content.new.self.seen.state
    c.unread.ensures c.in-Err.ensures.fault

pub returns-in-Err-clause-unread : goal.returns-in-Err-clause-unread
returns-in-Err-clause-unread g c = λ none.
    let s = c.args.repo.now.seen.state in
    absurd (never_unasked s.honest s.records c.is_whole.ensures.seen.records c.args.prefix.now s.faults c.in_ok-name.name c.in_ok-name.ensures none)
