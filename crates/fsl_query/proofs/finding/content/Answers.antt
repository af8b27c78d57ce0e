use Rattle.std.proofs.lemmas.Result.{err_from_is_err_and}
use Rattle.fsl_blobs.proofs.ContentLemmas.{quiet-same}
use Rattle.fsl_repo.specs.Whole.{is_modelled}
use Rattle.fsl_query.proofs.Answered.{fails_on, never_unasked, read_on, unfound}
use Rattle.fsl_query.proofs.finding.content.Goals as goal

pub returns-in_err-name-clause-means : goal.returns-in_err-name-clause-means
returns-in_err-name-clause-means g c =
    let before = g.D.Disk.state c.args.disk.now in
    let p = err_from_is_err_and c.from_residual.result c.from_residual.ensures.1 in
    rw (p.1, p.2) (unfound (is_modelled before) c.args.blobs.now.records c.requires.records c.args.prefix.now before.faults c.in_err-name.field-0.0 c.in_err-name.ensures)

pub returns-in_err-name-clause-quiet : goal.returns-in_err-name-clause-quiet
returns-in_err-name-clause-quiet g c = quiet-same _

pub returns-in-Ok-clause-means : goal.returns-in-Ok-clause-means
returns-in-Ok-clause-means g c =
    read_on (g.D.Disk.state c.args.disk.now) (g.D.Disk.state c.content.new.disk) c.args.blobs.now c.requires.records c.requires.cached c.args.prefix.now c.in_ok-name.name c.in_ok-name.ensures
    c.in-Ok.bytes c.in-Ok.ensures.count c.in-Ok.ensures.bytes

pub returns-in-Ok-clause-unread : goal.returns-in-Ok-clause-unread
returns-in-Ok-clause-unread g c = λ none.
    let before = g.D.Disk.state c.args.disk.now in
    absurd (never_unasked (is_modelled before) c.args.blobs.now.records c.requires.records c.args.prefix.now before.faults c.in_ok-name.name c.in_ok-name.ensures none)

pub returns-in-Err-clause-means : goal.returns-in-Err-clause-means
returns-in-Err-clause-means g c =
    fails_on (g.D.Disk.state c.args.disk.now) (g.D.Disk.state c.content.new.disk) c.args.blobs.now c.requires.records c.requires.cached c.args.prefix.now c.in_ok-name.name c.in_ok-name.ensures
    c.in-Err.fault c.unread.result c.content.result c.in-Err.is c.content.ensures.absent c.unread.ensures c.in-Err.ensures.fault

pub returns-in-Err-clause-unread : goal.returns-in-Err-clause-unread
returns-in-Err-clause-unread g c = λ none.
    let before = g.D.Disk.state c.args.disk.now in
    absurd (never_unasked (is_modelled before) c.args.blobs.now.records c.requires.records c.args.prefix.now before.faults c.in_ok-name.name c.in_ok-name.ensures none)
