use Rattle.std.proofs.lemmas.Result.{err_from_is_err_and}
use Rattle.fossil.specs.TreeCall.{exporting}
use Rattle.fossil.proofs.TreeLemmas.{named_err, named_ok, named_short}
use Rattle.fossil.proofs.commands.trees.export_named.Goals as goal

pub returns-in_ok-export_answer-in-Ok-clause-answer : goal.returns-in_ok-export_answer-in-Ok-clause-answer
returns-in_ok-export_answer-in-Ok-clause-answer g c =
    named_ok exporting c.args.name g.D.Disk.state c.args.repo.now c.export-found.new.repo c.is_whole.ensures c.is_whole-2.ensures c.in-Ok.ensures.count c.in-Ok.found c.in_ok-export_answer-in-Ok.field-0 c.in-Ok.ensures.read c.in_ok-export_answer-in-Ok.ensures

pub returns-in_err-export_answer-in-Ok-clause-answer : goal.returns-in_err-export_answer-in-Ok-clause-answer
returns-in_err-export_answer-in-Ok-clause-answer g c =
    let p = err_from_is_err_and c.from_residual.result c.from_residual.ensures.1 in
    rw (p.1, p.2) (named_short exporting c.args.name g.D.Disk.state c.args.repo.now c.export-found.new.repo c.is_whole.ensures c.is_whole-2.ensures c.in-Ok.ensures.count)

pub returns-in-Err-clause-answer : goal.returns-in-Err-clause-answer
returns-in-Err-clause-answer g c =
    named_err exporting c.args.name g.D.Disk.state c.args.repo.now c.export-found.new.repo c.is_whole.ensures c.is_whole-2.ensures c.in-Err.fault c.unread.result c.in-Err.ensures.fault c.unread.ensures
