use Rattle.std.proofs.Common.{◌≡◌, List, map, subst, ◌∙◌}
use Rattle.std.proofs.lemmas.Result.{err_from_is_err_and}
use Rattle.std.specs.List.{AllZip}
use Rattle.fsl_answer.specs.Replies.{reply_text}
use Rattle.fsl_repo.specs.declared.sending.Due.{Due}
use Rattle.fsl_repo.specs.Replies.{reply_lists}
use Rattle.fsl_repo.specs.Sending.{FilesFail, IsReadFile}
use Rattle.fsl_repo.proofs.Builds.{built_step, unread_step}
use Rattle.fsl_repo.proofs.repo.Repo.build.Goals as goal

pub returns-in_err-files-clause-step : goal.returns-in_err-files-clause-step
returns-in_err-files-clause-step g c =
    let s = c.args.self.now.seen.state in
    let items = c.args.self.now.seen.items in
    let new = c.read_files.new.self.seen.state in
    let due = c.in-Ok.due in
    let fault = c.in_err-files.field-0.0 in
    let failed = subst (λ (ds : List Due). FilesFail fault (map (λ d. d.name) ds) s new.faults) c.deref.ensures.value c.in_err-files.ensures.fault in
    let p = err_from_is_err_and c.from_residual.result c.from_residual.ensures.1 in
    rw (p.1, p.2) (unread_step s items c.is_whole.ensures.seen.items c.args.ask.now due.0.items due.1 c.in-Ok.ensures fault new failed c.in_err-files.ensures.state)

pub returns-in-Ok-framed-clause-step : goal.returns-in-Ok-framed-clause-step
returns-in-Ok-framed-clause-step g c =
    let s = c.args.self.now.seen.state in
    let items = c.args.self.now.seen.items in
    let new = c.read_files.new.self.seen in
    let ask = c.args.ask.now in
    let due = c.in-Ok.due in
    let files = c.in_ok-files.files in
    let text = c.in-Ok-framed.held in
    let all = subst (λ (ds : List Due). AllZip (IsReadFile s) ds files) c.deref.ensures.value c.in_ok-files.ensures.files in
    let same : new.state ≡ s = c.in_ok-files.ensures.count in
    let tables : new.items ≡ items = c.in_ok-files.ensures.items in
    let is : text ≡ reply_text (record (reply_lists s items ask) { files = files; sequel = due.1 }) =
    c.in-Ok-framed.ensures ∙ (λ i. reply_text (record (reply_lists (same i) (tables i) ask) { files = files; sequel = due.1 })) in
    built_step s items c.is_whole.ensures.seen.items ask due.0.items due.1 c.in-Ok.ensures c.is_whole.ensures.seen.records files text new.state all is same
