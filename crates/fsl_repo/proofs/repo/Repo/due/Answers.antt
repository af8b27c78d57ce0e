use Rattle.std.proofs.Common.{subst}
use Rattle.std.specs.Prelude.{IfOk}
use Rattle.fsl_repo.specs.Replies.{reply_lists}
use Rattle.fsl_repo.specs.Sending.{AreDue, AreDueIn}
use Rattle.fsl_repo.proofs.Builds.{due_is}
use Rattle.fsl_repo.proofs.repo.Repo.due.Goals as goal

pub returns : goal.returns
returns g c =
    let r = c.self.inside in
    let ask = c.args.ask.now in
    let disk = g.D.Disk.state r.disk in
    subst (λ v. IfOk c.due_to.result (λ f. AreDueIn (reply_lists v.seen.state v.seen.items ask) f.0.items f.1)) c.self.view_is
    (subst (λ files. IfOk c.due_to.result (λ f. AreDue files f.0.items f.1)) (due_is r.journal r.blobs r.tables r.loaded r.stored disk c.self.invariant ask) c.due_to.ensures)
