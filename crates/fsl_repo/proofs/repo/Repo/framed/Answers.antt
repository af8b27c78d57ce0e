use Rattle.std.proofs.Common.{◌≡◌, subst}
use Rattle.std.specs.Prelude.{IfOk}
use Rattle.fsl_answer.specs.Replies.{reply_text}
use Rattle.fsl_repo.specs.Replies.{reply_lists}
use Rattle.fsl_repo.specs.Sending.{listed}
use Rattle.fsl_repo.proofs.Builds.{seen_is}
use Rattle.fsl_repo.proofs.repo.Repo.framed.Goals as goal

pub returns : goal.returns
returns g c =
    let r = c.self.inside in
    let ask = c.args.ask.now in
    let disk = g.D.Disk.state r.disk in
    let is = seen_is r.journal r.blobs r.tables r.loaded r.stored disk c.self.invariant c.cluster.result.now.facts c.cluster.ensures.facts in
    subst (λ v. IfOk c.reply_to.result (λ text. text ≡ reply_text (record (reply_lists v.seen.state v.seen.items ask) { files = c.args.files; sequel = c.args.sequel }))) c.self.view_is
    (subst (λ x. IfOk c.reply_to.result (λ text. text ≡ reply_text (listed x ask c.args.files c.args.sequel))) is c.reply_to.ensures)
