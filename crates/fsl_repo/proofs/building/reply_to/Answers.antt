use Rattle.std.proofs.Common.{◌≡◌, subst}
use Rattle.std.specs.Prelude.{IfOk}
use Rattle.fsl_repo.specs.Sending.{listed, seen_by}
use Rattle.fsl_repo.proofs.Sendings.{notices_cut}
use Rattle.fsl_repo.proofs.building.reply_to.Goals as goal

pub returns : goal.returns
returns c =
    let due = listed (seen_by c.args.blobs.now c.args.table.now.facts) c.args.ask.now c.args.files c.args.sequel in
    subst (λ t. IfOk c.frame.result (λ text. text ≡ t)) (notices_cut due c.in_ok-lists.lists c.in_ok-lists.ensures) c.frame.ensures
