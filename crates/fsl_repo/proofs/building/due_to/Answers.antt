use Rattle.std.proofs.Common.{◌≡◌, ap, subst, ◌∙◌}
use Rattle.std.specs.Prelude.{IfOk}
use Rattle.fsl_answer.specs.Contents as reply
use Rattle.fsl_repo.specs.Replies.{placed_in}
use Rattle.fsl_repo.specs.Sending.{AreDue, files_by}
use Rattle.fsl_repo.proofs.building.due_to.Goals as goal

pub returns : goal.returns
returns c =
    let records = c.args.blobs.now.records in
    let ask = c.args.ask.now in
    let message : c.cards-message.result.now ≡ ask.message = c.cards-message.ensures in
    let private : c.sends_private-private.result ≡ reply.sends_private ask.message ask.caps =
    c.sends_private-private.ensures ∙ ap (λ m. reply.sends_private m ask.caps) message in
    let clone : c.first_clone.result ≡ reply.first_clone ask.message = c.first_clone.ensures ∙ ap reply.first_clone message in
    subst (λ files. IfOk c.due_of.result (λ f. AreDue files f.0.items f.1))
    (λ i. files_by records (placed_in records) (message i) (private i) (clone i)) c.due_of.ensures
