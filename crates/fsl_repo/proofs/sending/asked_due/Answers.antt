use Rattle.std.proofs.Common.{◌≡◌, [], map, filter_map, ap, ◌∙◌}
use Rattle.fsl_answer.specs.Contents.{each_once, gimme_of}
use Rattle.fsl_answer.specs.Replies.{taken}
use Rattle.fsl_repo.specs.Sending.{as_due, due_of, sent_asked}
use Rattle.fsl_repo.proofs.Loops.{may_send}
use Rattle.fsl_repo.proofs.Sendings.{taken_due}
use Rattle.fsl_repo.proofs.sending.asked_due.Goals as goal

pub returns : goal.returns
returns c =
    let records = c.args.blobs.now.records in
    let private = c.args.private in
    let due = c.in_ok-due.due.items in
    let files = sent_asked records private c.args.message.now in
    let names : c.deref.result.now ≡ each_once [] (filter_map gimme_of c.args.message.now) = c.deref.ensures.value ∙ c.in_ok-names.ensures in
    let same : map as_due due ≡ map due_of files = c.in_ok-due.ensures ∙ ap (λ ns. map due_of (filter_map (may_send records private) ns)) names in
    let count : c.in_ok-count.count ≡ taken (map (λ d. d.size) due) = c.in_ok-count.ensures ∙ ap (λ ds. taken (map (λ d. d.size) ds)) c.deref-2.ensures.value in
    ap (map as_due) c.truncate.ensures.items ∙ taken_due due files same c.in_ok-count.count count
