use Rattle.std.proofs.Common.{◌≡◌, ℕ, map, drop, ap, ◌∙◌}
use Rattle.fsl_answer.specs.Contents.{first_of, place_or_zero, sent_file}
use Rattle.fsl_answer.specs.Replies.{taken}
use Rattle.fsl_repo.specs.Sending.{as_due, as_held}
use Rattle.fsl_repo.proofs.Sendings.{count_is, taken_due}
use Rattle.fsl_repo.proofs.sending.due_and_next.Goals as goal

pub returns-clause-due : goal.returns-clause-due
returns-clause-due c =
    let due = c.in_ok-due.due.items in
    let files = map sent_file (map as_held c.args.held.now) in
    let count : c.in_ok-count.count ≡ taken (map (λ d. d.size) due) = c.in_ok-count.ensures ∙ ap (λ ds. taken (map (λ d. d.size) ds)) c.deref.ensures.value in
    ap (map as_due) c.truncate.ensures.items ∙ taken_due due files c.in_ok-due.ensures c.in_ok-count.count count

pub returns-clause-next : goal.returns-clause-next
returns-clause-next c =
    let due = c.in_ok-due.due.items in
    let held = c.args.held.now in
    let count : c.in_ok-count.count ≡ taken (map (λ d. d.size) due) = c.in_ok-count.ensures ∙ ap (λ ds. taken (map (λ d. d.size) ds)) c.deref.ensures.value in
    c.place_behind.ensures ∙ ap (λ (n : ℕ). place_or_zero (first_of (drop n (map as_held held)))) (count ∙ count_is due held c.in_ok-due.ensures)
