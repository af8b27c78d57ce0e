use Rattle.std.proofs.Common.{◌≡◌, ℕ, List, map, sym, ap, ◌∙◌, subst}
use Rattle.std.specs.Prelude.{IfOk}
use Rattle.std.specs.List.{AllByRecursion}
use Rattle.fsl_answer.specs.Contents.{sent_file, sequel}
use Rattle.fsl_answer.specs.declared.SentFile.{SentFile}
use Rattle.fsl_repo.specs.Replies.{placed_in}
use Rattle.fsl_repo.specs.Sending.{IsSized, as_due, as_held, due_of, sent_files, public_on}
use Rattle.fsl_repo.proofs.Fronts.{front_files, front_sequel}
use Rattle.fsl_repo.proofs.sending.due_from.Goals as goal

pub returns-in-Ok-clause-due : goal.returns-in-Ok-clause-due
returns-in-Ok-clause-due c =
    subst (λ (files : List SentFile). IfOk c.due_and_next.result (λ f. map as_due f.0.items ≡ map due_of files))
    (ap (λ list. sent_files (map sent_file (map as_held list))) c.deref.ensures.value ∙ ap (λ held. sent_files (map sent_file held)) c.in-Ok.ensures.held
    ∙ front_files (public_on c.args.place (placed_in c.args.blobs.now.records))) c.due_and_next.ensures.due

pub returns-in-Ok-clause-next : goal.returns-in-Ok-clause-next
returns-in-Ok-clause-next c =
    subst (λ (due : ℕ). IfOk c.due_and_next.result (λ f. f.1 ≡ due))
    (ap (λ list. sequel (map as_held list)) c.deref.ensures.value ∙ ap sequel c.in-Ok.ensures.held ∙ front_sequel (public_on c.args.place (placed_in c.args.blobs.now.records))) c.due_and_next.ensures.next

pub due_and_next-requires : goal.due_and_next-requires
due_and_next-requires c = subst (λ list. AllByRecursion IsSized list) (sym c.deref.ensures.value) c.in-Ok.ensures.sized
