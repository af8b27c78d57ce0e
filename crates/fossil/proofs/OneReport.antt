-- A question has one report at most.
use Rattle.std.proofs.Common.{◌≡◌, ℕ, Bool, true, false, not, List, Result, Ok, Err, IsTrue, refl, sym, ap, subst, ◌∙◌}
use Rattle.std.specs.Prelude.{◌||◌, is_some}
use Rattle.fsl_blobs.specs.Fold.{Contents}
use Rattle.fsl_cross.specs.declared.Item.{Item}
use Rattle.fsl_repo.specs.Machine.{AreItems}
use Rattle.fsl_repo.proofs.OneList.{are_one_list}
use Rattle.fsl_words.specs.declared.Question.{Question}
use Rattle.fsl_words.specs.declared.Question.TheVariants as question_of
use Rattle.fsl_query.specs.declared.Refused.{Refused}
use Rattle.fsl_query.specs.Answers.{prefix_of}
use Rattle.fsl_query.specs.Reports.{IsReport, IsReadContent, content, report}
use Rattle.fossil.specs.Outcome.{Outcome, report_outcome, AreAlike}

-- ---- a content as it is read

pub honest_of : (honest : Bool) → IsTrue (honest || false) → honest ≡ true
honest_of true kind = refl
honest_of false kind = absurd cc

one_content : (honest : Bool) (due a b : Result (List ℕ) Refused) → honest ≡ true → IsReadContent honest due a → IsReadContent honest due b → a ≡ b
one_content honest (Ok bytes) a b kind h k = h.2 ∙ ap Ok (h.1.same kind ∙ sym (k.1.same kind)) ∙ sym k.2
one_content honest (Err refused) a b kind h k = h ∙ sym k

pub same_alike : (a b : Outcome) → a ≡ b → AreAlike a b
same_alike a b same = subst (AreAlike a) same (record { status = refl; named = refl; sized = refl; commits = refl })

alike_content : (honest : Bool) (due a b : Result (List ℕ) Refused) → IsReadContent honest due a → IsReadContent honest due b → AreAlike (report_outcome a) (report_outcome b)
alike_content honest (Ok bytes) a b h k =
    subst (λ (x : Result (List ℕ) Refused). AreAlike (report_outcome x) (report_outcome b)) (sym h.2)
    (subst (λ (y : Result (List ℕ) Refused). AreAlike (report_outcome (Ok h.0)) (report_outcome y)) (sym k.2)
    (record { status = refl; named = h.1.named ∙ sym k.1.named; sized = h.1.sized ∙ sym k.1.sized; commits = refl }))
alike_content honest (Err refused) a b h k = same_alike (report_outcome a) (report_outcome b) (ap report_outcome (h ∙ sym k))

-- ---- by the items

-- what is reported by the items
abbrev IsBy : Contents → (List Item → Result (List ℕ) Refused) → Result (List ℕ) Refused → Type 0
IsBy c by result = (items : List Item) × AreItems c.held items × (result ≡ by items)

one_by : (c : Contents) (by : List Item → Result (List ℕ) Refused) (a b : Result (List ℕ) Refused) → IsBy c by a → IsBy c by b → a ≡ b
one_by c by a b h k = h.2 ∙ ap by (are_one_list c.held h.0 k.0 h.1 k.1) ∙ sym k.2

pub one_result : (honest : Bool) (c : Contents) (question : Question) → IsTrue (honest || not (is_some (prefix_of question))) → (a b : Result (List ℕ) Refused)
    → IsReport honest c question a → IsReport honest c question b → a ≡ b
one_result honest c (question_of.Cat prefix) kind a b h k = one_content honest (content c prefix) a b (honest_of honest kind) h k
one_result honest c (question_of.Receipt prefix) kind a b h k = h ∙ sym k
one_result honest c (question_of.Timeline count) kind a b h k = one_by c (λ items. report c items (question_of.Timeline count)) a b h k
one_result honest c question_of.Leaves kind a b h k = one_by c (λ items. report c items question_of.Leaves) a b h k
one_result honest c (question_of.Tags prefix) kind a b h k = one_by c (λ items. report c items (question_of.Tags prefix)) a b h k
one_result honest c (question_of.Tip symbol) kind a b h k = one_by c (λ items. report c items (question_of.Tip symbol)) a b h k
one_result honest c (question_of.Files prefix) kind a b h k = one_by c (λ items. report c items (question_of.Files prefix)) a b h k
one_result honest c (question_of.Wiki title) kind a b h k = one_by c (λ items. report c items (question_of.Wiki title)) a b h k
one_result honest c (question_of.Ticket prefix) kind a b h k = one_by c (λ items. report c items (question_of.Ticket prefix)) a b h k
one_result honest c (question_of.Thread prefix) kind a b h k = one_by c (λ items. report c items (question_of.Thread prefix)) a b h k
one_result honest c question_of.Phantoms kind a b h k = one_by c (λ items. report c items question_of.Phantoms) a b h k
one_result honest c question_of.Info kind a b h k = one_by c (λ items. report c items question_of.Info) a b h k
one_result honest c question_of.Branches kind a b h k = one_by c (λ items. report c items question_of.Branches) a b h k
one_result honest c question_of.Pages kind a b h k = one_by c (λ items. report c items question_of.Pages) a b h k
one_result honest c (question_of.Tickets fields) kind a b h k = one_by c (λ items. report c items (question_of.Tickets fields)) a b h k
one_result honest c question_of.Threads kind a b h k = one_by c (λ items. report c items question_of.Threads) a b h k

pub kind_of : (honest : Bool) → IsTrue (honest || true)
kind_of true = refl
kind_of false = refl

alike_by : (honest : Bool) (c : Contents) (question : Question) → IsTrue (honest || not (is_some (prefix_of question))) → (a b : Result (List ℕ) Refused)
    → IsReport honest c question a → IsReport honest c question b → AreAlike (report_outcome a) (report_outcome b)
alike_by honest c question kind a b h k = same_alike (report_outcome a) (report_outcome b) (ap report_outcome (one_result honest c question kind a b h k))

-- and the reports of two reads are alike
pub alike_result : (honest : Bool) (c : Contents) (question : Question) (a b : Result (List ℕ) Refused) → IsReport honest c question a → IsReport honest c question b
    → AreAlike (report_outcome a) (report_outcome b)
alike_result honest c (question_of.Cat prefix) a b h k = alike_content honest (content c prefix) a b h k
alike_result honest c (question_of.Receipt prefix) a b h k = alike_by honest c (question_of.Receipt prefix) (kind_of honest) a b h k
alike_result honest c (question_of.Timeline count) a b h k = alike_by honest c (question_of.Timeline count) (kind_of honest) a b h k
alike_result honest c question_of.Leaves a b h k = alike_by honest c question_of.Leaves (kind_of honest) a b h k
alike_result honest c (question_of.Tags prefix) a b h k = alike_by honest c (question_of.Tags prefix) (kind_of honest) a b h k
alike_result honest c (question_of.Tip symbol) a b h k = alike_by honest c (question_of.Tip symbol) (kind_of honest) a b h k
alike_result honest c (question_of.Files prefix) a b h k = alike_by honest c (question_of.Files prefix) (kind_of honest) a b h k
alike_result honest c (question_of.Wiki title) a b h k = alike_by honest c (question_of.Wiki title) (kind_of honest) a b h k
alike_result honest c (question_of.Ticket prefix) a b h k = alike_by honest c (question_of.Ticket prefix) (kind_of honest) a b h k
alike_result honest c (question_of.Thread prefix) a b h k = alike_by honest c (question_of.Thread prefix) (kind_of honest) a b h k
alike_result honest c question_of.Phantoms a b h k = alike_by honest c question_of.Phantoms (kind_of honest) a b h k
alike_result honest c question_of.Info a b h k = alike_by honest c question_of.Info (kind_of honest) a b h k
alike_result honest c question_of.Branches a b h k = alike_by honest c question_of.Branches (kind_of honest) a b h k
alike_result honest c question_of.Pages a b h k = alike_by honest c question_of.Pages (kind_of honest) a b h k
alike_result honest c (question_of.Tickets fields) a b h k = alike_by honest c (question_of.Tickets fields) (kind_of honest) a b h k
alike_result honest c question_of.Threads a b h k = alike_by honest c question_of.Threads (kind_of honest) a b h k
