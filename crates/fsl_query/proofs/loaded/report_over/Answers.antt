use Rattle.std.proofs.Common.{sym, subst}
use Rattle.fsl_blobs.specs.Fold.{contents}
use Rattle.fsl_words.specs.declared.Question.TheVariants as question_of
use Rattle.fsl_query.specs.Answers.{IsReadFor, IsReported}
use Rattle.fsl_query.proofs.Answered.{items_for, reported_by, reported_receipt}
use Rattle.fsl_query.proofs.loaded.report_over.Goals as goal

pub returns-in-Receipt : goal.returns-in-Receipt
returns-in-Receipt c = λ honest faults.
    let k = contents c.args.blobs.now.records in
    let told = c.receipt_of.result in
    subst (λ q. IsReported honest k q faults faults told) (sym c.in-Receipt.is)
    (subst (λ p. IsReported honest k (question_of.Receipt p) faults faults told) c.bytes.ensures (reported_receipt honest k c.bytes.result.now faults told c.receipt_of.ensures))

pub report_of-requires-clause-held : goal.report_of-requires-clause-held
report_of-requires-clause-held c = (items_for c.args.question.now (contents c.args.blobs.now.records) c.in-Some.items (subst (IsReadFor c.args.question.now (contents c.args.blobs.now.records)) (c.in-Some.is) c.requires.read)).0

pub report_of-requires-clause-kinds : goal.report_of-requires-clause-kinds
report_of-requires-clause-kinds c = (items_for c.args.question.now (contents c.args.blobs.now.records) c.in-Some.items (subst (IsReadFor c.args.question.now (contents c.args.blobs.now.records)) (c.in-Some.is) c.requires.read)).1

pub returns-in-Some : goal.returns-in-Some
returns-in-Some c = λ honest faults.
    let k = contents c.args.blobs.now.records in
    let items = items_for c.args.question.now k c.in-Some.items (subst (IsReadFor c.args.question.now k) (c.in-Some.is) c.requires.read) in
    reported_by honest k c.in-Some.items c.args.question.now faults c.report_of.result c.requires.unread items.0 c.report_of.ensures
