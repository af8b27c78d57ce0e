use Rattle.std.proofs.Common.{◌≡◌, None, refl, sym, subst, arith}
use Rattle.fsl_blobs.proofs.ContentLemmas.{quiet-same}
use Rattle.fsl_repo.specs.Machine.{now}
use Rattle.fsl_query.specs.Answers.{IsReportedIn, content_asked}
use Rattle.fsl_query.specs.Reports.{report}
use Rattle.fsl_query.proofs.Answered.{content_refused, content_told, is_cat, refusal_of, reported_by, value_of}
use Rattle.fsl_query.proofs.answering.report.Goals as goal

pub returns-in-Some-clause-ok : goal.returns-in-Some-clause-ok
returns-in-Some-clause-ok g c =
    let seen = c.args.repo.now.seen in
    content_told seen.state.honest (now seen.state) seen.items c.args.question.now c.in-Some.prefix.now (sym c.in-Some.ensures) seen.state.faults c.copied.new.repo.seen.state.faults
    c.copied.result c.copied.ensures.means

pub returns-in-Some-clause-refused : goal.returns-in-Some-clause-refused
returns-in-Some-clause-refused g c = λ refused is.
    let seen = c.args.repo.now.seen in
    content_refused seen.state.honest (now seen.state) seen.items c.args.question.now c.in-Some.prefix.now (sym c.in-Some.ensures) seen.state.faults c.copied.new.repo.seen.state.faults
    c.copied.result c.copied.ensures.means refused is

pub returns-in-Some-clause-means : goal.returns-in-Some-clause-means
returns-in-Some-clause-means g c =
    subst (λ q. IsReportedIn c.args.repo.now.seen.state q c.copied.new.repo.seen.state c.copied.result) (sym (is_cat c.args.question.now c.in-Some.prefix.now (sym c.in-Some.ensures)))
    c.copied.ensures.means

pub returns-in-Some-clause-unread : goal.returns-in-Some-clause-unread
returns-in-Some-clause-unread g c = λ none.
    c.copied.ensures.unread
    (subst (λ q. content_asked (now c.args.repo.now.seen.state) q ≡ None) (is_cat c.args.question.now c.in-Some.prefix.now (sym c.in-Some.ensures)) none)

pub returns-in-None-clause-ok : goal.returns-in-None-clause-ok
returns-in-None-clause-ok g c =
    let seen = c.args.repo.now.seen in
    value_of seen.state.honest c.args.question.now (report (now seen.state) seen.items c.args.question.now) c.answer.result (sym c.in-None.ensures) c.answer.ensures

pub returns-in-None-clause-refused : goal.returns-in-None-clause-refused
returns-in-None-clause-refused g c = λ refused is.
    let seen = c.args.repo.now.seen in
    refusal_of (report (now seen.state) seen.items c.args.question.now) c.answer.result refused c.answer.ensures is

pub returns-in-None-clause-means : goal.returns-in-None-clause-means
returns-in-None-clause-means g c =
    let seen = c.args.repo.now.seen in
    reported_by seen.state.honest (now seen.state) seen.items c.args.question.now seen.state.faults c.answer.result (sym c.in-None.ensures) c.is_whole.ensures.seen.items c.answer.ensures

pub returns-in-None-clause-state : goal.returns-in-None-clause-state
returns-in-None-clause-state g c = record { state = refl; faults = omega arith }

pub returns-in-None-clause-disk : goal.returns-in-None-clause-disk
returns-in-None-clause-disk g c = quiet-same _
