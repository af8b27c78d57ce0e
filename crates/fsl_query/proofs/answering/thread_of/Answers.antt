use Rattle.std.proofs.Common.{◌≡◌, Err, ap, sym, subst, ◌∙◌}
use Rattle.std.proofs.lemmas.Result.{err_from_is_err_and}
use Rattle.fsl_cross.specs.Tables as cross
use Rattle.fsl_repo.specs.Machine.{now}
use Rattle.fsl_query.specs.declared.Refused.TheVariants as refused_as
use Rattle.fsl_query.specs.Answers.{IsAnswer}
use Rattle.fsl_query.specs.Listings.{thread_names}
use Rattle.fsl_query.specs.Reports.{tables_now, thread_of_facts, thread_report}
use Rattle.fsl_query.proofs.Beginnings.{beginning_err, beginning_one}
use Rattle.fsl_query.proofs.RepoLemmas.{own_posts}
use Rattle.fsl_query.proofs.answering.thread_of.Goals as goal

pub thread_name-requires : goal.thread_name-requires
thread_name-requires g c =
    let own = c.tables-tables.ensures in
    own_posts c.args.repo.now.seen c.is_whole.ensures.seen.items c.items.result.now (c.items.ensures ∙ own.items)
    ∙ sym (c.forum.ensures.facts ∙ (λ i. (cross.tables (own.fields i) (own.items i)).threads))

pub returns-in_err-name : goal.returns-in_err-name
returns-in_err-name g c =
    let seen = c.args.repo.now.seen in
    let own = c.tables-tables.ensures in
    let t = tables_now (now seen.state) seen.items in
    let facts : c.forum.result.now.facts ≡ t.threads = c.forum.ensures.facts ∙ (λ i. (cross.tables (own.fields i) (own.items i)).threads) in
    let p = err_from_is_err_and c.from_residual.result c.from_residual.ensures.1 in
    let mine = c.forum.result.now.facts in
    rw (p.1, p.2)
    (subst (λ fs. IsAnswer (thread_of_facts fs c.args.prefix.now) (Err c.in_err-name.field-0.0)) facts
    (beginning_err (thread_report mine) c.args.prefix.now (refused_as.NoThread c.args.prefix.now) (thread_names mine) c.in_err-name.field-0.0 c.in_err-name.ensures))

pub returns : goal.returns
returns g c =
    let seen = c.args.repo.now.seen in
    let own = c.tables-tables.ensures in
    let t = tables_now (now seen.state) seen.items in
    let facts : c.forum.result.now.facts ≡ t.threads = c.forum.ensures.facts ∙ (λ i. (cross.tables (own.fields i) (own.items i)).threads) in
    let again : c.forum-2.result.now.facts ≡ t.threads = c.forum-2.ensures.facts ∙ (λ i. (cross.tables (own.fields i) (own.items i)).threads) in
    let mine = c.forum.result.now.facts in
    let due = beginning_one (thread_report mine) c.args.prefix.now (refused_as.NoThread c.args.prefix.now) (thread_names mine) c.in_ok-name.name c.in_ok-name.ensures in
    subst (λ d. IsAnswer d c.report.result)
    (ap (λ fs. thread_report fs c.in_ok-name.name) (again ∙ sym facts) ∙ sym due ∙ ap (λ fs. thread_of_facts fs c.args.prefix.now) facts) c.report.ensures
