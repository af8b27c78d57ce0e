use Rattle.std.proofs.Common.{◌≡◌, None, sym, ap, subst}
use Rattle.fsl_blobs.specs.Fold.{contents}
use Rattle.fsl_blobs.specs.Seen.{Seen}
use Rattle.fsl_blobs.proofs.ContentLemmas.{quiet-same}
use Rattle.fsl_repo.specs.Whole.{is_modelled}
use Rattle.fsl_query.specs.Answers.{IsReportedOn, content_asked}
use Rattle.fsl_query.proofs.Answered.{is_cat, none_cached}
use Rattle.fsl_query.proofs.loaded.report_by.Goals as goal

pub content-requires-clause-records : goal.content-requires-clause-records
content-requires-clause-records g c = c.requires.loaded.fit

pub content-requires-clause-same : goal.content-requires-clause-same
content-requires-clause-same g c = record { records = sym c.requires.loaded.records; starts = ap (λ (b : Seen). b.starts) c.requires.held }

pub content-requires-clause-cached : goal.content-requires-clause-cached
content-requires-clause-cached g c = λ _. none_cached c.args.opened.now.blobs (ap (λ (b : Seen). b.cached) c.requires.held)

pub report_over-requires-clause-unread : goal.report_over-requires-clause-unread
report_over-requires-clause-unread g c = sym c.in-None.ensures

pub returns-in-Some-clause-means : goal.returns-in-Some-clause-means
returns-in-Some-clause-means g c =
    subst (λ q. IsReportedOn (g.D.Disk.state c.args.disk.now) c.args.opened.now.blobs.records q (g.D.Disk.state c.content.new.disk) c.content.result)
    (sym (is_cat c.args.question.now c.in-Some.prefix.now (sym c.in-Some.ensures))) c.content.ensures.means

pub returns-in-Some-clause-unread : goal.returns-in-Some-clause-unread
returns-in-Some-clause-unread g c = λ none.
    c.content.ensures.unread
    (subst (λ q. content_asked (contents c.args.opened.now.blobs.records) q ≡ None) (is_cat c.args.question.now c.in-Some.prefix.now (sym c.in-Some.ensures)) none)

pub returns-in-None-clause-means : goal.returns-in-None-clause-means
returns-in-None-clause-means g c = let before = g.D.Disk.state c.args.disk.now in c.report_over.ensures (is_modelled before) before.faults

pub returns-in-None-clause-quiet : goal.returns-in-None-clause-quiet
returns-in-None-clause-quiet g c = quiet-same _
