use Rattle.std.proofs.Common.{subst, sym}
use Rattle.fsl_repo.specs.Machine.{State, now}
use Rattle.fsl_repo.proofs.ItemLemmas.{items_rise}
use Rattle.fsl_checkin.specs.declared.answers.ExportFault.{ExportFault}
use Rattle.fsl_checkin.specs.declared.answers.Verdict.{Verdict}
use Rattle.fsl_checkin.specs.Having.{IsJudged, as_kept}
use Rattle.fsl_checkin.specs.Reads.{FilesFail, IsVerdictRead, VerifyFails}
use Rattle.fsl_checkin.proofs.FilesLemmas.{known_checkin, known_fit, verdict_known, verdict_no_sum}
use Rattle.fsl_checkin.proofs.HavingLemmas.{files_fail, if_err_map, if_ok_map, text_fails}
use Rattle.fsl_checkin.proofs.verifying.tested.Goals as goal

pub cards_at-requires : goal.cards_at-requires
cards_at-requires g c =
    let items = c.args.repo.now.seen.items in
    known_checkin items (items_rise (now c.args.repo.now.seen.state).held items c.is_whole.ensures.seen.items) c.args.name c.args.rows.now c.requires

pub judged-requires : goal.judged-requires
judged-requires g c = (known_fit (now c.args.repo.now.seen.state).held c.args.repo.now.seen.items c.is_whole.ensures.seen.items c.args.name c.args.rows.now c.requires).hashed

pub returns-in-Some-clause-read : goal.returns-in-Some-clause-read
returns-in-Some-clause-read g c =
    let s = c.args.repo.now.seen.state in
    let items = c.args.repo.now.seen.items in
    let fit = known_fit (now s).held items c.is_whole.ensures.seen.items c.args.name c.args.rows.now c.requires in
    if_ok_map c.judged.result (λ (v : Verdict). IsJudged c.cards_at.new.repo.seen.state c.args.rows.now c.in-Some.kept v) (λ (v : Verdict). IsVerdictRead s.honest (now s).held items c.args.name v)
    (λ v j. verdict_known s items c.args.name c.args.rows.now c.requires (as_kept c.in-Ok.cards) c.in-Ok.ensures.cards c.in-Some.kept c.in-Some.is fit.rising v
    (subst (λ (x : State). IsJudged x c.args.rows.now c.in-Some.kept v) c.in-Ok.ensures.count j))
    c.judged.ensures.verdict

pub returns-in-Some-clause-fault : goal.returns-in-Some-clause-fault
returns-in-Some-clause-fault g c =
    let seen = c.args.repo.now.seen in
    let s = seen.state in
    let mid = c.cards_at.new.repo.seen.state in
    let left = c.judged.new.repo.seen.state in
    if_err_map c.judged.result (λ (why : ExportFault). FilesFail why mid c.args.rows.now left) (λ (why : ExportFault). VerifyFails why seen c.args.name left)
    (λ why h. files_fail why s left seen.items c.args.name c.args.rows.now c.requires mid c.in-Ok.ensures.count (c.in-Some.kept, (as_kept c.in-Ok.cards, c.in-Ok.ensures.cards, sym c.in-Some.is)) h)
    c.judged.ensures.fault

pub returns-in-None-clause-read : goal.returns-in-None-clause-read
returns-in-None-clause-read g c =
    let items = c.args.repo.now.seen.items in
    let is = known_checkin items (items_rise (now c.args.repo.now.seen.state).held items c.is_whole.ensures.seen.items) c.args.name c.args.rows.now c.requires in
    verdict_no_sum c.args.repo.now.seen.state items c.args.name is (as_kept c.in-Ok.cards) c.in-Ok.ensures.cards c.in-None.is

pub returns-in-Err-clause-fault : goal.returns-in-Err-clause-fault
returns-in-Err-clause-fault g c =
    text_fails c.in-Err.fault c.args.repo.now.seen.state c.cards_at.new.repo.seen.state c.args.repo.now.seen.items c.args.name c.args.rows.now c.requires c.in-Err.ensures.fault
