use Rattle.std.proofs.Common.{List, ap, subst, sym, ◌∙◌}
use Rattle.std.specs.Prelude.{IfErr, is_some}
use Rattle.std.specs.List.{list_all}
use Rattle.fsl_files.specs.declared.FileRow.{FileRow}
use Rattle.fsl_repo.specs.Machine.{now}
use Rattle.fsl_repo.proofs.ItemLemmas.{items_rise}
use Rattle.fsl_checkin.specs.declared.answers.Export.{Export}
use Rattle.fsl_checkin.specs.declared.answers.ExportFault.{ExportFault}
use Rattle.fsl_checkin.specs.Having.{IsFilled}
use Rattle.fsl_checkin.specs.Reads.{ExportFails, IsExportRead, asked_files, asked_in}
use Rattle.fsl_checkin.proofs.FilesLemmas.{baseline_checkin, export_known, known_checkin, known_fit, not_checkin}
use Rattle.fsl_checkin.proofs.HavingLemmas.{if_ok_map}
use Rattle.fsl_checkin.proofs.exporting.exported.Goals as goal

pub filled-requires : goal.filled-requires
filled-requires g c =
    let fit = known_fit (now c.args.repo.now.seen.state).held c.args.repo.now.seen.items c.is_whole.ensures.seen.items c.args.name c.in-Ok-Known.files (sym c.in-Ok-Known.ensures ∙ c.in-Ok-Known.field-0-is) in
    ap (list_all (λ (file : FileRow). is_some file.hash)) c.items.ensures ∙ fit.hashed

pub returns-in-Ok-NotCheckin-clause-read : goal.returns-in-Ok-NotCheckin-clause-read
returns-in-Ok-NotCheckin-clause-read g c =
    let items = c.args.repo.now.seen.items in
    not_checkin items (items_rise (now c.args.repo.now.seen.state).held items c.is_whole.ensures.seen.items) c.args.name (sym c.in-Ok-NotCheckin.ensures ∙ c.in-Ok-NotCheckin.field-0-is)

pub returns-in-Ok-NoBaseline-clause-unread : goal.returns-in-Ok-NoBaseline-clause-unread
returns-in-Ok-NoBaseline-clause-unread g c = λ none.
    let items = c.args.repo.now.seen.items in
    absurd (baseline_checkin items (items_rise (now c.args.repo.now.seen.state).held items c.is_whole.ensures.seen.items) c.args.name (sym c.in-Ok-NoBaseline.ensures ∙ c.in-Ok-NoBaseline.field-0-is) none)

pub returns-in-Ok-Known-clause-read : goal.returns-in-Ok-Known-clause-read
returns-in-Ok-Known-clause-read g c =
    let s = c.args.repo.now.seen.state in
    let items = c.args.repo.now.seen.items in
    let is = sym c.in-Ok-Known.ensures ∙ c.in-Ok-Known.field-0-is in
    if_ok_map c.filled.result (λ (e : Export). IsFilled s c.items.result.now e) (λ (e : Export). IsExportRead s.honest (now s).held items c.args.name e)
    (λ e f. export_known s items c.args.name c.in-Ok-Known.files is e (subst (λ (rows : List FileRow). IsFilled s rows e) c.items.ensures f))
    c.filled.ensures.export

pub returns-in-Ok-Known-clause-fault : goal.returns-in-Ok-Known-clause-fault
returns-in-Ok-Known-clause-fault g c =
    let is = sym c.in-Ok-Known.ensures ∙ c.in-Ok-Known.field-0-is in
    let held = (now c.args.repo.now.seen.state).held in
    subst (λ names. IfErr c.filled.result (λ (why : ExportFault). ExportFails why c.args.repo.now.seen.state names c.filled.new.repo.seen.state))
    (ap (asked_files held) c.items.ensures ∙ sym (ap (asked_in held c.args.name) is)) c.filled.ensures.fault

pub returns-in-Ok-Known-clause-unread : goal.returns-in-Ok-Known-clause-unread
returns-in-Ok-Known-clause-unread g c = λ none.
    let items = c.args.repo.now.seen.items in
    absurd (known_checkin items (items_rise (now c.args.repo.now.seen.state).held items c.is_whole.ensures.seen.items) c.args.name c.in-Ok-Known.files (sym c.in-Ok-Known.ensures ∙ c.in-Ok-Known.field-0-is) none)
