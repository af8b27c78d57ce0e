use Rattle.std.proofs.Common.{ap, subst, sym}
use Rattle.fsl_repo.specs.Machine.{now}
use Rattle.fsl_repo.proofs.ItemLemmas.{items_rise}
use Rattle.fsl_checkin.specs.Having.{as_kept}
use Rattle.fsl_checkin.specs.Reads.{ExportFails, asked_in}
use Rattle.fsl_checkin.proofs.FilesLemmas.{baseline_checkin, export_baseline}
use Rattle.fsl_checkin.proofs.exporting.without_baseline.Goals as goal

pub cards_at-requires : goal.cards_at-requires
cards_at-requires g c =
    let items = c.args.repo.now.seen.items in
    baseline_checkin items (items_rise (now c.args.repo.now.seen.state).held items c.is_whole.ensures.seen.items) c.args.name c.requires

pub returns-in-Ok-clause-read : goal.returns-in-Ok-clause-read
returns-in-Ok-clause-read g c =
    export_baseline c.args.repo.now.seen.state c.args.repo.now.seen.items c.args.name c.requires (as_kept c.in-Ok.cards) c.in-Ok.ensures.cards c.baseline_or.result c.baseline_or.ensures

pub returns-in-Err-clause-fault : goal.returns-in-Err-clause-fault
returns-in-Err-clause-fault g c =
    subst (λ names. ExportFails c.in-Err.fault c.args.repo.now.seen.state names c.cards_at.new.repo.seen.state) (sym (ap (asked_in (now c.args.repo.now.seen.state).held c.args.name) c.requires)) c.in-Err.ensures.fault
