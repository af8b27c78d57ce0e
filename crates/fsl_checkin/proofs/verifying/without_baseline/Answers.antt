use Rattle.fsl_repo.specs.Machine.{now}
use Rattle.fsl_repo.proofs.ItemLemmas.{items_rise}
use Rattle.fsl_checkin.specs.Having.{as_kept}
use Rattle.fsl_checkin.proofs.FilesLemmas.{baseline_checkin, verdict_baseline, verdict_no_sum}
use Rattle.fsl_checkin.proofs.HavingLemmas.{based_fails}
use Rattle.fsl_checkin.proofs.verifying.without_baseline.Goals as goal

pub cards_at-requires : goal.cards_at-requires
cards_at-requires g c =
    let items = c.args.repo.now.seen.items in
    baseline_checkin items (items_rise (now c.args.repo.now.seen.state).held items c.is_whole.ensures.seen.items) c.args.name c.requires

pub returns-in-Some-clause-read : goal.returns-in-Some-clause-read
returns-in-Some-clause-read g c =
    verdict_baseline c.args.repo.now.seen.state c.args.repo.now.seen.items c.args.name c.requires (as_kept c.in-Ok.cards) c.in-Ok.ensures.cards c.in-Some.field-0 c.in-Some.is c.baseline_or.result c.baseline_or.ensures

pub returns-in-None-clause-read : goal.returns-in-None-clause-read
returns-in-None-clause-read g c =
    let items = c.args.repo.now.seen.items in
    let is = baseline_checkin items (items_rise (now c.args.repo.now.seen.state).held items c.is_whole.ensures.seen.items) c.args.name c.requires in
    verdict_no_sum c.args.repo.now.seen.state items c.args.name is (as_kept c.in-Ok.cards) c.in-Ok.ensures.cards c.in-None.is

pub returns-in-Err-clause-fault : goal.returns-in-Err-clause-fault
returns-in-Err-clause-fault g c =
    based_fails c.in-Err.fault c.args.repo.now.seen.state c.cards_at.new.repo.seen.state c.args.repo.now.seen.items c.args.name c.requires c.in-Err.ensures.fault
