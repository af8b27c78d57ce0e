use Rattle.fsl_repo.specs.Machine.{now}
use Rattle.fossil.proofs.CheckinLemmas.{is_based, is_known, is_none}
use Rattle.fossil.proofs.commands.checkin.is_checkin.Goals as goal

pub returns-in-NotCheckin : goal.returns-in-NotCheckin
returns-in-NotCheckin g c =
    let items = c.args.repo.now.seen.items in
    is_none items c.args.name (now c.args.repo.now.seen.state).held c.is_whole.ensures.seen.items c.in_ok-listing_at.field-0 c.in_ok-listing_at.ensures c.in-NotCheckin.is

pub returns-in-NoBaseline : goal.returns-in-NoBaseline
returns-in-NoBaseline g c =
    let items = c.args.repo.now.seen.items in
    is_based items c.args.name (now c.args.repo.now.seen.state).held c.is_whole.ensures.seen.items c.in_ok-listing_at.field-0 c.in_ok-listing_at.ensures c.in-NoBaseline.is

pub returns-in-Known : goal.returns-in-Known
returns-in-Known g c =
    let items = c.args.repo.now.seen.items in
    is_known items c.args.name (now c.args.repo.now.seen.state).held c.is_whole.ensures.seen.items c.in-Known.files c.in_ok-listing_at.field-0 c.in_ok-listing_at.ensures c.in-Known.is
