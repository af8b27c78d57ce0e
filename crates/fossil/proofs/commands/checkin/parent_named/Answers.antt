use Rattle.std.proofs.Common.{◌≡◌, ◌∙◌, sym}
use Rattle.fsl_blobs.specs.Held.{matching, found}
use Rattle.fsl_repo.specs.Machine.{now}
use Rattle.fsl_query.specs.Reports.{of_prefix}
use Rattle.fsl_checkin.proofs.HavingLemmas.{if_ok_map}
use Rattle.fossil.specs.Checkins.{checkin_or}
use Rattle.fossil.proofs.CheckinLemmas.{by_none, by_one}
use Rattle.fossil.proofs.commands.checkin.parent_named.Goals as goal

pub returns-in-Ok : goal.returns-in-Ok
returns-in-Ok g c =
    let seen = c.args.repo.now.seen in
    if_ok_map c.checkin_or.result (λ r. r ≡ checkin_or seen.items c.in-Ok.name) (λ r. r ≡ of_prefix (now seen.state) c.args.prefix.now (checkin_or seen.items))
    (λ r same. same ∙ by_one c.args.prefix.now (checkin_or seen.items) (found (matching (now seen.state).held c.args.prefix.now)) c.in-Ok.name (sym c.in-Ok.is ∙ c.in_ok-name.ensures)) c.checkin_or.ensures

pub returns-in-Err : goal.returns-in-Err
returns-in-Err g c =
    let seen = c.args.repo.now.seen in
    by_none c.args.prefix.now (checkin_or seen.items) (found (matching (now seen.state).held c.args.prefix.now)) c.in-Err.refused (sym c.in-Err.is ∙ c.in_ok-name.ensures)
