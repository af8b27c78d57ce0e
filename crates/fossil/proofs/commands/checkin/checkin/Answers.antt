use Rattle.std.proofs.Common.{◌≡◌, Some, sym, subst}
use Rattle.fsl_disk.specs.Disk.{DiskState}
use Rattle.fossil.specs.Acts.{Acts}
use Rattle.fossil.specs.CheckinCall.{asked_for}
use Rattle.fossil.proofs.ActLemmas.{not_loaded_acted}
use Rattle.fossil.proofs.CheckinLemmas.{checkin_loads}
use Rattle.fossil.proofs.RepoLemmas.{repo_opened, repo_unopened}
use Rattle.fossil.proofs.commands.checkin.checkin.Goals as goal

pub returns-in-Ok : goal.returns-in-Ok
returns-in-Ok g c =
    let same : g.D.Disk.state c.close.result ≡ g.D.Disk.state c.check_input-answer.new.repo.disk = λ i. g.D.Disk.state (c.close.ensures i) in
    subst (λ (s : DiskState). Acts (asked_for c.args.asked.now) (g.S.Source.state c.args.input.now, g.S.Source.state c.check_input-answer.new.input) (g.C.Clock.told c.args.clock.now, g.C.Clock.told c.check_input-answer.new.clock) (g.D.Disk.state c.args.disk, s) c.check_input-answer.result) (sym same)
    (c.check_input-answer.ensures c.args.disk
    (repo_opened (g.D.Disk.state c.args.disk) (g.D.Disk.state c.in-Ok.repo.disk) c.in-Ok.repo c.in-Ok.ensures.opened c.is_whole.ensures c.in-Ok.ensures.any_moment c.in-Ok.ensures.keeps))

pub returns-in-Err : goal.returns-in-Err
returns-in-Err g c =
    let file = g.D.Disk.state c.args.disk in
    let left = g.D.Disk.state c.in-Err.disk in
    not_loaded_acted (Some (asked_for c.args.asked.now)) (checkin_loads c.args.asked.now) (g.S.Source.state c.args.input.now) (g.C.Clock.told c.args.clock.now) file left
    (λ held model told. g.met.D.Disk.reads_as_image c.in-Err.disk held model told) c.in-Err.fault c.not_loaded.result
    (repo_unopened file left c.in-Err.fault c.in-Err.ensures.fault c.in-Err.ensures.spared c.in-Err.ensures.refused c.in-Err.ensures.any_moment c.in-Err.ensures.keeps) c.not_loaded.ensures
