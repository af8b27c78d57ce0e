use Rattle.std.proofs.Common.{ap}
use Rattle.fsl_repo.specs.Opening.{disk_of}
use Rattle.fossil.specs.ServeCall.{left_of}
use Rattle.fossil.proofs.ServeLemmas.{loaded_served, not_served, safe_as}
use Rattle.fossil.proofs.commands.serve.serve_disk.Goals as goal

pub returns-in-Ok : goal.returns-in-Ok
returns-in-Ok g c =
    let safe = safe_as g.D.Disk.state c.args.disk (disk_of c.load.result) c.in-Ok.repo.disk (ap disk_of c.in-Ok.is) c.load.ensures.keeps c.load.ensures.refused c.load.ensures.harmless c.load.ensures.any_moment in
    loaded_served _ _ _ _ _ _ _ c.args.disk c.in-Ok.repo c.args.users.now c.args.requests c.in-Ok.ensures.opened safe c.serve_loaded.ensures

pub returns-in-Err : goal.returns-in-Err
returns-in-Err g c =
    let safe = safe_as g.D.Disk.state c.args.disk (disk_of c.load.result) c.in-Err.disk (ap disk_of c.in-Err.is) c.load.ensures.keeps c.load.ensures.refused c.load.ensures.harmless c.load.ensures.any_moment in
    not_served _ _ (left_of c.ended.result.state) c.args.crews.items c.ended.result.crews.items _ _ c.args.disk c.in-Err.disk c.in-Err.fault c.not_loaded.result c.args.users.now c.args.requests
    (ap left_of c.ended.ensures.state) (ap (λ v. v.items) c.ended.ensures.crews) c.in-Err.ensures.fault safe c.not_loaded.ensures c.ended.ensures.said
