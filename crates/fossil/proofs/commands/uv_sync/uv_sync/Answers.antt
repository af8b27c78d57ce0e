use Rattle.std.proofs.Common.{◌≡◌, sym, subst}
use Rattle.fsl_disk.specs.Disk.{DiskState}
use Rattle.fossil.specs.Due.{printed}
use Rattle.fossil.specs.UvSyncs.{HasMerged}
use Rattle.fossil.proofs.FileLemmas.{both}
use Rattle.fossil.proofs.UvSyncLemmas.{no_file_comes}
use Rattle.fossil.proofs.commands.uv_sync.uv_sync.Goals as goal

pub returns-in-Ok : goal.returns-in-Ok
returns-in-Ok g c =
    let file = g.D.Disk.state c.args.disk in
    let is = c.in-Ok.ensures in
    let peer : DiskState × DiskState = (g.P.Disk.state c.args.peer, g.P.Disk.state c.sync_with-due.result.1) in
    let same : g.D.Disk.state c.close.result ≡ g.D.Disk.state c.sync_with-due.new.here.disk = λ i. g.D.Disk.state (c.close.ensures i) in
    subst (λ (s : DiskState). HasMerged (both file s) (both peer.0 peer.1) (λ o. printed c.sync_with-due.result.0 ≡ o)) (sym same)
    (c.sync_with-due.ensures c.args.disk (record { opened = is.opened; keeps = is.keeps; any_moment = is.any_moment; durable = is.durable; store = c.is_store.ensures }))

pub returns-in-Err : goal.returns-in-Err
returns-in-Err g c =
    let is = c.in-Err.ensures in
    no_file_comes (g.D.Disk.state c.args.disk) (g.D.Disk.state c.in-Err.disk) is.spared is.any_moment is.refused is.harmless is.keeps (g.P.Disk.state c.args.peer)
    (λ model f held. g.met.P.Disk.only_now c.args.peer f model held) c.no_store.result c.in-Err.fault is.fault c.no_store.ensures
