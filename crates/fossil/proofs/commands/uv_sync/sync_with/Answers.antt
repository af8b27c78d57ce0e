use Rattle.std.proofs.Common.{◌≡◌, sym, subst}
use Rattle.fsl_disk.specs.Disk.{DiskState}
use Rattle.fossil.specs.Due.{printed}
use Rattle.fossil.specs.UvSyncs.{HasMerged}
use Rattle.fossil.proofs.FileLemmas.{both}
use Rattle.fossil.proofs.UvSyncLemmas.{stores_come, no_peer_comes}
use Rattle.fossil.proofs.commands.uv_sync.sync_with.Goals as goal

pub returns-in-Ok : goal.returns-in-Ok
returns-in-Ok g c = λ disk ready.
    let file = g.D.Disk.state disk in
    let here = c.args.here.now in
    let after = c.talk-due.new.here in
    let peer = g.P.Disk.state c.args.peer in
    let there = c.in-Ok.there in
    let left = c.talk-due.new.there in
    let is = c.in-Ok.ensures in
    let same : g.P.Disk.state c.close.result ≡ g.P.Disk.state left.disk = λ i. g.P.Disk.state (c.close.ensures i) in
    subst (λ (s : DiskState). HasMerged (both file (g.D.Disk.state after.disk)) (both peer s) (λ o. printed c.talk-due.result ≡ o)) (sym same)
    (stores_come g.D.Disk.state g.P.Disk.state file peer here after there left ready
    (record { opened = is.opened; keeps = is.keeps; any_moment = is.any_moment; durable = is.durable; store = c.is_store.ensures }) c.talk-due.ensures.here c.talk-due.ensures.there
    (λ held model told. g.met.D.Disk.reads_as_image disk held model told) (λ held model told. g.met.D.Disk.reads_as_image after.disk held model told)
    (λ held model told. g.met.P.Disk.reads_as_image c.args.peer held model told) (λ held model told. g.met.P.Disk.reads_as_image left.disk held model told) c.talk-due.result c.talk-due.ensures.talks)

pub returns-in-Err : goal.returns-in-Err
returns-in-Err g c = λ disk ready.
    let here = c.args.here.now in
    let is = c.in-Err.ensures in
    no_peer_comes (g.D.Disk.state disk) (g.D.Disk.state here.disk) here.seen ready (g.P.Disk.state c.args.peer) (g.P.Disk.state c.in-Err.peer) is.spared is.any_moment is.refused is.harmless is.keeps
    c.no_peer_store.result c.in-Err.fault is.fault c.no_peer_store.ensures
