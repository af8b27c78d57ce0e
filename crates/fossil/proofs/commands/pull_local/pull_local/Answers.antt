use Rattle.std.proofs.Common.{◌≡◌, sym, subst}
use Rattle.fsl_disk.specs.Disk.{DiskState}
use Rattle.fsl_words.specs.declared.Command.TheVariants as command_of
use Rattle.fossil.specs.Syncing.{ComesTo}
use Rattle.fossil.proofs.RepoLemmas.{repo_unopened}
use Rattle.fossil.proofs.SyncedLemmas.{peer_idle}
use Rattle.fossil.proofs.UnopenedLemmas.{ready_of, unopened_comes, local_unopened, local_due}
use Rattle.fossil.proofs.commands.pull_local.pull_local.Goals as goal

pub returns-in-Ok : goal.returns-in-Ok
returns-in-Ok g c = λ path dial.
    let file = g.D.Disk.state c.args.disk in
    let mid = g.D.Disk.state c.in-Ok.repo.disk in
    let there : DiskState × DiskState = (g.P.Disk.state c.args.peer, g.P.Disk.state c.pull_from-due.result.1) in
    let same : g.D.Disk.state c.close.result ≡ g.D.Disk.state c.pull_from-due.new.repo.disk = λ i. g.D.Disk.state (c.close.ensures i) in
    subst (λ (s : DiskState). ComesTo (command_of.PullLocal path) (file, s) there (dial, dial) c.pull_from-due.result.0) (sym same)
    (c.pull_from-due.ensures c.args.disk (ready_of file mid c.in-Ok.repo c.in-Ok.ensures.opened c.is_whole.ensures c.in-Ok.ensures.any_moment c.in-Ok.ensures.keeps) path dial)

pub returns-in-Err : goal.returns-in-Err
returns-in-Err g c = λ path dial.
    let file = g.D.Disk.state c.args.disk in
    let left = g.D.Disk.state c.in-Err.disk in
    let peer = g.P.Disk.state c.args.peer in
    unopened_comes (command_of.PullLocal path) (local_unopened path) file left peer dial (local_due path peer) (λ asks. peer_idle peer (λ model f held. g.met.P.Disk.only_now c.args.peer f model held))
    c.in-Err.ensures.spared c.in-Err.ensures.harmless c.not_loaded.result c.in-Err.fault
    (repo_unopened file left c.in-Err.fault c.in-Err.ensures.fault c.in-Err.ensures.spared c.in-Err.ensures.refused c.in-Err.ensures.any_moment c.in-Err.ensures.keeps) c.not_loaded.ensures
