use Rattle.std.proofs.Common.{◌≡◌, sym, subst}
use Rattle.fsl_disk.specs.Disk.{DiskState}
use Rattle.fsl_words.specs.declared.Command.TheVariants as command_of
use Rattle.fossil.specs.Syncing.{ComesTo}
use Rattle.fossil.proofs.RepoLemmas.{repo_unopened}
use Rattle.fossil.proofs.ComeLemmas.{local_comes}
use Rattle.fossil.proofs.UnopenedLemmas.{ready_of, no_peer_comes}
use Rattle.fossil.proofs.commands.pull_local.pull_from.Goals as goal

pub returns-in-Ok : goal.returns-in-Ok
returns-in-Ok g c = λ disk ready path dial.
    let file = g.D.Disk.state disk in
    let old = c.args.repo.now in
    let new = c.pull_between-due.new.repo in
    let mid = g.D.Disk.state old.disk in
    let left = g.D.Disk.state new.disk in
    let peer = g.P.Disk.state c.args.peer in
    let there = c.in-Ok.there in
    let later = c.pull_between-due.new.peer in
    let peer_mid = g.P.Disk.state there.disk in
    let peer_left = g.P.Disk.state later.disk in
    let same : g.P.Disk.state c.close.result ≡ peer_left = λ i. g.P.Disk.state (c.close.ensures i) in
    subst (λ (s : DiskState). ComesTo (command_of.PullLocal path) (file, left) (peer, s) (dial, dial) c.pull_between-due.result) (sym same)
    (local_comes path dial file mid left old new ready c.pull_between-due.ensures.whole c.pull_between-due.ensures.keeps
    (λ held model told. g.met.D.Disk.reads_as_image disk held model told) (λ held model told. g.met.D.Disk.reads_as_image new.disk held model told) peer peer_mid peer_left there later
    (ready_of peer peer_mid there c.in-Ok.ensures.opened c.is_whole.ensures c.in-Ok.ensures.any_moment c.in-Ok.ensures.keeps) c.in-Ok.ensures.spared c.in-Ok.ensures.harmless
    c.pull_between-due.ensures.peer.quiet c.pull_between-due.ensures.peer_whole (λ model f held. g.met.P.Disk.only_now there.disk f model held) c.pull_between-due.result c.pull_between-due.ensures.pulled)

pub returns-in-Err : goal.returns-in-Err
returns-in-Err g c = λ disk ready path dial.
    let file = g.D.Disk.state disk in
    let old = c.args.repo.now in
    let mid = g.D.Disk.state old.disk in
    let peer = g.P.Disk.state c.args.peer in
    let peer_left = g.P.Disk.state c.in-Err.peer in
    no_peer_comes path file mid old ready peer peer_left dial (λ held model told. g.met.D.Disk.reads_as_image disk held model told) (λ held model told. g.met.D.Disk.reads_as_image old.disk held model told) c.in-Err.ensures.spared c.in-Err.ensures.harmless c.unopened_peer.result c.in-Err.fault
    (repo_unopened peer peer_left c.in-Err.fault c.in-Err.ensures.fault c.in-Err.ensures.spared c.in-Err.ensures.refused c.in-Err.ensures.any_moment c.in-Err.ensures.keeps) c.unopened_peer.ensures
