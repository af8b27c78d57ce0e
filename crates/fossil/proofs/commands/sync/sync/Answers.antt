use Rattle.std.proofs.Common.{◌≡◌, Option, sym, subst}
use Rattle.fsl_disk.specs.Disk.{DiskState}
use Rattle.fsl_pull.specs.declared.Login.{Login}
use Rattle.fossil.specs.Syncing.{ComesTo, HasMade, command_by}
use Rattle.fossil.proofs.RepoLemmas.{repo_unopened}
use Rattle.fossil.proofs.ComeLemmas.{over_comes}
use Rattle.fossil.proofs.UnopenedLemmas.{ready_of, unopened_comes, over_unopened, over_due, over_alone}
use Rattle.fossil.proofs.commands.sync.sync.Goals as goal

pub returns-in-Ok : goal.returns-in-Ok
returns-in-Ok g c = λ address.
    let file = g.D.Disk.state c.args.disk in
    let mid = g.D.Disk.state c.in-Ok.repo.disk in
    let left = g.D.Disk.state c.sync_open-due.new.repo.disk in
    let dial = g.N.Link.state c.args.dial.now in
    let dial_left = g.N.Link.state c.sync_open-due.new.dial in
    let same : g.D.Disk.state c.close.result ≡ left = λ i. g.D.Disk.state (c.close.ensures i) in
    subst (λ (s : DiskState). ComesTo (command_by c.args.way address c.args.login) (file, s) (file, file) (dial, dial_left) c.sync_open-due.result) (sym same)
    (over_comes c.args.login address file dial dial_left file mid left c.in-Ok.repo c.sync_open-due.new.repo
    (ready_of file mid c.in-Ok.repo c.in-Ok.ensures.opened c.is_whole.ensures c.in-Ok.ensures.any_moment c.in-Ok.ensures.keeps) c.sync_open-due.ensures.whole c.sync_open-due.ensures.keeps
    (λ held model told. g.met.D.Disk.reads_as_image c.args.disk held model told) (λ held model told. g.met.D.Disk.reads_as_image c.sync_open-due.new.repo.disk held model told) c.sync_open-due.result c.args.way
    (subst (λ (l : Option Login). HasMade c.args.way l (dial, dial_left) (mid, left) c.in-Ok.repo.seen c.sync_open-due.new.repo.seen c.sync_open-due.result) c.login_of-login.ensures c.sync_open-due.ensures.made))

pub returns : goal.returns
returns g c = λ address.
    let file = g.D.Disk.state c.args.disk in
    let left = g.D.Disk.state c.in-Err.disk in
    unopened_comes (command_by c.args.way address c.args.login) (over_unopened c.args.way address c.args.login) file left file (g.N.Link.state c.args.dial.now) (over_due c.args.way address c.args.login file) (over_alone c.args.way address c.args.login file)
    c.in-Err.ensures.spared c.in-Err.ensures.harmless c.not_loaded.result c.in-Err.fault
    (repo_unopened file left c.in-Err.fault c.in-Err.ensures.fault c.in-Err.ensures.spared c.in-Err.ensures.refused c.in-Err.ensures.any_moment c.in-Err.ensures.keeps) c.not_loaded.ensures
