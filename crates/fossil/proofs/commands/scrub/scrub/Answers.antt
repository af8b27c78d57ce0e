use Rattle.std.proofs.Common.{◌≡◌, sym, subst}
use Rattle.fsl_disk.specs.Disk.{DiskState}
use Rattle.fossil.specs.Due.{printed}
use Rattle.fossil.specs.Scrubs.{HasScrubbed}
use Rattle.fossil.proofs.FileLemmas.{both}
use Rattle.fossil.proofs.RepoLemmas.{repo_opened, repo_unopened}
use Rattle.fossil.proofs.ScrubLemmas.{unopened_scrubs}
use Rattle.fossil.proofs.commands.scrub.scrub.Goals as goal

pub returns-in-Ok : goal.returns-in-Ok
returns-in-Ok g c =
    let file = g.D.Disk.state c.args.disk in
    let peer = g.P.Disk.state c.args.peer in
    let left = g.P.Disk.state c.scrub_into-due.new.peer in
    let same : g.D.Disk.state c.close.result ≡ g.D.Disk.state c.scrub_into-due.new.repo.disk = λ i. g.D.Disk.state (c.close.ensures i) in
    subst (λ (s : DiskState). HasScrubbed (both file s) (both peer left) (λ o. printed c.scrub_into-due.result ≡ o)) (sym same)
    (c.scrub_into-due.ensures c.args.disk
    (repo_opened file (g.D.Disk.state c.in-Ok.repo.disk) c.in-Ok.repo c.in-Ok.ensures.opened c.is_whole.ensures c.in-Ok.ensures.any_moment c.in-Ok.ensures.keeps))

pub returns-in-Err : goal.returns-in-Err
returns-in-Err g c =
    let file = g.D.Disk.state c.args.disk in
    let left = g.D.Disk.state c.in-Err.disk in
    let is = c.in-Err.ensures in
    unopened_scrubs file left is.harmless (g.P.Disk.state c.args.peer) (λ model f held. g.met.P.Disk.only_now c.args.peer f model held) c.not_loaded.result c.in-Err.fault
    (repo_unopened file left c.in-Err.fault is.fault is.spared is.refused is.any_moment is.keeps) c.not_loaded.ensures
