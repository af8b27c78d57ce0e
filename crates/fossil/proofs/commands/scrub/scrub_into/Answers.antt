use Rattle.fossil.proofs.ScrubLemmas.{made_scrubs}
use Rattle.fossil.proofs.commands.scrub.scrub_into.Goals as goal

pub returns : goal.returns
returns g c = λ disk opened.
    let file = g.D.Disk.state disk in
    let old = c.args.repo.now in
    let new = c.scrub-made.new.repo in
    let peer = g.P.Disk.state c.args.peer.now in
    let left = g.P.Disk.state c.scrub-made.new.spare in
    let is = c.scrub-made.ensures in
    made_scrubs g.D.Disk.state file old new opened c.is_whole.ensures c.is_whole-2.ensures is.quiet (λ model f held. g.met.D.Disk.only_now old.disk f model held) peer left is.keeps
    (λ model f held. g.met.P.Disk.only_now c.args.peer.now f model held) c.scrub_due.result c.scrub-made.result is.begun is.scrubbed is.other is.fault is.count is.same c.scrub_due.ensures
