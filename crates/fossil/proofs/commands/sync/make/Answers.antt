use Rattle.std.proofs.Common.{sym, subst}
use Rattle.fossil.specs.declared.commands.sync.Way.{Way}
use Rattle.fossil.specs.Syncing.{IsMadeOver}
use Rattle.fossil.proofs.commands.sync.make.Goals as goal

pub returns-in-Pull-clause-made : goal.returns-in-Pull-clause-made
returns-in-Pull-clause-made g c =
    subst (λ (w : Way). IsMadeOver w c.args.login.now (g.N.Link.state c.args.dial.now, g.N.Link.state c.pull.new.dial) (g.D.Disk.state c.args.repo.now.disk, g.D.Disk.state c.pull.new.repo.disk) c.args.repo.now.seen c.pull.new.repo.seen c.pull.result) (sym c.in-Pull.is)
    c.pull.ensures.pulls

pub returns-in-Push-clause-made : goal.returns-in-Push-clause-made
returns-in-Push-clause-made g c =
    subst (λ (w : Way). IsMadeOver w c.args.login.now (g.N.Link.state c.args.dial.now, g.N.Link.state c.push.new.dial) (g.D.Disk.state c.args.repo.now.disk, g.D.Disk.state c.push.new.repo.disk) c.args.repo.now.seen c.push.new.repo.seen c.push.result) (sym c.in-Push.is)
    c.push.ensures.pushes
