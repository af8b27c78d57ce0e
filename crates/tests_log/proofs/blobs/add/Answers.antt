use Rattle.tests_log.proofs.Steps.{in_step_applied}
use Rattle.tests_log.proofs.blobs.add.Goals as goal

pub returns-clause-open : goal.returns-clause-open
returns-clause-open g c =
    in_step_applied c.args.journal.now c.append.new.self c.args.blobs.now c.apply.new.self c.args.entry c.in_ok-at.at (g.D.Disk.state c.args.disk.now) c.requires.open c.requires.runs c.in_ok-at.ensures.ok
    c.apply.result c.apply.ensures.ok
