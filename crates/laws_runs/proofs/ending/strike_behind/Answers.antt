use Rattle.std.specs.Prelude.{IfOk}
use Rattle.std.proofs.Common.{subst}
use Rattle.laws_runs.specs.Reboot.{IsRebooted}
use Rattle.laws_runs.proofs.ending.strike_behind.Goals as goal

pub returns-clause-rebooted : goal.returns-clause-rebooted
returns-clause-rebooted g c =
    subst (λ d. IfOk c.strike.result (λ left. IsRebooted (g.D.Disk.state d) (g.D.Disk.state c.args.disk) (g.D.Disk.state left))) c.of-ended.ensures
    c.strike.ensures.rebooted
