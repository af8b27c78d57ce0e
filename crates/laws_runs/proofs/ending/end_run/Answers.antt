use Rattle.std.specs.Prelude.{◌≡◌, MatchBool, IfOk}
use Rattle.std.proofs.Common.{sym, subst, ◌∙◌}
use Rattle.laws_runs.specs.Reboot.{IsRebooted}
use Rattle.laws_runs.specs.Runs.{IsEndedBy}
use Rattle.laws_runs.proofs.ending.end_run.Goals as goal

pub returns-in-Killed-clause-ended : goal.returns-in-Killed-clause-ended
returns-in-Killed-clause-ended g c =
    subst (λ e. IfOk c.kill.result (λ left. IsEndedBy (λ d. g.D.Disk.state d) e c.args.status c.args.began.value c.args.disk left)) (sym c.in-Killed.is) c.kill.ensures.killed

pub returns-in-Heard-clause-ended : goal.returns-in-Heard-clause-ended
returns-in-Heard-clause-ended g c =
    subst (λ e. IfOk c.strike_behind.result (λ left. IsEndedBy (λ d. g.D.Disk.state d) e c.args.status c.args.began.value c.args.disk left)) (sym c.in-Heard.is) c.strike_behind.ensures.rebooted

pub returns-clause-ended : goal.returns-clause-ended
returns-clause-ended g c =
    subst (λ e. IfOk c.strike_behind-else-is_done.result (λ left. IsEndedBy (λ d. g.D.Disk.state d) e c.args.status c.args.began.value c.args.disk left)) (sym c.in-Spared.is)
    (subst (λ b. IfOk c.strike_behind-else-is_done.result (λ left. MatchBool b (left ≡ c.args.disk)
    (IsRebooted (g.D.Disk.state c.args.disk) (g.D.Disk.state c.args.disk) (g.D.Disk.state left))))
    (sym c.if-is_done.false ∙ c.is_done.ensures) c.strike_behind-else-is_done.ensures.rebooted)
