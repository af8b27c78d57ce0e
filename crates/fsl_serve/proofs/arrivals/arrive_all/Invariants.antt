use Rattle.std.specs.Prelude.{◌≡◌, ◌-◌, length, false, drop}
use Rattle.fsl_serve.specs.Calls.{Gains, asked, told}
use Rattle.fsl_serve.specs.Session.{arrivals, notices}
use Rattle.fsl_serve.proofs.Runs.{IsAt}
use Rattle.fsl_serve.proofs.arrivals.arrive_all.Given as goal

abbrev pub invariant-loop-at : goal.invariant-loop-at
invariant-loop-at g l =
    g.T.Calls.grows l.initial.pass l.pass
    × Gains g.D.Disk.state (g.T.Calls.calls l.initial.pass) (g.T.Calls.calls l.pass) (λ made. IsAt (arrivals l.initial.receipt false l.initial.cards) made (arrivals l.initial.receipt l.marked (drop l.at l.initial.cards)) × (l.texts ≡ notices (asked made) (told made)))
    × (l.cards ≡ l.initial.cards)
    × (l.receipt ≡ l.initial.receipt)

abbrev pub decreases-loop-at : goal.decreases-loop-at
decreases-loop-at g l = length l.initial.cards - l.at
