use Rattle.fsl_serve.proofs.Working.{IsServing}
use Rattle.fsl_serve.proofs.work.worker.Given as goal

abbrev pub invariant-loop-number : goal.invariant-loop-number
invariant-loop-number g l =
    g.T.Calls.grows l.initial.pass l.pass
    × IsServing g.D.Disk.state l.users l.fn.project l.number (g.A.Link.state l.initial.crew.door).present (g.A.Link.state l.initial.crew.door).standing (g.A.Link.state l.crew.door).present (g.A.Link.state l.crew.door).standing (g.T.Calls.calls l.initial.pass) (g.T.Calls.calls l.pass) (g.G.Gate.passed l.initial.crew.gate) (g.G.Gate.passed l.crew.gate) (g.C.Clock.told l.initial.crew.clock) (g.C.Clock.told l.crew.clock)
