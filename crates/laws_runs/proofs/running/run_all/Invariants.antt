use Rattle.laws_runs.specs.Runs.{states_of}
use Rattle.laws_runs.proofs.Chains.{HaveRun}
use Rattle.laws_runs.proofs.running.run_all.Given as goal

-- the sessions that were passed were run
abbrev pub invariant-loop-session : goal.invariant-loop-session
invariant-loop-session g l =
    HaveRun (states_of g.S.Source.state g.K.Sink.state g.P.Disk.state g.N.Link.state g.C.Clock.told g.D.Disk.state) l.fn.disk l.fn.sessions.items l.session-iterator.rest.items
    l.pasts.items l.disk
