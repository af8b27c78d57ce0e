use Rattle.laws_runs.specs.Runs.{states_of}
use Rattle.laws_runs.proofs.Chains.{is_run_of}
use Rattle.laws_runs.proofs.running.run_once.Goals as goal

pub returns-in-Ok : goal.returns-in-Ok
returns-in-Ok g c =
    is_run_of (states_of g.S.Source.state g.K.Sink.state g.P.Disk.state g.N.Link.state g.C.Clock.told g.D.Disk.state) c.args.disk c.args.session c.run_session-disk.result.past
    c.in-Ok.disk c.run_session-disk.result.disk c.of-began.result.value c.run_session-disk.ensures.handed c.run_session-disk.ensures.began c.run_session-disk.ensures.ended
    c.of-began.ensures c.run_session-disk.ensures.run c.in-Ok.ensures.ended c.in-Ok.ensures.modelled
