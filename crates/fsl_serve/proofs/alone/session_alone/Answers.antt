use Rattle.std.proofs.Common.{List, [], Some, None, ap}
use Rattle.std.specs.Prelude.{Option}
use Rattle.fsl_serve.specs.Calls.{Call}
use Rattle.fsl_serve.proofs.alone.session_alone.Goals as goal

abbrev calls_in : Option (List Call) → List Call
calls_in None = []
calls_in (Some calls) = calls

pub returns-clause-session : goal.returns-clause-session
returns-clause-session g c =
    let m = c.session.ensures.session in
    (m.0, ap calls_in m.1, m.3.0)

pub returns-clause-points : goal.returns-clause-points
returns-clause-points g c =
    let m = c.session.ensures.session in
    (m.0, ap calls_in m.1, m.3.1)

pub returns-clause-steps : goal.returns-clause-steps
returns-clause-steps g c = c.session.ensures.grown
