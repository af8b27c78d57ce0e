use Rattle.fsl_serve.proofs.Undamaged.{none_in_sessions, none_since}
use Rattle.fsl_serve.proofs.laws.nothing_is_damaged.Goals as goal

pub returns-clause-sessions : goal.returns-clause-sessions
returns-clause-sessions g c = none_in_sessions g.D.Disk.state

pub returns-clause-history : goal.returns-clause-history
returns-clause-history g c = none_since g.D.Disk.state
