use Rattle.fsl_serve.proofs.Acknowledged.{commits_first, answered_stays}
use Rattle.fsl_serve.proofs.laws.answered_stays.Goals as goal

pub returns-clause-replies : goal.returns-clause-replies
returns-clause-replies g c = commits_first

pub returns-clause-history : goal.returns-clause-history
returns-clause-history g c = answered_stays g.D.Disk.state g.met.D.Disk.only_now
