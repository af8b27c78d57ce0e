use Rattle.fsl_repo.specs.Laters.{step_later}
use Rattle.fsl_serve.proofs.Settling.{commit_stores_none, commit_settles}
use Rattle.fsl_serve.proofs.crews.settle.Goals as goal

pub returns-clause-later : goal.returns-clause-later
returns-clause-later g c = step_later g.D.Disk.state _ _ _ _ c.step_uncounted.ensures

pub returns-clause-stored : goal.returns-clause-stored
returns-clause-stored g c = commit_stores_none _ _ _ _ _ c.step_uncounted.ensures

pub returns-clause-settled : goal.returns-clause-settled
returns-clause-settled g c = commit_settles _ _ _ _ _ c.step_uncounted.ensures

pub returns-clause-step : goal.returns-clause-step
returns-clause-step g c = (_, c.step_uncounted.ensures)
