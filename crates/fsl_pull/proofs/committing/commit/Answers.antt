use Rattle.fsl_pull.proofs.CommitLemmas.{commit_later, commit_failed}
use Rattle.fsl_pull.proofs.committing.commit.Goals as goal

pub returns-in-Err-clause-committed : goal.returns-in-Err-clause-committed
returns-in-Err-clause-committed g c =
    commit_failed (g.D.Disk.state c.args.repo.now.disk) (g.D.Disk.state c.commit.new.self.disk) c.args.repo.now.seen c.commit.new.self.seen c.commit.result c.in-Err.fault (c.args.repo.now.seen.state).stopped c.in-Err.is c.requires
    c.commit.ensures.step c.commit.ensures.loaded c.commit.ensures.any_moment (c.commit.ensures.nothing c.requires)

pub returns-in-Ok-clause-later : goal.returns-in-Ok-clause-later
returns-in-Ok-clause-later g c = commit_later _ _ _ _ c.commit.ensures.step

pub returns-in-Err-clause-later : goal.returns-in-Err-clause-later
returns-in-Err-clause-later g c = commit_later _ _ _ _ c.commit.ensures.step
