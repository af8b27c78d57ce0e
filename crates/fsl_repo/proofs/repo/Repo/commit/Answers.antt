use Rattle.std.proofs.Common.{subst, sym}
use Rattle.fsl_repo.specs.Machine.{IsCommit}
use Rattle.fsl_repo.specs.Keeping.{state_of}
use Rattle.fsl_repo.specs.Whole.{is_modelled, log_of}
use Rattle.fsl_disk.specs.Disk.{IsModelled}
use Rattle.fsl_disk.specs.Disk.{LeavesOnly}
use Rattle.fsl_journal.specs.Log.{BeforeOrAll}
use Rattle.fsl_repo.proofs.Steps.{commit_step, same_kind}
use Rattle.fsl_repo.proofs.repo.Repo.commit.Goals as goal

pub returns-clause-step : goal.returns-clause-step
returns-clause-step g c =
    let r = c.self.inside in
    let told = c.commit.ensures in
    let d0 = g.D.Disk.state r.disk in
    let d1 = g.D.Disk.state c.commit.new.disk in
    let kind = same_kind d0 d1 told.keeps in
    subst (λ v. IsCommit v.seen.state.stopped v.seen.state c.commit.result (state_of c.commit.new.self r.blobs d1.faults (is_modelled d1))) c.self.view_is
    (subst (λ h. IsCommit r.journal.stopped (state_of r.journal r.blobs d0.faults (is_modelled d0)) c.commit.result (state_of c.commit.new.self r.blobs d1.faults h)) (sym kind)
    (commit_step r.journal c.commit.new.self r.blobs d0 d1 (is_modelled d0) c.commit.result told.later told.ok told.fault))

pub returns-clause-any_moment : goal.returns-clause-any_moment
returns-clause-any_moment g c =
    subst (λ v. IsModelled (g.D.Disk.state v.disk) → LeavesOnly (g.D.Disk.state v.disk) (g.D.Disk.state c.commit.new.disk) (BeforeOrAll (log_of v))) c.self.view_is
    c.commit.ensures.any_moment
