use Rattle.std.proofs.Common.{sym, subst}
use Rattle.fsl_disk.specs.Disk.{Keeps, LeavesOnly}
use Rattle.fsl_journal.specs.File.{IsFileOf}
use Rattle.fsl_repo.specs.Whole.{is_modelled}
use Rattle.fsl_pull.specs.declared.PullFault.{PullFault}
use Rattle.fsl_pull.specs.CloneTurns.{IsUnopened}
use Rattle.fsl_pull.proofs.CloneMaking.{alone, stays_alone, unopened, opened_ok, opened_err}
use Rattle.fsl_pull.proofs.cloning.opened_made.Goals as goal

pub returns-in-Ok-clause-opened : goal.returns-in-Ok-clause-opened
returns-in-Ok-clause-opened g c = opened_ok c.args.config.now (g.D.Disk.state c.args.disk).faults (is_modelled (g.D.Disk.state c.args.disk)) c.in-Ok.repo.seen c.as_made.result c.in-Ok.ensures.opened.state c.in-Ok.ensures.opened.loaded c.as_made.ensures.alone

pub returns-in-Ok-clause-fault : goal.returns-in-Ok-clause-fault
returns-in-Ok-clause-fault g c = opened_err g.D.Disk.state c.args.config.now (g.D.Disk.state c.args.disk) c.in-Ok.repo c.as_made.result c.in-Ok.ensures.opened c.as_made.ensures.disk c.as_made.ensures.other

pub returns-in-Ok-clause-moments : goal.returns-in-Ok-clause-moments
returns-in-Ok-clause-moments g c = λ model images.
    subst (λ d. LeavesOnly (g.D.Disk.state c.args.disk) (g.D.Disk.state d) (λ f. IsFileOf f (alone c.args.config.now))) (sym c.as_made.ensures.disk)
    (stays_alone (alone c.args.config.now) (g.D.Disk.state c.args.disk) (g.D.Disk.state c.in-Ok.repo.disk) (c.in-Ok.ensures.any_moment model) images)

pub returns-in-Ok-clause-keeps : goal.returns-in-Ok-clause-keeps
returns-in-Ok-clause-keeps g c = subst (λ d. Keeps (g.D.Disk.state c.args.disk) (g.D.Disk.state d)) (sym c.as_made.ensures.disk) c.in-Ok.ensures.keeps

pub returns-in-Err-clause-fault : goal.returns-in-Err-clause-fault
returns-in-Err-clause-fault g c =
    subst (λ (w : PullFault). IsUnopened c.args.config.now (g.D.Disk.state c.args.disk) (g.D.Disk.state c.in-Err.disk) w) (sym c.opening_fault.ensures)
    (unopened c.args.config.now (g.D.Disk.state c.args.disk) (g.D.Disk.state c.in-Err.disk) c.in-Err.fault c.in-Err.ensures.fault)

pub returns-in-Err-clause-moments : goal.returns-in-Err-clause-moments
returns-in-Err-clause-moments g c = λ model images. stays_alone (alone c.args.config.now) (g.D.Disk.state c.args.disk) (g.D.Disk.state c.in-Err.disk) (c.in-Err.ensures.any_moment model) images
