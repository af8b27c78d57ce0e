use Rattle.std.proofs.Common.{ℕ, Bool, sym, subst}
use Rattle.std.specs.Prelude.{IfOk}
use Rattle.fsl_disk.proofs.Moments.{keeps_on, modelled_after}
use Rattle.fsl_repo.specs.Whole.{is_modelled}
use Rattle.fsl_pull.specs.declared.PullFault.{PullFault}
use Rattle.fsl_pull.specs.CloneTurns.{IsMadeBy, IsUnmadeBy, made_disk}
use Rattle.fsl_pull.proofs.CloneMaking.{unmade_by, both_moments, uncreated, same_kind}
use Rattle.fsl_pull.proofs.cloning.made.Goals as goal

pub returns-in-Ok-clause-made : goal.returns-in-Ok-clause-made
returns-in-Ok-clause-made g c =
    let s0 = g.D.Disk.state c.args.disk in
    let s1 = g.D.Disk.state c.create.new.disk in
    subst (λ (b : Bool). IfOk c.opened_made.result (λ repo. IsMadeBy c.args.config.now s0.faults b repo.seen)) (same_kind s0 s1 c.create.ensures.keeps)
    (subst (λ (n : ℕ). IfOk c.opened_made.result (λ repo. IsMadeBy c.args.config.now n (is_modelled s1) repo.seen)) c.in-Ok.ensures.made.faults c.opened_made.ensures.opened)

pub returns-in-Ok-clause-fault : goal.returns-in-Ok-clause-fault
returns-in-Ok-clause-fault g c =
    unmade_by g.D.Disk.state c.args.config.now (g.D.Disk.state c.args.disk) (g.D.Disk.state c.create.new.disk) c.in-Ok.ensures.made c.opened_made.result
    (keeps_on (g.D.Disk.state c.args.disk) (g.D.Disk.state c.create.new.disk) (g.D.Disk.state (made_disk c.opened_made.result)) c.create.ensures.keeps c.opened_made.ensures.keeps)
    (λ model. (c.opened_made.ensures.moments (modelled_after (g.D.Disk.state c.args.disk) (g.D.Disk.state c.create.new.disk) c.create.ensures.keeps model) (c.in-Ok.ensures.durable model)).now)
    c.opened_made.ensures.fault

pub returns-in-Ok-clause-moments : goal.returns-in-Ok-clause-moments
returns-in-Ok-clause-moments g c =
    both_moments c.args.config.now (g.D.Disk.state c.args.disk) (g.D.Disk.state c.create.new.disk) (g.D.Disk.state (made_disk c.opened_made.result))
    c.create.ensures.any_moment c.in-Ok.ensures.durable c.create.ensures.keeps c.opened_made.ensures.moments

pub returns-in-Ok-clause-keeps : goal.returns-in-Ok-clause-keeps
returns-in-Ok-clause-keeps g c =
    keeps_on (g.D.Disk.state c.args.disk) (g.D.Disk.state c.create.new.disk) (g.D.Disk.state (made_disk c.opened_made.result)) c.create.ensures.keeps c.opened_made.ensures.keeps

pub returns-in-Err-clause-fault : goal.returns-in-Err-clause-fault
returns-in-Err-clause-fault g c =
    let s0 = g.D.Disk.state c.args.disk in
    let s1 = g.D.Disk.state c.create.new.disk in
    subst (λ (why : PullFault). IsUnmadeBy c.args.config.now s0 s1 why) (sym c.making_fault.ensures) (uncreated c.args.config.now s0 s1 c.requires.empty c.in-Err.fault c.in-Err.ensures.fault)
