use Rattle.std.proofs.Common.{length, inr, Err, subst}
use Rattle.fsl_uv.specs.declared.ApplyFault.{ApplyFault}
use Rattle.fsl_uv.specs.Stores.{IsApplied}
use Rattle.fsl_uv.proofs.Exchanges.{took, lost, too-full, stays}
use Rattle.fsl_uv.proofs.exchanging.take.Goals as goal

pub returns-in-Ok-commit : goal.returns-in-Ok-commit
returns-in-Ok-commit g c = λ cards is.
    took g.D.Disk.state c.args.store.now c.apply.new.self c.commit.new.self c.args.message.now cards c.in-Ok.count c.requires.settled is c.in-Ok.ensures.applied c.apply.ensures.disk
    c.commit.ensures.map c.commit.ensures.config c.commit.ensures.keeps c.commit.ensures.any_moment c.in-Ok-commit.field-0 c.in-Ok-commit.ensures.ok c.in-Ok-commit.ensures.durable
    c.in-Ok-commit.ensures.written (λ all. c.commit.ensures.idle (inr all))

pub returns-in-Err-commit : goal.returns-in-Err-commit
returns-in-Err-commit g c = λ cards is.
    lost g.D.Disk.state c.args.store.now c.apply.new.self c.commit.new.self c.args.message.now cards c.in-Ok.count c.requires.settled is c.in-Ok.ensures.applied c.apply.ensures.disk
    c.commit.ensures.map c.commit.ensures.config c.commit.ensures.keeps c.commit.ensures.any_moment c.in-Err-commit.field-0 (length c.apply.new.self.seen.log.records) c.commit.result c.in-Err-commit.is
    c.commit.ensures.nothing c.in-Err-commit.ensures.fault

pub returns-in-Err-Full : goal.returns-in-Err-Full
returns-in-Err-Full g c = λ cards is.
    too-full g.D.Disk.state c.args.store.now c.apply.new.self c.args.message.now c.apply.ensures.disk cards is c.in-Err-Full.field-0-0 c.in-Err-Full.field-0-1
    (subst (λ (f : ApplyFault). IsApplied c.args.store.now.seen c.args.message.now (Err f) c.apply.new.self.seen) c.in-Err-Full.field-0-is c.in-Err-Full.ensures.applied)

pub returns-in-Err : goal.returns-in-Err
returns-in-Err g c = λ cards is. stays g.D.Disk.state c.args.store.now c.apply.new.self c.args.message.now c.apply.ensures.disk c.in-Err.field-0 c.in-Err.ensures.applied
