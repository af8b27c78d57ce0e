use Rattle.std.proofs.Common.{length, refl, arith}
use Rattle.fsl_scrub.specs.declared.faults.WriteFault.TheVariants as write_fault
use Rattle.fsl_scrub.proofs.GrowingLemmas.{failed_write, grown_by, wrote}
use Rattle.fsl_scrub.proofs.growing.append.Goals as goal

pub write_at-requires : goal.write_at-requires
write_at-requires g c = λ held told. omega (arith, c.requires held told)

pub returns-in_err-write_at-clause-writes : goal.returns-in_err-write_at-clause-writes
returns-in_err-write_at-clause-writes g c =
    let s0 = g.P.Disk.state c.args.spare.now in
    let s1 = g.P.Disk.state c.write_at.new.self in
    failed_write c.args.at c.args.bytes.now s0 s1 write_fault.Unwritten c.from_residual.result
    (grown_by c.args.at (length c.args.bytes.now) s0 s1 (λ f model left. g.met.P.Disk.only_now c.args.spare.now f model left) c.write_at.ensures.call)
    c.from_residual.ensures.1 c.in_err-write_at.ensures.cause.later c.in_err-write_at.ensures.cause.failed

pub returns-clause-writes : goal.returns-clause-writes
returns-clause-writes g c =
    let s0 = g.P.Disk.state c.args.spare.now in
    let s1 = g.P.Disk.state c.write_at.new.self in
    wrote c.args.at _ c.args.bytes.now s0 s1
    (grown_by c.args.at (length c.args.bytes.now) s0 s1 (λ f model left. g.met.P.Disk.only_now c.args.spare.now f model left) c.write_at.ensures.call)
    c.requires c.in_ok-write_at.ensures.written refl c.in_ok-write_at.ensures.cause.same
