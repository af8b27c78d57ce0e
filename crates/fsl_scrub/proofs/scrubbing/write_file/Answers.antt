use Rattle.std.proofs.Common.{◌<◌, ℕ, List, Some, ap, inl, length, subst, sym, ◌∙◌, arith, rules}
use Rattle.std.specs.Prelude.{◌^◌}
use Rattle.fsl_disk.specs.Disk.{Only}
use Rattle.fsl_disk.proofs.Moments.{keeps_on, told_before, told_contents, weaker}
use Rattle.fsl_journal.specs.Commit.{body_of}
use Rattle.fsl_record.specs.Records.{records_bytes}
use Rattle.fsl_scrub.specs.Closing.{IsUnopened, UnopenedOr}
use Rattle.fsl_scrub.specs.declared.faults.WriteFault.TheVariants as write_fault
use Rattle.fsl_scrub.proofs.ClosingLemmas.{file_fault, length_closed, length_file, opened_moments, whole_is}
use Rattle.fsl_scrub.proofs.GrowingLemmas.{fails_before}
use Rattle.fsl_scrub.proofs.Opening.{some_same}
use Rattle.fsl_scrub.proofs.ReadLemmas.{own_fault, reads_fault, reads_spare}
use Rattle.fsl_scrub.proofs.scrubbing.write_file.Goals as goal

pub returns-in_err-end-clause-writes : goal.returns-in_err-end-clause-writes
returns-in_err-end-clause-writes g c =
    let s0 = g.P.Disk.state c.args.spare.now in
    let s1 = g.P.Disk.state c.write_closed.new.spare in
    let all = rw c.in_err-end.was at c.write_closed.ensures.closes in
    let group = all.0 in
    let w = all.2 in (
      group,
      all.1,
      file_fault group s0 s1 _ c.from_residual.result w.keeps c.from_residual.ensures.1 (λ modelled empty. weaker s0 s1 IsUnopened (UnopenedOr group) (λ f u. inl u) (w.moments modelled empty)) w.later w.failed,
    )

pub returns-in_err-end-clause-reads : goal.returns-in_err-end-clause-reads
returns-in_err-end-clause-reads g c =
    reads_fault (g.D.Disk.state c.args.repo.now.disk) (g.D.Disk.state c.write_closed.new.repo.disk) c.args.repo.now c.write_closed.new.repo _ c.from_residual.result (rw c.in_err-end.was at c.write_closed.ensures.reads)
    c.from_residual.ensures.1

pub open_gate-requires : goal.open_gate-requires
open_gate-requires g c = λ held told.
    let s0 = g.P.Disk.state c.args.spare.now in
    let s1 = g.P.Disk.state c.write_closed.new.spare in
    let all = rw c.in_ok-end.was at c.write_closed.ensures.closes in
    let w = all.2 in
    let before = told_before s0 s1 held w.keeps told in
    omega (arith, ap length (some_same (sym told ∙ w.contents before.0 before.1)), length_closed all.0)

pub returns-in_err-open_gate-clause-writes : goal.returns-in_err-open_gate-clause-writes
returns-in_err-open_gate-clause-writes g c =
    let small : c.in_ok-end.end < 2 ^ 64 = search rules in
    let s0 = g.P.Disk.state c.args.spare.now in
    let s1 = g.P.Disk.state c.write_closed.new.spare in
    let s2 = g.P.Disk.state c.open_gate.new.spare in
    let all = rw c.in_ok-end.was at c.write_closed.ensures.closes in
    let group = all.0 in
    let w = all.2 in
    let o = c.open_gate.ensures in
    let failed = rw c.in_err-open_gate.was at c.open_gate.ensures in (
      group,
      all.1,
      file_fault group s0 s2 write_fault.Unwritten c.from_residual-in_err-open_gate.result (keeps_on s0 s1 s2 w.keeps o.keeps) c.from_residual-in_err-open_gate.ensures.1
          (opened_moments group c.in_ok-end.end s0 s1 s2 w small o.moments) (omega (arith, w.same, failed.cause.later))
          (fails_before write_fault.Unwritten s0.faults s1.faults s2.faults w.same failed.cause.failed),
    )

pub returns-in_err-open_gate-clause-reads : goal.returns-in_err-open_gate-clause-reads
returns-in_err-open_gate-clause-reads g c =
    let r = c.from_residual-in_err-open_gate.result in
    reads_spare (g.D.Disk.state c.args.repo.now.disk) (g.D.Disk.state c.write_closed.new.repo.disk) c.args.repo.now c.write_closed.new.repo c.in_ok-end.end r (rw c.in_ok-end.was at c.write_closed.ensures.reads)
    (own_fault write_fault.Unwritten r c.from_residual-in_err-open_gate.ensures.1 tt)

pub returns-clause-writes : goal.returns-clause-writes
returns-clause-writes g c =
    let small : c.in_ok-end.end < 2 ^ 64 = search rules in
    let s0 = g.P.Disk.state c.args.spare.now in
    let s1 = g.P.Disk.state c.write_closed.new.spare in
    let s2 = g.P.Disk.state c.open_gate.new.spare in
    let all = rw c.in_ok-end.was at c.write_closed.ensures.closes in
    let group = all.0 in
    let body : List ℕ = body_of (records_bytes group) in
    let w = all.2 in
    let o = rw c.in_ok-open_gate.was at c.open_gate.ensures in (
      group,
      all.1,
      record {
        keeps = keeps_on s0 s1 s2 w.keeps o.keeps;
        contents = λ held told. o.contents body (w.contents held told) ∙ ap Some (whole_is group);
        durable = λ modelled.
            let told = told_contents s0 modelled in
            subst (λ (f : List ℕ). Only f s2.images) (whole_is group) (o.durable (w.keeps.model ∙ modelled.model) body (w.contents told.0 told.1));
        moments = opened_moments group c.in_ok-end.end s0 s1 s2 w small o.moments;
        len = w.len ∙ length_file group;
        later = omega (arith, w.same, o.cause.same);
        same = o.cause.same ∙ w.same;
        failed = tt;
      },
    )

pub returns-clause-reads : goal.returns-clause-reads
returns-clause-reads g c = rw c.in_ok-end.was at c.write_closed.ensures.reads
