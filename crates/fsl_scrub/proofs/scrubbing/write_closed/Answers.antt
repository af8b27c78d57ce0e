use Rattle.std.proofs.Common.{◌∷◌, ◌++◌, [], Some, ap, refl, ◌∙◌, arith}
use Rattle.fsl_disk.proofs.Moments.{keeps_on}
use Rattle.fsl_journal.specs.Create.{new_file}
use Rattle.fsl_record.specs.Records.{records_bytes}
use Rattle.fsl_scrub.specs.Copying.{group_now}
use Rattle.fsl_scrub.specs.declared.faults.WriteFault.TheVariants as write_fault
use Rattle.fsl_scrub.proofs.ClosingLemmas.{closed_fault, closed_is, group_moments, header_ends, length_closed, length_each, length_moments, length_unsized, short_moments, unsized_parts}
use Rattle.fsl_scrub.proofs.GrowingLemmas.{end_of, fails_before}
use Rattle.fsl_scrub.proofs.ReadLemmas.{own_fault, reads_err, reads_fault, reads_spare}
use Rattle.fsl_scrub.proofs.WrittenLemmas.{all_same}
use Rattle.fsl_scrub.proofs.scrubbing.write_closed.Goals as goal

pub append_group-requires : goal.append_group-requires
append_group-requires g c =
    header_ends (g.P.Disk.state c.args.spare.now) (g.P.Disk.state c.write_header.new.spare) c.write_header.ensures.keeps c.in_ok-write_header.ensures.contents c.in_ok-write_header.ensures.durable c.write_header.ensures.any_moment

pub returns-in_err-write_header-clause-closes : goal.returns-in_err-write_header-clause-closes
returns-in_err-write_header-clause-closes g c =
    let s0 = g.P.Disk.state c.args.spare.now in
    let s1 = g.P.Disk.state c.write_header.new.spare in
    let s = c.args.repo.now.seen.state in
    let due = group_now s c.args.names.now c.args.shuns.now in (
      due,
      all_same s.honest due,
      closed_fault due s0 s1 write_fault.Unwritten c.from_residual.result c.write_header.ensures.keeps c.from_residual.ensures.1 (short_moments s0 s1 c.write_header.ensures.any_moment)
          c.in_err-write_header.ensures.cause.later c.in_err-write_header.ensures.cause.failed,
    )

pub returns-in_err-write_header-clause-reads : goal.returns-in_err-write_header-clause-reads
returns-in_err-write_header-clause-reads g c = reads_err (g.D.Disk.state c.args.repo.now.disk) c.args.repo.now write_fault.Unwritten c.from_residual.result c.from_residual.ensures.1 refl

pub returns-in_err-end-clause-closes : goal.returns-in_err-end-clause-closes
returns-in_err-end-clause-closes g c =
    let s0 = g.P.Disk.state c.args.spare.now in
    let s1 = g.P.Disk.state c.write_header.new.spare in
    let s2 = g.P.Disk.state c.append_group.new.spare in
    let h = c.in_ok-write_header.ensures in
    let w = (rw c.in_err-end.was at c.append_group.ensures.writes).2 in
    let s = c.args.repo.now.seen.state in
    let due = group_now s c.args.names.now c.args.shuns.now in (
      due,
      all_same s.honest due,
      closed_fault due s0 s2 _ c.from_residual-in_err-end.result (keeps_on s0 s1 s2 c.write_header.ensures.keeps w.grows.keeps) c.from_residual-in_err-end.ensures.1
          (group_moments s0 s1 c.write_header.ensures.keeps h.contents h.durable c.write_header.ensures.any_moment s2 w.grows)
          (omega (arith, h.cause.same, w.later)) (fails_before _ s0.faults s1.faults s2.faults h.cause.same w.failed),
    )

pub returns-in_err-end-clause-reads : goal.returns-in_err-end-clause-reads
returns-in_err-end-clause-reads g c =
    reads_fault (g.D.Disk.state c.args.repo.now.disk) (g.D.Disk.state c.append_group.new.repo.disk) c.args.repo.now c.append_group.new.repo _ c.from_residual-in_err-end.result (rw c.in_err-end.was at c.append_group.ensures.reads)
    c.from_residual-in_err-end.ensures.1

pub overflow_sub-end : goal.overflow_sub-end
overflow_sub-end g c =
    let w = rw c.in_ok-end.was at c.append_group.ensures.writes in
    omega (arith, w.2.next, length_unsized w.0)

pub write_length-requires : goal.write_length-requires
write_length-requires g c = λ held told.
    let s1 = g.P.Disk.state c.write_header.new.spare in
    let s2 = g.P.Disk.state c.append_group.new.spare in
    let h = c.in_ok-write_header.ensures in
    let w = (rw c.in_ok-end.was at c.append_group.ensures.writes).2 in
    let ends = header_ends (g.P.Disk.state c.args.spare.now) s1 c.write_header.ensures.keeps h.contents h.durable c.write_header.ensures.any_moment in
    omega (arith, w.next, end_of 16 c.in_ok-end.end _ s1 s2 ends w held told)

pub returns-in_err-write_length-clause-closes : goal.returns-in_err-write_length-clause-closes
returns-in_err-write_length-clause-closes g c =
    let s0 = g.P.Disk.state c.args.spare.now in
    let s1 = g.P.Disk.state c.write_header.new.spare in
    let s2 = g.P.Disk.state c.append_group.new.spare in
    let s3 = g.P.Disk.state c.write_length.new.spare in
    let h = c.in_ok-write_header.ensures in
    let w = (rw c.in_ok-end.was at c.append_group.ensures.writes).2 in
    let failed = c.in_err-write_length.ensures.cause in
    let s = c.args.repo.now.seen.state in
    let due = group_now s c.args.names.now c.args.shuns.now in (
      due,
      all_same s.honest due,
      closed_fault due s0 s3 write_fault.Unwritten c.from_residual-in_err-write_length.result
          (keeps_on s0 s2 s3 (keeps_on s0 s1 s2 c.write_header.ensures.keeps w.grows.keeps) c.write_length.ensures.grows.keeps) c.from_residual-in_err-write_length.ensures.1
          (length_moments s0 s1 c.write_header.ensures.keeps h.contents h.durable c.write_header.ensures.any_moment s2 w.grows s3 c.write_length.ensures.grows)
          (omega (arith, h.cause.same, w.same, failed.later)) (fails_before write_fault.Unwritten s0.faults s2.faults s3.faults (w.same ∙ h.cause.same) failed.failed),
    )

pub returns-in_err-write_length-clause-reads : goal.returns-in_err-write_length-clause-reads
returns-in_err-write_length-clause-reads g c =
    let r = c.from_residual-in_err-write_length.result in
    reads_spare (g.D.Disk.state c.args.repo.now.disk) (g.D.Disk.state c.append_group.new.repo.disk) c.args.repo.now c.append_group.new.repo c.in_ok-end.end r (rw c.in_ok-end.was at c.append_group.ensures.reads)
    (own_fault write_fault.Unwritten r c.from_residual-in_err-write_length.ensures.1 tt)

pub returns-clause-closes : goal.returns-clause-closes
returns-clause-closes g c =
    let s0 = g.P.Disk.state c.args.spare.now in
    let s1 = g.P.Disk.state c.write_header.new.spare in
    let s2 = g.P.Disk.state c.append_group.new.spare in
    let s3 = g.P.Disk.state c.write_length.new.spare in
    let h = c.in_ok-write_header.ensures in
    let l = c.in_ok-write_length.ensures in
    let all = rw c.in_ok-end.was at c.append_group.ensures.writes in
    let group = all.0 in
    let w = all.2 in
    let size = length_unsized group in (
      group,
      all.1,
      record {
        keeps = keeps_on s0 s2 s3 (keeps_on s0 s1 s2 c.write_header.ensures.keeps w.grows.keeps) c.write_length.ensures.grows.keeps;
        contents = λ held told.
            l.contents (0 ∷ 0 ∷ 0 ∷ 0 ∷ 0 ∷ 0 ∷ 0 ∷ 0 ∷ []) (records_bytes group ++ 67 ∷ []) refl (w.longer new_file (h.contents held told) ∙ ap Some (unsized_parts group))
            ∙ ap Some (closed_is group _ (omega (arith, w.next, size)));
        begins = length_each s0 s1 c.write_header.ensures.keeps h.contents h.durable c.write_header.ensures.any_moment s2 w.grows s3 c.write_length.ensures.grows;
        moments = length_moments s0 s1 c.write_header.ensures.keeps h.contents h.durable c.write_header.ensures.any_moment s2 w.grows s3 c.write_length.ensures.grows;
        len = omega (arith, w.next, size, length_closed group);
        later = omega (arith, h.cause.same, w.same, l.cause.same);
        same = l.cause.same ∙ w.same ∙ h.cause.same;
        failed = tt;
      },
    )

pub returns-clause-reads : goal.returns-clause-reads
returns-clause-reads g c = rw c.in_ok-end.was at c.append_group.ensures.reads
