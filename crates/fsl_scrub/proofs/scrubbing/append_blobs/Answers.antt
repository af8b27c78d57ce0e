use Rattle.std.proofs.Common.{◌++◌, Ok, Err, refl, subst, take}
use Rattle.fsl_repo.specs.Machine.{State, now}
use Rattle.fsl_scrub.specs.Copying.{WritesRecords, blob_now, blobs_now}
use Rattle.fsl_scrub.proofs.GrowingLemmas.{end_of}
use Rattle.fsl_scrub.proofs.HeldFit.{blobs_more}
use Rattle.fsl_scrub.proofs.ReadLemmas.{reads_then}
use Rattle.fsl_scrub.proofs.WrittenLemmas.{fault_written, more_written}
use Rattle.fsl_scrub.proofs.scrubbing.append_blobs.Goals as goal

pub append_blob-requires : goal.append_blob-requires
append_blob-requires g c = end_of c.args.at c.loop-placed.end _ _ _ c.requires c.loop-placed.invariant.1.2

pub loop-placed-preserved : goal.loop-placed-preserved
loop-placed-preserved g c =
    let s = c.args.repo.now.seen.state in
    let name = c.placed-item.result.name in
    let before = g.P.Disk.state c.loop-placed.spare in
    let after = g.P.Disk.state c.append_blob.new.spare in
    let one =
    subst (λ (t : State). WritesRecords t (blob_now t name) c.loop-placed.end before after (Ok c.in_ok-end.end)) c.loop-placed.invariant.0.same (rw c.in_ok-end.was at c.append_blob.ensures.writes) in (
      reads_then (g.D.Disk.state c.args.repo.now.disk) (g.D.Disk.state c.loop-placed.repo.disk) (g.D.Disk.state c.append_blob.new.repo.disk) c.args.repo.now c.loop-placed.repo c.append_blob.new.repo c.loop-placed.end _
          c.loop-placed.invariant.0 (rw c.in_ok-end.was at c.append_blob.ensures.reads),
      more_written s _ (blob_now s name) _ c.args.at c.loop-placed.end (g.P.Disk.state c.args.spare.now) before after _
          (blobs_more (now s) c.args.names.now c.loop-placed.placed-index c.placed-item.result c.loop-placed-test.true c.placed-item.is) c.loop-placed.invariant.1 one,
    )

pub returns-in_err-end-clause-writes : goal.returns-in_err-end-clause-writes
returns-in_err-end-clause-writes g c =
    let s = c.args.repo.now.seen.state in
    let name = c.placed-item.result.name in
    let first = g.P.Disk.state c.args.spare.now in
    let before = g.P.Disk.state c.loop-placed.spare in
    let after = g.P.Disk.state c.append_blob.new.spare in
    let far = blobs_now s (take c.loop-placed.placed-index c.args.names.now) in
    let one =
    subst (λ (t : State). WritesRecords t (blob_now t name) c.loop-placed.end before after (Err c.in_err-end.field-0.0)) c.loop-placed.invariant.0.same (rw c.in_err-end.was at c.append_blob.ensures.writes) in
    fault_written s (far ++ blob_now s name) (blobs_now s c.args.names.now) c.args.at first after c.in_err-end.field-0.0 c.from_residual.result
    (more_written s far (blob_now s name) (far ++ blob_now s name) c.args.at c.loop-placed.end first before after (Err c.in_err-end.field-0.0) refl c.loop-placed.invariant.1 one) c.from_residual.ensures.1
