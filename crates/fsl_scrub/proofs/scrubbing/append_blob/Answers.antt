use Rattle.fsl_scrub.specs.Copying.{blob_now}
use Rattle.fsl_scrub.proofs.GrowingLemmas.{read_spares, unwritten_by}
use Rattle.fsl_scrub.proofs.ReadLemmas.{reads_fault, reads_spare}
use Rattle.fsl_scrub.proofs.WrittenLemmas.{all_same, one_written}
use Rattle.fsl_scrub.proofs.scrubbing.append_blob.Goals as goal

pub returns-in_err-entry-clause-writes : goal.returns-in_err-entry-clause-writes
returns-in_err-entry-clause-writes g c =
    let s = c.args.repo.now.seen.state in
    let disk = g.P.Disk.state c.args.spare.now in (
      blob_now s c.args.name,
      all_same s.honest (blob_now s c.args.name),
      unwritten_by c.args.at _ disk _ c.from_residual.result (λ f model left. g.met.P.Disk.only_now c.args.spare.now f model left) c.from_residual.ensures.1 (read_spares _ disk.faults c.in_err-entry.ensures.own),
    )

pub returns-in_err-entry-clause-reads : goal.returns-in_err-entry-clause-reads
returns-in_err-entry-clause-reads g c =
    reads_fault (g.D.Disk.state c.args.repo.now.disk) (g.D.Disk.state c.blob_at.new.repo.disk) c.args.repo.now c.blob_at.new.repo _ c.from_residual.result (rw c.in_err-entry.was at c.blob_at.ensures.reads) c.from_residual.ensures.1

pub returns-clause-writes : goal.returns-clause-writes
returns-clause-writes g c =
    one_written c.args.repo.now.seen.state c.args.name c.in_ok-entry.entry c.args.at (g.P.Disk.state c.args.spare.now) (g.P.Disk.state c.append_record.new.spare) c.append_record.result c.in_ok-entry.ensures.blob c.append_record.ensures.writes

pub returns-clause-reads : goal.returns-clause-reads
returns-clause-reads g c =
    reads_spare (g.D.Disk.state c.args.repo.now.disk) (g.D.Disk.state c.blob_at.new.repo.disk) c.args.repo.now c.blob_at.new.repo _ c.append_record.result (rw c.in_ok-entry.was at c.blob_at.ensures.reads) c.append_record.ensures.own
