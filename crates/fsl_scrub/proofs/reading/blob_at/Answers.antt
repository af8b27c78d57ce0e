use Rattle.std.proofs.Common.{ap, refl, subst, sym, ◌∙◌}
use Rattle.fsl_repo.specs.Arriving.{is_private}
use Rattle.fsl_scrub.specs.declared.faults.WriteFault.{WriteFault}
use Rattle.fsl_scrub.specs.declared.faults.WriteFault.TheVariants as write_fault
use Rattle.fsl_scrub.specs.Faults.{IsOfRead, ReadFails}
use Rattle.fsl_scrub.proofs.HeldFit.{blob_fit, blob_is, held_fit}
use Rattle.fsl_scrub.proofs.ReadLemmas.{content_own, content_reads, reads_err}
use Rattle.fsl_scrub.proofs.reading.blob_at.Goals as goal

pub returns-in_err-receipt-clause-reads : goal.returns-in_err-receipt-clause-reads
returns-in_err-receipt-clause-reads g c = reads_err (g.D.Disk.state c.args.repo.now.disk) c.args.repo.now write_fault.Memory c.from_residual.result c.from_residual.ensures.1 refl

pub returns-in-Ok-clause-blob : goal.returns-in-Ok-clause-blob
returns-in-Ok-clause-blob g c =
    let s = c.args.repo.now.seen.state in
    blob_is s c.args.name c.in-Ok.bytes c.is_private-private.result c.in_ok-receipt.receipt (held_fit s.records c.is_whole.ensures.seen.records c.args.name) c.in-Ok.ensures.bytes
    (c.is_private-private.ensures ∙ ap is_private c.state.ensures) c.in_ok-receipt.ensures

pub returns-in-Ok-clause-fit : goal.returns-in-Ok-clause-fit
returns-in-Ok-clause-fit g c =
    let s = c.args.repo.now.seen.state in
    blob_fit s c.args.name c.in-Ok.bytes c.is_private-private.result c.in_ok-receipt.receipt (held_fit s.records c.is_whole.ensures.seen.records c.args.name) c.in-Ok.ensures.bytes

pub returns-in-Ok-clause-reads : goal.returns-in-Ok-clause-reads
returns-in-Ok-clause-reads g c = record {
  quiet = c.content.ensures.quiet;
  state = c.content.ensures.state;
  items = c.content.ensures.items;
  loaded = c.content.ensures.loaded;
  log = c.content.ensures.log;
  same = c.in-Ok.ensures.count;
  failed = tt;
}

pub returns-in-Err-clause-own : goal.returns-in-Err-clause-own
returns-in-Err-clause-own g c = subst IsOfRead (sym c.unread.ensures) (content_own c.args.name c.in-Err.fault)

pub returns-in-Err-clause-reads : goal.returns-in-Err-clause-reads
returns-in-Err-clause-reads g c =
    let old = c.args.repo.now.seen.state in
    let new = c.content.new.self.seen.state in
    record {
      quiet = c.content.ensures.quiet;
      state = c.content.ensures.state;
      items = c.content.ensures.items;
      loaded = c.content.ensures.loaded;
      log = c.content.ensures.log;
      same = tt;
      failed = subst (λ (f : WriteFault). ReadFails f old new) (sym c.unread.ensures) (content_reads c.args.name c.in-Err.fault old new c.in-Err.ensures.fault);
    }
