use Rattle.std.proofs.Common.{ap, subst, sym}
use Rattle.fsl_journal.specs.Log.{IsBetween}
use Rattle.fsl_repo.specs.Opening.{records_in, starts_in}
use Rattle.fsl_repo.proofs.Gathers.{gathered_none}
use Rattle.fsl_repo.proofs.Openings.{is_opened, kept_of, memory_failed, open_failed}
use Rattle.fsl_repo.proofs.repo.Repo.load.Goals as goal

pub load_into-requires : goal.load_into-requires
load_into-requires g c =
    let nothing = c.nothing-gathered.ensures.blobs in record {
      taken = (ap records_in nothing, ap starts_in nothing);
      sound = gathered_none c.nothing-gathered.result.blobs c.nothing-gathered.result.artifacts.items nothing c.nothing-gathered.ensures.artifacts;
    }

pub invariant_of-result : goal.invariant_of-result
invariant_of-result g c =
    let gathered = c.load_into.new.taker.blobs in
    kept_of c.in-Ok.journal (starts_in gathered) (records_in gathered) c.in-Ok-derived.blobs c.in-Ok-derived.tables c.count-loaded.result (g.D.Disk.state c.load_into.new.disk)
    c.in-Ok.ensures.loaded c.in-Ok.ensures.places.0 c.in-Ok.ensures.belongs c.in-Ok-derived.ensures c.count-loaded.ensures

pub returns-in-Ok-derived-clause-opened : goal.returns-in-Ok-derived-clause-opened
returns-in-Ok-derived-clause-opened g c =
    let is = c.in-Ok.ensures in
    let gathered = c.load_into.new.taker.blobs in
    is_opened g.D.Disk.state (g.D.Disk.state c.args.disk) c.load_into.new.disk c.in-Ok.journal (records_in gathered) (starts_in gathered) c.in-Ok-derived.blobs c.in-Ok-derived.tables c.count-loaded.result
    is.loaded c.in-Ok-derived.ensures c.count-loaded.ensures is.stands is.cut is.count c.load_into.ensures.keeps

pub returns-in-Ok-derived-clause-between : goal.returns-in-Ok-derived-clause-between
returns-in-Ok-derived-clause-between g c modelled low high images =
    subst (IsBetween low high) (sym c.in-Ok.ensures.loaded.records) (c.in-Ok.ensures.between modelled low high images)

pub returns-in-Err-derived-clause-fault : goal.returns-in-Err-derived-clause-fault
returns-in-Err-derived-clause-fault g c =
    let is = c.in-Ok.ensures in
    memory_failed c.in-Ok.journal (records_in c.load_into.new.taker.blobs) (g.D.Disk.state c.args.disk) (g.D.Disk.state c.load_into.new.disk) is.loaded is.belongs is.stands is.cut is.count

pub returns-in-Err-clause-fault : goal.returns-in-Err-clause-fault
returns-in-Err-clause-fault g c = open_failed c.in-Err.fault _ _ c.in-Err.ensures.fault
