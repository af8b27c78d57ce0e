use Rattle.std.proofs.Common.{ap, subst, sym}
use Rattle.fsl_blobs.specs.Fold.{contents}
use Rattle.fsl_blobs.specs.Seen.{Seen}
use Rattle.fsl_repo.specs.Machine.{AreItems}
use Rattle.fsl_repo.specs.Opening.{records_in, starts_in}
use Rattle.fsl_repo.proofs.Gathers.{gathered_none}
use Rattle.fsl_repo.proofs.Openings.{file_opened, memory_failed, open_failed}
use Rattle.fsl_repo.proofs.opening.artifacts_of_file.Goals as goal

pub load_into-requires : goal.load_into-requires
load_into-requires g c =
    let nothing = c.nothing-gathered.ensures.blobs in record {
      taken = (ap records_in nothing, ap starts_in nothing);
      sound = gathered_none c.nothing-gathered.result.blobs c.nothing-gathered.result.artifacts.items nothing c.nothing-gathered.ensures.artifacts;
    }

pub returns-in-Ok-held-clause-opened : goal.returns-in-Ok-held-clause-opened
returns-in-Ok-held-clause-opened g c =
    let taken = c.load_into.new.taker.blobs in
    let is = c.in-Ok.ensures in
    file_opened (g.D.Disk.state c.args.disk.now) (g.D.Disk.state c.load_into.new.disk) c.in-Ok.journal (records_in taken) (starts_in taken) c.in-Ok-held.blobs is.loaded is.places.0 c.in-Ok-held.ensures.held
    is.stands is.numbered is.cut is.count is.belongs is.between is.durable

pub returns-in-Ok-held-clause-items : goal.returns-in-Ok-held-clause-items
returns-in-Ok-held-clause-items g c =
    let same = ap (λ (b : Seen). b.records) c.in-Ok-held.ensures.held in
    (subst (λ rs. AreItems (contents rs).held c.in-Ok-held.items) (sym same) c.in-Ok-held.ensures.items, c.in-Ok-held.ensures.kinds)

pub returns-in-Ok-held-clause-file : goal.returns-in-Ok-held-clause-file
returns-in-Ok-held-clause-file g c = let is = c.in-Ok.ensures in record { keeps = is.keeps; refused = is.refused; harmless = is.harmless; spared = is.spared; any_moment = is.any_moment }

pub returns-in-Err-held-clause-file : goal.returns-in-Err-held-clause-file
returns-in-Err-held-clause-file g c = let is = c.in-Ok.ensures in record { keeps = is.keeps; refused = is.refused; harmless = is.harmless; spared = is.spared; any_moment = is.any_moment }

pub returns-in-Err-held-clause-fault : goal.returns-in-Err-held-clause-fault
returns-in-Err-held-clause-fault g c =
    let is = c.in-Ok.ensures in
    memory_failed c.in-Ok.journal (records_in c.load_into.new.taker.blobs) (g.D.Disk.state c.args.disk.now) (g.D.Disk.state c.load_into.new.disk) is.loaded is.belongs is.stands is.cut is.count

pub returns-in-Err-clause-file : goal.returns-in-Err-clause-file
returns-in-Err-clause-file g c = let is = c.in-Err.ensures in record { keeps = is.keeps; refused = is.refused; harmless = is.harmless; spared = is.spared; any_moment = is.any_moment }

pub returns-in-Err-clause-fault : goal.returns-in-Err-clause-fault
returns-in-Err-clause-fault g c = open_failed c.in-Err.fault _ _ c.in-Err.ensures.fault
