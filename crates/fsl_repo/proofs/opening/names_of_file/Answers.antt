use Rattle.std.proofs.Common.{ap}
use Rattle.fsl_repo.specs.Opening.{records_in, starts_in}
use Rattle.fsl_repo.proofs.Gathers.{fresh_none}
use Rattle.fsl_repo.proofs.Openings.{file_opened, open_failed}
use Rattle.fsl_repo.proofs.opening.names_of_file.Goals as goal

pub load_into-requires : goal.load_into-requires
load_into-requires g c =
    let nothing = c.nothing-named.ensures in record {
      taken = (ap records_in nothing, ap starts_in nothing);
      sound = fresh_none c.nothing-named.result.blobs nothing;
    }

pub returns-in-Ok-clause-opened : goal.returns-in-Ok-clause-opened
returns-in-Ok-clause-opened g c =
    let taken = c.load_into.new.taker.blobs in
    let is = c.in-Ok.ensures in
    file_opened (g.D.Disk.state c.args.disk.now) (g.D.Disk.state c.load_into.new.disk) c.in-Ok.journal (records_in taken) (starts_in taken) c.blobs.result is.loaded is.places.0 c.blobs.ensures is.stands is.numbered
    is.cut is.count is.belongs is.between is.durable

pub returns-in-Err-clause-fault : goal.returns-in-Err-clause-fault
returns-in-Err-clause-fault g c = open_failed c.in-Err.fault _ _ c.in-Err.ensures.fault

pub returns-in-Ok-clause-file : goal.returns-in-Ok-clause-file
returns-in-Ok-clause-file g c = let is = c.in-Ok.ensures in record { keeps = is.keeps; refused = is.refused; harmless = is.harmless; spared = is.spared; any_moment = is.any_moment }

pub returns-in-Err-clause-file : goal.returns-in-Err-clause-file
returns-in-Err-clause-file g c = let is = c.in-Err.ensures in record { keeps = is.keeps; refused = is.refused; harmless = is.harmless; spared = is.spared; any_moment = is.any_moment }
