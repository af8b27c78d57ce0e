use Rattle.std.proofs.Common.{Option, List, ℕ, refl, sym, subst, inr}
use Rattle.fsl_pull.specs.Calls.{IsLocalFault}
use Rattle.fsl_pull.specs.Reads.{IsGiven, IsPublicRead}
use Rattle.fsl_pull.proofs.LocalTaken.{one_taken, one_wrong}
use Rattle.fsl_pull.proofs.GivenLemmas.{given_refused, failed_is_local}
use Rattle.fsl_pull.proofs.local.take_given.Goals as goal

pub returns-in-Err-clause-taken : goal.returns-in-Err-clause-taken
returns-in-Err-clause-taken g c = inr (c.in-Err.fault, refl, c.in-Err.ensures.fault, refl)

pub returns-in-Err-clause-faults : goal.returns-in-Err-clause-faults
returns-in-Err-clause-faults g c = failed_is_local c.in-Err.fault c.args.peer.now.seen.state c.args.name c.read_public.new.repo.seen.state c.in-Err.ensures.fault

pub returns-in-Ok-clause-taken : goal.returns-in-Ok-clause-taken
returns-in-Ok-clause-taken g c =
    one_taken c.args.peer.now.seen.state c.args.name c.in-Ok-Some.bytes c.bytes-2.result.now c.args.repo.now.seen c.take_file.new.repo.seen c.in-Ok.arrival c.moves.result c.read_public.new.repo.seen.state
    (subst (λ (o : Option (List ℕ)). IsPublicRead c.args.peer.now.seen.state c.args.name o) c.in-Ok-Some.field-0-is c.in-Ok-Some.ensures.read) c.bytes-2.ensures c.moves.ensures c.in-Ok.ensures.arrived c.in-Ok-Some.ensures.count

pub returns-clause-taken : goal.returns-clause-taken
returns-clause-taken g c =
    one_wrong c.args.peer.now.seen.state c.args.name c.in-Ok-Some.bytes c.bytes-2.result.now c.args.repo.now.seen c.take_file.new.repo.seen c.in-Err-take_file.fault c.file_fault.result c.read_public.new.repo.seen.state
    (subst (λ (o : Option (List ℕ)). IsPublicRead c.args.peer.now.seen.state c.args.name o) c.in-Ok-Some.field-0-is c.in-Ok-Some.ensures.read) c.bytes-2.ensures c.file_fault.ensures c.in-Err-take_file.ensures.arrived c.in-Ok-Some.ensures.count

pub returns-clause-faults : goal.returns-clause-faults
returns-clause-faults g c =
    let read = subst (λ (o : Option (List ℕ)). IsPublicRead c.args.peer.now.seen.state c.args.name o) c.in-Ok-Some.field-0-is c.in-Ok-Some.ensures.read in
    subst IsLocalFault (sym c.file_fault.ensures)
    (given_refused c.args.repo.now.seen c.take_file.new.repo.seen c.args.name c.bytes-2.result.now c.in-Err-take_file.fault (subst (IsGiven c.args.name) (sym c.bytes-2.ensures) read.fits) c.in-Err-take_file.ensures.arrived)
