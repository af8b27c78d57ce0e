use Rattle.std.proofs.Common.{refl}
use Rattle.fsl_pull.proofs.TakingLemmas.{file_ok, file_wrong, seqno_ok, other_taken}
use Rattle.fsl_pull.proofs.taking.take_card.Goals as goal

pub returns-in-Ok-clause-taken : goal.returns-in-Ok-clause-taken
returns-in-Ok-clause-taken g c =
    file_ok c.args.repo.now.seen c.take_file.new.repo.seen c.args.from.now c.args.card.now _ _ c.bytes.result.now c.in-Ok.arrival c.moves.result c.in-File.is c.bytes.ensures c.moves.ensures c.in-Ok.ensures.arrived

pub returns-in-Err-clause-taken : goal.returns-in-Err-clause-taken
returns-in-Err-clause-taken g c =
    file_wrong c.args.repo.now.seen c.take_file.new.repo.seen c.args.from.now c.args.card.now _ _ c.bytes.result.now c.in-Err.fault c.file_fault.result c.in-File.is c.bytes.ensures c.file_fault.ensures c.in-Err.ensures.arrived

pub returns-in-Ok-go_on-clause-taken : goal.returns-in-Ok-go_on-clause-taken
returns-in-Ok-go_on-clause-taken g c =
    seqno_ok c.args.repo.now.seen c.args.from.now c.go_on.new.from c.args.card.now _ c.in-CloneSeqno.is c.in-Ok-go_on.ensures

pub returns-in_default : goal.returns-in_default
returns-in_default g c = record {
  taken = other_taken c.args.repo.now.seen c.args.repo.now.seen c.args.from.now c.args.card.now c.in_default.not-File c.in_default.not-CloneSeqno refl refl;
  disk = refl;
}
