use Rattle.std.proofs.Common.{◌∷◌, [], sym, subst}
use Rattle.fsl_repo.specs.Sending.{FilesFail}
use Rattle.fsl_repo.proofs.FileReads.{file_fails}
use Rattle.fsl_repo.proofs.repo.Repo.read_file.Goals as goal

pub returns-in-Err-clause-fault : goal.returns-in-Err-clause-fault
returns-in-Err-clause-fault g c =
    subst (λ f. FilesFail f (c.args.due.now.name ∷ []) c.args.self.now.seen.state c.content.new.self.seen.state.faults) (sym c.build_fault.ensures)
    (file_fails c.in-Err.fault c.args.self.now.seen.state c.content.new.self.seen.state c.args.due.now.name c.in-Err.ensures.fault)
