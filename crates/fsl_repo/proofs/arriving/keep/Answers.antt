use Rattle.std.proofs.Common.{◌∙◌}
use Rattle.fsl_repo.proofs.Givings.{undone}
use Rattle.fsl_repo.proofs.arriving.keep.Goals as goal

pub returns-in-Err-clause-journal_err : goal.returns-in-Err-clause-journal_err
returns-in-Err-clause-journal_err c = c.take_back.ensures.value ∙ undone c.args.journal.now _ _ c.requires.as_many c.append.new.self c.in_ok-at.ensures.ok
