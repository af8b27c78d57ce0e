use Rattle.std.proofs.Common.{ℕ, List, Result, sym, subst}
use Rattle.fsl_query.specs.declared.QueryFault.{QueryFault}
use Rattle.fossil.specs.Acts.{IsAnswerOf}
use Rattle.fossil.proofs.answers.reporting.answer_of.Goals as goal

pub returns-in-Err : goal.returns-in-Err
returns-in-Err c = subst (λ (f : Result (List ℕ) QueryFault). IsAnswerOf f c.fault_answer.result) (sym c.in-Err.is) c.fault_answer.ensures
