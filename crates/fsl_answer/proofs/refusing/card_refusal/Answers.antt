use Rattle.std.proofs.Common.{rules}
use Rattle.fsl_answer.proofs.refusing.card_refusal.Goals as goal

pub returns-in-Private : goal.returns-in-Private
returns-in-Private c = search rules
