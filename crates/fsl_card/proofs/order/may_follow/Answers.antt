use Rattle.std.proofs.Common.{rules}
use Rattle.fsl_card.proofs.order.may_follow.Goals as goal

pub returns-in-77 : goal.returns-in-77
returns-in-77 c = search rules
