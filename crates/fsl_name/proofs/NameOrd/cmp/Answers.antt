use Rattle.std.proofs.Common.{arith}
use Rattle.std.proofs.lemmas.Grind.{common_steps}
use Rattle.fsl_name.proofs.NameOrd.cmp.Goals as goal

pub returns-then-these-those-2 : goal.returns-then-these-those-2
returns-then-these-those-2 c = grind (arith, common_steps)
