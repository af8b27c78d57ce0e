use Rattle.fsl_order.proofs.RowLemmas.{by_name-permutation}
use Rattle.fsl_order.proofs.by_name_in_any_order.Goals as goal

pub returns : goal.returns
returns g c = λ name xs ys d p. by_name-permutation name xs ys d p
