use Rattle.fsl_table.proofs.Outcomes.{always_ok}
use Rattle.fsl_cluster.proofs.rows.take_refs.Goals as goal

pub returns-clause-refs : goal.returns-clause-refs
returns-clause-refs g c = always_ok c.take_missing.result c.in_ok-unlink_each.ensures.pairs

pub returns-clause-refs_ordered : goal.returns-clause-refs_ordered
returns-clause-refs_ordered g c = always_ok c.take_missing.result c.in_ok-unlink_each.ensures.ordered
