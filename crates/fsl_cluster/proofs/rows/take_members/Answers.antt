use Rattle.fsl_table.proofs.Outcomes.{always_ok}
use Rattle.fsl_cluster.proofs.rows.take_members.Goals as goal

pub returns-clause-members : goal.returns-clause-members
returns-clause-members g c = always_ok c.put_unclustered.result c.in_ok-unlink_each.ensures.pairs

pub returns-clause-members_ordered : goal.returns-clause-members_ordered
returns-clause-members_ordered g c = always_ok c.put_unclustered.result c.in_ok-unlink_each.ensures.ordered
