use Rattle.std.proofs.Common.{subst}
use Rattle.fsl_table.proofs.Outcomes.{on_ok_map, always_ok}
use Rattle.fsl_cluster.specs.Kept.{AreMore}
use Rattle.fsl_cluster.proofs.rows.link_both.Goals as goal

pub returns-clause-members : goal.returns-clause-members
returns-clause-members g c = always_ok c.link_each-2.result (subst (AreMore c.args.members.now.held.entries c.link_each.new.self.held.entries c.args.fact.now.name) c.items.ensures c.in_ok-link_each.ensures.pairs)

pub returns-clause-refs : goal.returns-clause-refs
returns-clause-refs g c =
    on_ok_map c.link_each-2.result (subst (AreMore c.args.refs.now.held.entries c.link_each-2.new.self.held.entries c.args.fact.now.name) c.items-2.ensures) c.link_each-2.ensures.pairs

pub returns-clause-members_ordered : goal.returns-clause-members_ordered
returns-clause-members_ordered g c = always_ok c.link_each-2.result (c.in_ok-link_each.ensures.ordered c.requires.members_ordered)

pub returns-clause-refs_ordered : goal.returns-clause-refs_ordered
returns-clause-refs_ordered g c = on_ok_map c.link_each-2.result (λ ordered. ordered c.requires.refs_ordered) c.link_each-2.ensures.ordered
