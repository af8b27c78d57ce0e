use Rattle.std.proofs.Common.{◌||◌, ◌&&◌, not, ◌∙◌, ap}
use Rattle.std.specs.Str.{bytes_eq}
use Rattle.fsl_order.specs.Names.{has}
use Rattle.fsl_table.proofs.Outcomes.{on_ok_map, always_ok}
use Rattle.fsl_cluster.specs.Kept.{is_in, is_unheld, tables_in}
use Rattle.fsl_cluster.proofs.rows.spread.Goals as goal

pub returns-clause-flips : goal.returns-clause-flips
returns-clause-flips g c =
    on_ok_map c.put_missing.result
    (λ turned before f. record {
      unclustered = c.in_ok-take_names.ensures.turned (is_in before.unclustered.entries) f.unclustered;
      missing = turned (is_in before.missing.entries) f.missing;
    })
    c.put_missing.ensures.turned

pub returns-clause-members : goal.returns-clause-members
returns-clause-members g c = always_ok c.put_missing.result c.in_ok-link_both.ensures.members

pub returns-clause-refs : goal.returns-clause-refs
returns-clause-refs g c = always_ok c.put_missing.result c.in_ok-link_both.ensures.refs

pub returns-clause-unclustered : goal.returns-clause-unclustered
returns-clause-unclustered g c =
    always_ok c.put_missing.result
    (λ q. c.in_ok-take_names.ensures.names q ∙ ap (λ l. is_in c.args.maps.now.unclustered.held.entries q && not (has l q)) c.items.ensures)

pub returns-clause-missing : goal.returns-clause-missing
returns-clause-missing g c =
    let old = tables_in c.args.maps.now in
    let name = c.args.fact.now.name in
    on_ok_map c.put_missing.result
    (λ names q. names q ∙ ap (λ l. (is_in old.missing.entries q || (has l q && is_unheld old.facts.entries name q)) && not (bytes_eq q name)) c.items-2.ensures)
    c.put_missing.ensures.names

pub returns-clause-members_ordered : goal.returns-clause-members_ordered
returns-clause-members_ordered g c = always_ok c.put_missing.result c.in_ok-link_both.ensures.members_ordered

pub returns-clause-refs_ordered : goal.returns-clause-refs_ordered
returns-clause-refs_ordered g c = always_ok c.put_missing.result c.in_ok-link_both.ensures.refs_ordered

pub returns-clause-unclustered_ordered : goal.returns-clause-unclustered_ordered
returns-clause-unclustered_ordered g c = always_ok c.put_missing.result c.in_ok-take_names.ensures.ordered
