use Rattle.std.proofs.Common.{◌||◌, ◌&&◌, ◌∙◌, ap, is_some}
use Rattle.fsl_order.specs.Names.{has}
use Rattle.fsl_table.specs.Contents.{value_at}
use Rattle.fsl_table.specs.Exact.{pair_cmp}
use Rattle.fsl_table.specs.Pairs.{is_name}
use Rattle.fsl_table.proofs.Outcomes.{on_ok_map}
use Rattle.fsl_cluster.specs.declared.tables.Tables.{Tables}
use Rattle.fsl_cluster.specs.Kept.{entry_of}
use Rattle.fsl_cluster.proofs.Putting.{laid_with}
use Rattle.fsl_cluster.proofs.build.lay.Goals as goal

pub returns-clause-laid : goal.returns-clause-laid
returns-clause-laid g c =
    let old = c.args.tables.now in
    let name = c.args.fact.name in
    let new : Tables = record {
      facts = c.lay_entry.new.facts;
      members = c.lay_pairs.new.pairs;
      refs = c.lay_pairs-2.new.pairs;
      unclustered = old.unclustered;
      missing = old.missing;
    } in
    on_ok_map c.lay_entry.result
    (λ facts. laid_with old new name (entry_of c.args.fact) c.requires.laid c.requires.absent facts
    (c.in_ok-lay_pairs.ensures.ordered c.requires.laid.members_ordered) (c.in_ok-lay_pairs-2.ensures.ordered c.requires.laid.refs_ordered)
    (λ k. c.in_ok-lay_pairs.ensures.pairs k ∙ ap (λ l. is_some (value_at pair_cmp k old.members.entries) || (is_name k.second name && has l k.first)) c.items.ensures)
    (λ k. c.in_ok-lay_pairs-2.ensures.pairs k ∙ ap (λ l. is_some (value_at pair_cmp k old.refs.entries) || (is_name k.second name && has l k.first)) c.items-2.ensures))
    c.lay_entry.ensures.entries
