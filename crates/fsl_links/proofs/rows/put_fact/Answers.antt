use Rattle.std.proofs.Common.{◌||◌, ◌&&◌, ◌∙◌, ap, sym, subst, is_some, option_and_then}
use Rattle.std.specs.List.Sorted.{IsStrictlySortedBy}
use Rattle.std.specs.Map.{keys_of}
use Rattle.fsl_order.specs.Names.{bytes_cmp, has}
use Rattle.fsl_order.proofs.Orders.{bytes_cmp-IsTotalOrder}
use Rattle.fsl_table.specs.Exact.{pair_cmp}
use Rattle.fsl_table.specs.Contents.{value_at}
use Rattle.fsl_table.specs.Pairs.{is_name}
use Rattle.fsl_table.proofs.Entries.{sorted-insert_entry}
use Rattle.fsl_table.proofs.Outcomes.{on_ok_map}
use Rattle.fsl_links.specs.Kept.{lists}
use Rattle.fsl_links.proofs.Facts.{pairs_with}
use Rattle.fsl_links.proofs.rows.put_fact.Goals as goal

pub returns-clause-kept : goal.returns-clause-kept
returns-clause-kept g c =
    let k = c.requires.kept in
    on_ok_map c.put.result
    (λ put. record {
      ordered = subst (λ es. IsStrictlySortedBy bytes_cmp (keys_of es)) (sym put) (sorted-insert_entry bytes_cmp-IsTotalOrder c.args.fact.name c.args.fact.parents c.args.maps.now.facts.held.entries k.ordered);
      pairs_ordered = c.in_ok-link_each.ensures.ordered k.pairs_ordered;
      pairs = λ key.
          c.in_ok-link_each.ensures.pairs key
          ∙ ap (λ ps. is_some (value_at pair_cmp key c.args.maps.now.children.held.entries) || (is_name key.second c.args.fact.name && has ps key.first)) c.items.ensures
          ∙ pairs_with c.args.maps.now.facts.held.entries c.args.maps.now.children.held.entries c.args.fact.name c.args.fact.parents k.pairs c.requires.absent key
          ∙ ap (λ es. lists (option_and_then (λ c. value_at bytes_cmp c es) key.second) key.first) (sym put);
    })
    c.put.ensures.ok
