use Rattle.std.proofs.Common.{◌∙◌, ap, sym, subst, option_and_then}
use Rattle.std.specs.BTreeMap.{is_at}
use Rattle.std.specs.List.Sorted.{IsStrictlySortedBy}
use Rattle.std.specs.Map.{keys_of}
use Rattle.fsl_order.specs.Names.{bytes_cmp}
use Rattle.fsl_order.proofs.Orders.{bytes_cmp-IsTotalOrder}
use Rattle.fsl_table.specs.Contents.{value_at}
use Rattle.fsl_table.proofs.Entries.{sorted-remove_entry}
use Rattle.fsl_table.proofs.Outcomes.{on_ok_map}
use Rattle.fsl_links.specs.Kept.{lists}
use Rattle.fsl_links.proofs.Facts.{pairs_without}
use Rattle.fsl_links.proofs.rows.take_out.Goals as goal

pub returns-clause-kept : goal.returns-clause-kept
returns-clause-kept g c =
    let k = c.requires.kept in
    on_ok_map c.remove.result
    (λ out. record {
      ordered = subst (λ es. IsStrictlySortedBy bytes_cmp (keys_of es)) (sym out) (sorted-remove_entry bytes_cmp-IsTotalOrder (is_at (bytes_cmp c.args.name)) c.args.maps.now.facts.held.entries k.ordered);
      pairs_ordered = c.in_ok-unlink_parents.ensures.ordered;
      pairs = λ key.
          c.in_ok-unlink_parents.ensures.pairs key
          ∙ pairs_without c.args.maps.now.facts.held.entries c.args.maps.now.children.held.entries c.args.name k.ordered k.pairs key
          ∙ ap (λ es. lists (option_and_then (λ c. value_at bytes_cmp c es) key.second) key.first) (sym out);
    })
    c.remove.ensures.ok
