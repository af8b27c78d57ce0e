use Rattle.std.proofs.Common.{◌∙◌, ap, sym, subst}
use Rattle.std.specs.BTreeMap.{is_at}
use Rattle.std.specs.List.Sorted.{IsStrictlySortedBy}
use Rattle.std.specs.Map.{keys_of}
use Rattle.fsl_order.specs.Names.{bytes_cmp}
use Rattle.fsl_order.proofs.Orders.{bytes_cmp-IsTotalOrder}
use Rattle.fsl_table.proofs.Entries.{sorted-remove_entry}
use Rattle.fsl_table.proofs.Outcomes.{on_ok_map}
use Rattle.fsl_ticket.specs.Kept.{is_spot}
use Rattle.fsl_ticket.proofs.rows.lift.Goals as goal

pub returns-clause-laid : goal.returns-clause-laid
returns-clause-laid g c =
    let k = c.requires.laid in
    let es = c.args.facts.now.held.entries in
    on_ok_map c.remove.result
    (λ out. record {
      ordered = subst (λ es. IsStrictlySortedBy bytes_cmp (keys_of es)) (sym out) (sorted-remove_entry bytes_cmp-IsTotalOrder (is_at (bytes_cmp c.args.name)) es k.ordered);
      spots_ordered = c.in_ok-unplace.ensures.ordered;
      spots = λ key. c.in_ok-unplace.ensures.spots key ∙ ap (λ es. is_spot es key.first key.second) (sym out);
    })
    c.remove.ensures.ok
