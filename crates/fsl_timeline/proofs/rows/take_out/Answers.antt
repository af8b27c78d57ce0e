use Rattle.std.proofs.Common.{◌∙◌, ap, sym, subst}
use Rattle.std.specs.BTreeMap.{is_at}
use Rattle.std.specs.List.Sorted.{IsStrictlySortedBy}
use Rattle.std.specs.Map.{keys_of}
use Rattle.fsl_order.specs.Names.{bytes_cmp}
use Rattle.fsl_order.proofs.Orders.{bytes_cmp-IsTotalOrder}
use Rattle.fsl_table.specs.Contents.{value_at}
use Rattle.fsl_table.proofs.Entries.{sorted-remove_entry}
use Rattle.fsl_table.proofs.Outcomes.{on_ok_map}
use Rattle.fsl_timeline.specs.Kept.{is_time}
use Rattle.fsl_timeline.proofs.Placing.{places_without}
use Rattle.fsl_timeline.proofs.rows.take_out.Goals as goal

pub returns-clause-kept : goal.returns-clause-kept
returns-clause-kept g c =
    let k = c.requires.kept in
    let es = c.args.maps.now.rows.held.entries in
    on_ok_map c.remove.result
    (λ out. record {
      ordered = subst (λ es. IsStrictlySortedBy bytes_cmp (keys_of es)) (sym out) (sorted-remove_entry bytes_cmp-IsTotalOrder (is_at (bytes_cmp c.args.name)) es k.ordered);
      places_ordered = c.in_ok-unplace.ensures.ordered;
      places = λ key.
          c.in_ok-unplace.ensures.places key ∙ places_without es c.args.maps.now.places.held.entries c.args.name k.ordered k.places key
          ∙ ap (λ es. is_time (value_at bytes_cmp key.1 es) key.0) (sym out);
    })
    c.remove.ensures.ok
