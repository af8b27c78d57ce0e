use Rattle.std.proofs.Common.{◌≡◌, ◌∙◌, ap, sym, subst, is_some}
use Rattle.std.specs.List.Sorted.{IsStrictlySortedBy}
use Rattle.std.specs.Map.{keys_of}
use Rattle.fsl_order.specs.Names.{bytes_cmp, latest_first}
use Rattle.fsl_order.proofs.Orders.{bytes_cmp-IsTotalOrder, latest_first-IsTotalOrder}
use Rattle.fsl_table.specs.Contents.{value_at, with_entry}
use Rattle.fsl_table.proofs.Entries.{sorted-insert_entry}
use Rattle.fsl_table.proofs.Outcomes.{on_ok_map}
use Rattle.fsl_timeline.specs.Kept.{entry_of, is_time}
use Rattle.fsl_timeline.proofs.Placing.{places_with}
use Rattle.fsl_timeline.proofs.rows.put_row.Goals as goal

pub returns-clause-kept : goal.returns-clause-kept
returns-clause-kept g c =
    let k = c.requires.kept in
    let es = c.args.maps.now.rows.held.entries in
    let ps = c.args.maps.now.places.held.entries in
    let name = c.args.row.name in
    let entry = entry_of c.args.row in
    let placed : c.put.new.self.held.entries ≡ with_entry latest_first (entry.time, name) tt ps = c.in_ok-put.ensures.ok ∙ ap (λ p. with_entry latest_first p tt ps) c.new-place.ensures in
    on_ok_map c.put-2.result
    (λ put. record {
      ordered = subst (λ es. IsStrictlySortedBy bytes_cmp (keys_of es)) (sym put) (sorted-insert_entry bytes_cmp-IsTotalOrder name entry es k.ordered);
      places_ordered = subst (λ es. IsStrictlySortedBy latest_first (keys_of es)) (sym placed) (sorted-insert_entry latest_first-IsTotalOrder (entry.time, name) tt ps k.places_ordered);
      places = λ key. ap (λ l. is_some (value_at latest_first key l)) placed ∙ places_with es ps name entry k.places c.requires.absent key ∙ ap (λ es. is_time (value_at bytes_cmp key.1 es) key.0) (sym put);
    })
    c.put-2.ensures.ok
