use Rattle.std.proofs.Common.{◌≡◌, ◌∙◌, ap, sym, subst, is_some, Some}
use Rattle.std.specs.List.Sorted.{IsStrictlySortedBy}
use Rattle.std.specs.Map.{keys_of}
use Rattle.fsl_order.specs.Names.{bytes_cmp}
use Rattle.fsl_order.proofs.Orders.{bytes_cmp-IsTotalOrder}
use Rattle.fsl_table.specs.Contents.{value_at, with_entry}
use Rattle.fsl_table.proofs.Entries.{sorted-insert_entry}
use Rattle.fsl_table.proofs.Outcomes.{on_ok_map}
use Rattle.fsl_ticket.specs.declared.entry.Entry.{Entry}
use Rattle.fsl_ticket.specs.Kept.{is_spot, spot, spot_cmp}
use Rattle.fsl_ticket.proofs.Canonical.{spot_cmp-IsTotalOrder}
use Rattle.fsl_ticket.proofs.Placing.{spots_with}
use Rattle.fsl_ticket.proofs.rows.lay.Goals as goal

pub returns-clause-laid : goal.returns-clause-laid
returns-clause-laid g c =
    let k = c.requires.laid in
    let es = c.args.facts.now.held.entries in
    let ss = c.args.spots.now.held.entries in
    let name = c.args.fact.name in
    let entry : Entry = record { date = c.args.fact.date; id = c.args.fact.id; changes = c.args.fact.changes } in
    let key : c.key-spot.result ≡ spot entry.id entry.date name = c.key-spot.ensures ∙ ap (λ p. record { first = entry.id; second = Some p }) c.new.ensures in
    let spotted : c.put.new.self.held.entries ≡ with_entry spot_cmp (spot entry.id entry.date name) tt ss = c.in_ok-put.ensures.ok ∙ ap (λ s. with_entry spot_cmp s tt ss) key in
    on_ok_map c.put-2.result
    (λ put. record {
      ordered = subst (λ es. IsStrictlySortedBy bytes_cmp (keys_of es)) (sym put) (sorted-insert_entry bytes_cmp-IsTotalOrder name entry es k.ordered);
      spots_ordered = subst (λ es. IsStrictlySortedBy spot_cmp (keys_of es)) (sym spotted) (sorted-insert_entry spot_cmp-IsTotalOrder (spot entry.id entry.date name) tt ss k.spots_ordered);
      spots = λ q. ap (λ l. is_some (value_at spot_cmp q l)) spotted ∙ spots_with es ss k.spots name entry c.requires.absent q ∙ ap (λ es. is_spot es q.first q.second) (sym put);
    })
    c.put-2.ensures.ok
