use Rattle.std.proofs.Common.{◌≡◌, ◌∙◌, ap, sym, subst, is_some, Some}
use Rattle.std.specs.BTreeMap.{is_at}
use Rattle.std.specs.List.Sorted.{IsStrictlySortedBy}
use Rattle.std.specs.Map.{keys_of}
use Rattle.fsl_table.specs.Contents.{value_at, without_key}
use Rattle.fsl_table.proofs.Entries.{sorted-remove_entry}
use Rattle.fsl_table.proofs.Outcomes.{on_ok_map}
use Rattle.fsl_ticket.specs.Kept.{spot, spot_cmp}
use Rattle.fsl_ticket.proofs.Canonical.{spot_cmp-IsTotalOrder}
use Rattle.fsl_ticket.proofs.Placing.{spots_without, spots_stay}
use Rattle.fsl_ticket.proofs.rows.unplace.Goals as goal

pub returns-in-Some-clause-ordered : goal.returns-in-Some-clause-ordered
returns-in-Some-clause-ordered g c =
    on_ok_map c.remove.result
    (λ e. subst (λ es. IsStrictlySortedBy spot_cmp (keys_of es)) (sym e) (sorted-remove_entry spot_cmp-IsTotalOrder (is_at (spot_cmp c.key-spot.result)) c.args.spots.now.held.entries c.requires.laid.spots_ordered))
    c.remove.ensures.ok

pub returns-in-Some-clause-spots : goal.returns-in-Some-clause-spots
returns-in-Some-clause-spots g c =
    let ss = c.args.spots.now.held.entries in
    let e = c.in-Some.entry.now in
    let k = c.requires.laid in
    let key : c.key-spot.result ≡ spot e.id e.date c.args.name = c.key-spot.ensures ∙ ap (λ p. record { first = e.id; second = Some p }) c.new.ensures in
    on_ok_map c.remove.result
    (λ out q. ap (λ l. is_some (value_at spot_cmp q l)) (out ∙ ap (λ s. without_key spot_cmp s ss) key)
    ∙ spots_without c.args.facts.now.held.entries ss k.spots c.args.name e k.ordered k.spots_ordered (sym c.in-Some.ensures.value) q)
    c.remove.ensures.ok

pub returns-in-None-clause-spots : goal.returns-in-None-clause-spots
returns-in-None-clause-spots g c = λ q. c.requires.laid.spots q ∙ spots_stay c.args.facts.now.held.entries c.args.name c.requires.laid.ordered (sym c.in-None.ensures.value) q.first q.second
