use Rattle.std.proofs.Common.{◌∙◌, ◌&&◌, not, ap, sym, subst, is_some}
use Rattle.std.specs.Str.{bytes_eq}
use Rattle.std.specs.BTreeMap.{is_at}
use Rattle.std.specs.List.Sorted.{IsStrictlySortedBy}
use Rattle.std.specs.Map.{keys_of}
use Rattle.fsl_order.specs.Names.{latest_first}
use Rattle.fsl_order.proofs.Orders.{latest_first-IsTotalOrder}
use Rattle.fsl_table.specs.Contents.{value_at, without_key}
use Rattle.fsl_table.proofs.Entries.{sorted-remove_entry}
use Rattle.fsl_table.proofs.Outcomes.{on_ok_map}
use Rattle.fsl_timeline.specs.Kept.{is_time}
use Rattle.fsl_timeline.proofs.Placing.{place_out}
use Rattle.fsl_timeline.proofs.rows.unplace.Goals as goal

pub returns-in-Some-clause-ordered : goal.returns-in-Some-clause-ordered
returns-in-Some-clause-ordered g c =
    on_ok_map c.remove.result
    (λ e. subst (λ es. IsStrictlySortedBy latest_first (keys_of es)) (sym e) (sorted-remove_entry latest_first-IsTotalOrder (is_at (latest_first c.new.result)) c.args.places.now.held.entries c.requires.ordered))
    c.remove.ensures.ok

pub returns-in-Some-clause-places : goal.returns-in-Some-clause-places
returns-in-Some-clause-places g c =
    let ps = c.args.places.now.held.entries in
    on_ok_map c.remove.result
    (λ e k. ap (λ l. is_some (value_at latest_first k l)) (e ∙ ap (λ p. without_key latest_first p ps) c.new.ensures) ∙ place_out ps c.args.name c.in-Some.entry.now c.requires.ordered k
    ∙ ap (λ o. not (bytes_eq k.1 c.args.name && is_time o k.0) && is_some (value_at latest_first k ps)) c.in-Some.ensures.value)
    c.remove.ensures.ok
