use Rattle.std.proofs.Common.{map, nat_eq, ◌-◌, sym, subst}
use Rattle.std.specs.List.{AllByRecursion, IsDistinct}
use Rattle.std.specs.List.Sorted.{IsStrictlySortedBy}
use Rattle.std.specs.FinMap as map_of
use Rattle.fsl_order.specs.Names.{bytes_cmp}
use Rattle.fsl_blobs.specs.Fold.{contents}
use Rattle.fsl_repo.specs.Opening.{IsReadAt}
use Rattle.fsl_repo.proofs.ItemLemmas.{names_rise}
use Rattle.fsl_repo.proofs.ReadItems.{read_each, places_apart}
use Rattle.fsl_repo.proofs.parsing.items_in.Goals as goal

pub items_at-requires-clause-there : goal.items_at-requires-clause-there
items_at-requires-clause-there c =
    let held = c.in-Ok.held.items in
    subst (AllByRecursion (IsReadAt c.args.artifacts.items)) (sym c.deref.ensures.value) (read_each c.args.blobs.now.records c.args.artifacts.items c.requires held c.in-Ok.ensures.from)

pub items_at-requires-clause-apart : goal.items_at-requires-clause-apart
items_at-requires-clause-apart c =
    let list = c.in-Ok.held.items in
    let held = (contents c.args.blobs.now.records).held in
    let rise = subst (λ es. IsStrictlySortedBy bytes_cmp (map (λ e. e.0) es)) (sym c.in-Ok.ensures.held) (names_rise (map_of.entries held) (map_of.entries_sorted held)) in
    subst (λ hs. IsDistinct nat_eq (map (λ h. h.place - 1) hs)) (sym c.deref.ensures.value) (places_apart c.args.blobs.now.records list c.in-Ok.ensures.from rise)
