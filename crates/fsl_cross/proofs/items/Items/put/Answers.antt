use Rattle.std.proofs.Common.{◌∷◌, ◌∙◌, ap, sym, subst}
use Rattle.std.specs.BTreeMap.{insert_entry}
use Rattle.std.specs.List.Sorted.{IsStrictlySortedBy}
use Rattle.std.specs.Map.{keys_of, values_of}
use Rattle.fsl_order.specs.Names.{bytes_cmp}
use Rattle.fsl_order.specs.Rows.{by_name}
use Rattle.fsl_name.specs.RowsKept.{IsKept}
use Rattle.fsl_name.proofs.RowsKeeping.{kept-insert, values-insert, names-kept}
use Rattle.fsl_cross.proofs.Moved.{item_name}
use Rattle.fsl_cross.proofs.items.Items.put.Goals as goal

pub invariant_of-self-2 : goal.invariant_of-self-2
invariant_of-self-2 c =
    let entries = c.in_ok-old.ensures.entries ∙ ap (λ n. insert_entry bytes_cmp c.self.inside.tree.entries n c.args.item) c.name.ensures in
    subst (IsKept item_name) (sym entries)
    (kept-insert item_name c.args.item c.self.inside.tree.entries c.self.invariant (subst (λ es. IsStrictlySortedBy bytes_cmp (keys_of es)) entries c.insert.ensures.ordered))

pub returns-clause-items : goal.returns-clause-items
returns-clause-items c =
    ap values_of (c.in_ok-old.ensures.entries ∙ ap (λ n. insert_entry bytes_cmp c.self.inside.tree.entries n c.args.item) c.name.ensures)
    ∙ values-insert item_name c.args.item c.self.inside.tree.entries c.self.invariant
    ∙ ap (λ items. by_name item_name (c.args.item ∷ items)) c.self.view_is

pub returns-clause-rising : goal.returns-clause-rising
returns-clause-rising c =
    let kept : IsKept item_name c.insert.new.self.entries = invariant_of-self-2 c in
    subst (IsStrictlySortedBy bytes_cmp) (names-kept item_name c.insert.new.self.entries kept.named) kept.rising
