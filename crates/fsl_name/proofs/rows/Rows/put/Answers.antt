use Rattle.std.proofs.Common.{◌≡◌, ◌∷◌, ◌∙◌, ap, sym, subst}
use Rattle.std.specs.List.Sorted.{IsStrictlySortedBy}
use Rattle.std.specs.Map.{keys_of, values_of}
use Rattle.std.specs.BTreeMap.{insert_entry}
use Rattle.fsl_order.specs.Names.{bytes_cmp}
use Rattle.fsl_order.specs.Rows.{by_name}
use Rattle.fsl_name.specs.RowsKept.{IsKept}
use Rattle.fsl_name.proofs.RowsKeeping.{kept-insert, values-insert}
use Rattle.fsl_name.proofs.rows.Rows.put.Goals as goal

pub invariant_of-self : goal.invariant_of-self
invariant_of-self g c =
    let entries : c.insert.new.self.entries ≡ insert_entry bytes_cmp c.self.inside.tree.entries (g.F.Named.name c.args.row) c.args.row
    = c.in-Ok.ensures.entries ∙ ap (λ k. insert_entry bytes_cmp c.self.inside.tree.entries k c.args.row) c.name-name.ensures in
    subst (IsKept g.F.Named.name) (sym entries)
    (kept-insert g.F.Named.name c.args.row c.self.inside.tree.entries c.self.invariant (subst (λ es. IsStrictlySortedBy bytes_cmp (keys_of es)) entries c.insert.ensures.ordered))

pub returns-in-Ok-clause-ok : goal.returns-in-Ok-clause-ok
returns-in-Ok-clause-ok g c =
    ap values_of (c.in-Ok.ensures.entries ∙ ap (λ k. insert_entry bytes_cmp c.self.inside.tree.entries k c.args.row) c.name-name.ensures)
    ∙ values-insert g.F.Named.name c.args.row c.self.inside.tree.entries c.self.invariant
    ∙ ap (λ rows. by_name g.F.Named.name (c.args.row ∷ rows)) c.self.view_is
