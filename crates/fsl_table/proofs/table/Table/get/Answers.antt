use Rattle.std.proofs.Common.{◌≡◌, sym, ap, ◌∙◌, arith, Some, None}
use Rattle.std.specs.BTreeMap.{is_at}
use Rattle.fsl_table.specs.Weave.{place}
use Rattle.fsl_table.proofs.Places.{place_some}
use Rattle.fsl_table.proofs.Weaving.{lookup-waiting, lookup-tree}
use Rattle.fsl_table.proofs.table.Table.get.Goals as goal

pub index-requires : goal.index-requires
index-requires g c =
    let p : place (is_at (g.K.Ord.cmp c.args.key.now)) c.self.inside.waiting.items ≡ Some c.in-Some.at = cc in
    let within = (place_some (is_at (g.K.Ord.cmp c.args.key.now)) c.self.inside.waiting.items c.in-Some.at p).within in
    grind (arith, within)

pub returns-in-Some-clause-value : goal.returns-in-Some-clause-value
returns-in-Some-clause-value g c =
    let p : place (is_at (g.K.Ord.cmp c.args.key.now)) c.self.inside.waiting.items ≡ Some c.in-Some.at = cc in
    rw (← c.self.view_is) (let h = lookup-waiting g.met.K.Ord.total c.args.key.now c.self.inside.waiting.items c.self.inside.tree.entries c.in-Some.at c.index.result.now p in sym (h ∙ ap (λ e. Some e.1) (sym c.index.ensures)))

pub returns-in-None-clause-value : goal.returns-in-None-clause-value
returns-in-None-clause-value g c =
    let p : place (is_at (g.K.Ord.cmp c.args.key.now)) c.self.inside.waiting.items ≡ None = cc in
    rw (← c.self.view_is) (c.get.ensures.value ∙ sym (lookup-tree g.met.K.Ord.total c.args.key.now c.self.inside.waiting.items c.self.inside.tree.entries p))
