use Rattle.std.proofs.Common.{◌≡◌, sym, ap, ◌∙◌, arith, Some, None}
use Rattle.std.specs.BTreeMap.{is_at}
use Rattle.fsl_table.specs.Weave.{place}
use Rattle.fsl_table.proofs.Places.{place_some}
use Rattle.fsl_table.proofs.Keeping.{kept-remove_place, weave-remove_place, kept-remove_tree, weave-remove_tree}
use Rattle.fsl_table.proofs.Weaving.{lookup-waiting, lookup-tree, sorted-weave}
use Rattle.fsl_table.proofs.table.Table.remove.Goals as goal

pub take_at-requires : goal.take_at-requires
take_at-requires g c =
    let p : place (is_at (g.K.Ord.cmp c.args.key.now)) c.self.inside.waiting.items ≡ Some c.in-Some.at = cc in
    let within = (place_some (is_at (g.K.Ord.cmp c.args.key.now)) c.self.inside.waiting.items c.in-Some.at p).within in
    grind (arith, within)

pub invariant_of-self : goal.invariant_of-self
invariant_of-self g c =
    let p : place (is_at (g.K.Ord.cmp c.args.key.now)) c.self.inside.waiting.items ≡ Some c.in-Some.at = cc in
    rw (c.take_at.ensures.items, c.take_at.ensures.room) (kept-remove_place g.met.K.Ord.total c.args.key.now c.self.inside.waiting.items c.self.inside.tree.entries _ c.in-Some.at (c.args.key.now, c.take_at.result) p c.self.invariant)

pub invariant_of-self-in-None : goal.invariant_of-self-in-None
invariant_of-self-in-None g c =
    let p : place (is_at (g.K.Ord.cmp c.args.key.now)) c.self.inside.waiting.items ≡ None = cc in
    kept-remove_tree g.met.K.Ord.total c.args.key.now c.self.inside.waiting.items c.self.inside.tree.entries c.remove.new.self.entries _ p c.remove.ensures.entries (grind (arith, c.remove.ensures.len)) c.self.invariant

pub returns-in-Some-clause-value : goal.returns-in-Some-clause-value
returns-in-Some-clause-value g c =
    let p : place (is_at (g.K.Ord.cmp c.args.key.now)) c.self.inside.waiting.items ≡ Some c.in-Some.at = cc in
    rw (← c.self.view_is) (sym (lookup-waiting g.met.K.Ord.total c.args.key.now c.self.inside.waiting.items c.self.inside.tree.entries c.in-Some.at (c.args.key.now, c.take_at.result) p ∙ ap (λ v. Some v) (sym (c.take_at.ensures.value (c.args.key.now, c.take_at.result)))))

pub returns-in-Some-clause-entries : goal.returns-in-Some-clause-entries
returns-in-Some-clause-entries g c =
    let p : place (is_at (g.K.Ord.cmp c.args.key.now)) c.self.inside.waiting.items ≡ Some c.in-Some.at = cc in
    rw (c.take_at.ensures.items, ← c.self.view_is) (weave-remove_place g.met.K.Ord.total c.args.key.now c.self.inside.waiting.items c.self.inside.tree.entries _ c.in-Some.at (c.args.key.now, c.take_at.result) p c.self.invariant)

pub returns-in-None-clause-value : goal.returns-in-None-clause-value
returns-in-None-clause-value g c =
    let p : place (is_at (g.K.Ord.cmp c.args.key.now)) c.self.inside.waiting.items ≡ None = cc in
    rw (← c.self.view_is) (c.remove.ensures.value ∙ sym (lookup-tree g.met.K.Ord.total c.args.key.now c.self.inside.waiting.items c.self.inside.tree.entries p))

pub returns-in-None-clause-entries : goal.returns-in-None-clause-entries
returns-in-None-clause-entries g c =
    let p : place (is_at (g.K.Ord.cmp c.args.key.now)) c.self.inside.waiting.items ≡ None = cc in
    rw (← c.self.view_is) (weave-remove_tree g.met.K.Ord.total c.args.key.now c.self.inside.waiting.items c.self.inside.tree.entries c.remove.new.self.entries _ p c.remove.ensures.entries c.self.invariant)

pub returns-in-Some-clause-was_ordered : goal.returns-in-Some-clause-was_ordered
returns-in-Some-clause-was_ordered g c = rw (← c.self.view_is) (sorted-weave g.met.K.Ord.total c.self.inside.waiting.items c.self.inside.tree.entries c.self.invariant.ordered)

pub returns-in-None-clause-was_ordered : goal.returns-in-None-clause-was_ordered
returns-in-None-clause-was_ordered g c = rw (← c.self.view_is) (sorted-weave g.met.K.Ord.total c.self.inside.waiting.items c.self.inside.tree.entries c.self.invariant.ordered)
