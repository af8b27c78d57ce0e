use Rattle.std.proofs.Common.{◌≡◌, ◌++◌, ◌∷◌, [], List, subst}
use Rattle.std.specs.Vec.{vec_capacity}
use Rattle.fsl_table.specs.Kept.{IsKept}
use Rattle.fsl_table.proofs.Keeping.{kept-settled, weave-settled, count-settled}
use Rattle.fsl_table.proofs.waiting.settle_last.Goals as goal

pub returns-in-Ok-clause-kept : goal.returns-in-Ok-clause-kept
returns-in-Ok-clause-kept g c =
    let e : g.row.K.Denot × g.row.V.Denot = (c.in-Some.key, c.in-Some.value) in
    let cut : c.args.waiting.now.items ≡ c.pop.new.self.items ++ e ∷ [] = c.in-Some.ensures.items in
    rw c.pop.ensures.capacity (kept-settled g.met.K.Ord.total e c.pop.new.self.items c.args.tree.now.entries c.insert.new.self.entries _ c.in-Ok.ensures.entries (subst (λ (l : List (g.row.K.Denot × g.row.V.Denot)). IsKept g.K.Ord.cmp (vec_capacity c.args.waiting.now) l c.args.tree.now.entries) cut c.requires))

pub returns-in-Ok-clause-entries : goal.returns-in-Ok-clause-entries
returns-in-Ok-clause-entries g c =
    let e : g.row.K.Denot × g.row.V.Denot = (c.in-Some.key, c.in-Some.value) in
    let cut : c.args.waiting.now.items ≡ c.pop.new.self.items ++ e ∷ [] = c.in-Some.ensures.items in
    rw cut (weave-settled g.met.K.Ord.total e c.pop.new.self.items c.args.tree.now.entries c.insert.new.self.entries c.in-Ok.ensures.entries)

pub returns-in-Ok-clause-len : goal.returns-in-Ok-clause-len
returns-in-Ok-clause-len g c =
    let e : g.row.K.Denot × g.row.V.Denot = (c.in-Some.key, c.in-Some.value) in
    let cut : c.args.waiting.now.items ≡ c.pop.new.self.items ++ e ∷ [] = c.in-Some.ensures.items in
    rw cut (count-settled g.met.K.Ord.total e c.pop.new.self.items c.args.tree.now.entries c.insert.new.self.entries (vec_capacity c.args.waiting.now) c.in-Ok.ensures.entries (subst (λ (l : List (g.row.K.Denot × g.row.V.Denot)). IsKept g.K.Ord.cmp (vec_capacity c.args.waiting.now) l c.args.tree.now.entries) cut c.requires))
