use Rattle.std.proofs.Common.{◌≡◌, ◌∙◌, ℕ, List, Some, cond, ap}
use Rattle.std.specs.Str.{bytes_eq}
use Rattle.fsl_order.specs.Names.{bytes_cmp}
use Rattle.fsl_table.specs.Contents.{value_at}
use Rattle.fsl_table.proofs.Finding.{value-with}
use Rattle.fsl_tags.proofs.Filling.{settled_more, known_more, known_there}
use Rattle.fsl_tags.proofs.settle.settle_one.Goals as goal

pub returns-in-Ok-clause-right : goal.returns-in-Ok-clause-right
returns-in-Ok-clause-right g c =
    let put : (x : List ℕ) → value_at bytes_cmp x c.insert.new.self.entries ≡ cond (bytes_eq x c.args.name) (Some c.in_ok-row.row) (value_at bytes_cmp x c.args.settled.now.entries) =
    λ x. ap (value_at bytes_cmp x) c.in-Ok.ensures.entries ∙ value-with c.args.name c.in_ok-row.row c.args.settled.now.entries x in
    settled_more c.args.facts.now.held.entries c.args.own.now.held.entries c.args.settled.now.entries c.insert.new.self.entries c.args.name c.in_ok-row.row put c.in_ok-row.ensures c.requires.right

pub returns-in-Ok-clause-there : goal.returns-in-Ok-clause-there
returns-in-Ok-clause-there g c =
    known_there c.args.settled.now.entries c.insert.new.self.entries c.args.name c.in_ok-row.row (λ x. ap (value_at bytes_cmp x) c.in-Ok.ensures.entries ∙ value-with c.args.name c.in_ok-row.row c.args.settled.now.entries x)

pub returns-in-Ok-clause-stay : goal.returns-in-Ok-clause-stay
returns-in-Ok-clause-stay g c =
    known_more c.args.settled.now.entries c.insert.new.self.entries c.args.name c.in_ok-row.row (λ x. ap (value_at bytes_cmp x) c.in-Ok.ensures.entries ∙ value-with c.args.name c.in_ok-row.row c.args.settled.now.entries x)
