use Rattle.std.proofs.Common.{◌∙◌, Some, cond, ap, sym}
use Rattle.std.specs.Option.{option_copied}
use Rattle.fsl_order.specs.Names.{bytes_cmp}
use Rattle.fsl_table.specs.Contents.{value_at}
use Rattle.fsl_table.proofs.Finding.{value-with}
use Rattle.fsl_files.specs.Kept.{with_line}
use Rattle.fsl_files.proofs.lookup.Lookup.get.Goals as goal

pub returns-then-eq : goal.returns-then-eq
returns-then-eq g c =
    let es = c.self.inside.table.now.held.entries in
    let line = c.in-Some.line.now in
    sym (ap (value_at bytes_cmp c.args.name) (sym c.self.view_is ∙ ap (λ l. with_line (option_copied l) es) c.in-Some.is)
    ∙ value-with line.0 line.1 es c.args.name ∙ ap (λ b. cond b (Some line.1) (value_at bytes_cmp c.args.name es)) (sym c.eq.ensures ∙ c.if-eq.true))

pub returns-else-eq : goal.returns-else-eq
returns-else-eq g c =
    let es = c.self.inside.table.now.held.entries in
    let line = c.in-Some.line.now in
    c.get-else-eq.ensures.value
    ∙ sym (ap (value_at bytes_cmp c.args.name) (sym c.self.view_is ∙ ap (λ l. with_line (option_copied l) es) c.in-Some.is)
    ∙ value-with line.0 line.1 es c.args.name ∙ ap (λ b. cond b (Some line.1) (value_at bytes_cmp c.args.name es)) (sym c.eq.ensures ∙ c.if-eq.false))
