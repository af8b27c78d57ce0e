use Rattle.std.proofs.Common.{◌≡◌, ◌||◌, ◌∙◌, true, false, Some, is_some, slice_get, ap, sym}
use Rattle.std.specs.Str.{bytes_eq}
use Rattle.fsl_order.specs.Names.{bytes_cmp}
use Rattle.fsl_table.specs.Contents.{value_at}
use Rattle.fsl_links.proofs.Leads.{leads-is}
use Rattle.fsl_links.proofs.rows.is_led.Goals as goal

pub returns-then-eq-clause-leads : goal.returns-then-eq-clause-leads
returns-then-eq-clause-leads g c =
    let first : slice_get c.args.parents.now 0 ≡ Some c.in-Some.first.now = sym c.in-Some.ensures.value in
    let e = leads-is c.args.facts.now.held.entries c.args.name c.in-Some.first.now c.args.parents.now first in
    let t : bytes_eq c.in-Some.first.now c.args.name ≡ true = sym c.eq.ensures ∙ c.if-eq.true in
    c.if-eq.true ∙ sym (e ∙ ap (λ b. b || is_some (value_at bytes_cmp c.in-Some.first.now c.args.facts.now.held.entries)) t)

pub returns-else-eq-clause-leads : goal.returns-else-eq-clause-leads
returns-else-eq-clause-leads g c =
    let first : slice_get c.args.parents.now 0 ≡ Some c.in-Some.first.now = sym c.in-Some.ensures.value in
    let e = leads-is c.args.facts.now.held.entries c.args.name c.in-Some.first.now c.args.parents.now first in
    let t : bytes_eq c.in-Some.first.now c.args.name ≡ false = sym c.eq.ensures ∙ c.if-eq.false in
    c.is_there.ensures.there ∙ sym (e ∙ ap (λ b. b || is_some (value_at bytes_cmp c.in-Some.first.now c.args.facts.now.held.entries)) t)
