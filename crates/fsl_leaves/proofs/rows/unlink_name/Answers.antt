use Rattle.std.proofs.Common.{◌≡◌, ◌∙◌, true, false, None, if◌then◌else◌, is_some, refl, ap, sym}
use Rattle.std.specs.Str.{bytes_eq}
use Rattle.std.specs.Cmp.Lexicographic.{bytes_decides}
use Rattle.fsl_order.specs.Names.{bytes_cmp}
use Rattle.fsl_table.specs.Contents.{value_at}
use Rattle.fsl_leaves.specs.Kept.{lists, counted, ends}
use Rattle.fsl_leaves.proofs.rows.unlink_name.Goals as goal

pub returns-in-None-clause-leaves : goal.returns-in-None-clause-leaves
returns-in-None-clause-leaves g c = λ q.
    let name = c.args.name in
    let es = c.args.facts.now.held.entries in
    let cs = c.args.children.now.held.entries in
    let none : value_at bytes_cmp name es ≡ None = sym c.in-None.ensures.value in
    let leaves = c.args.leaves.now.held.entries in
    elim (bytes_eq q name) as (λ b. bytes_eq q name ≡ b → is_some (value_at bytes_cmp q leaves) ≡ (if b then false else (if lists (value_at bytes_cmp name es) q then counted es cs q else is_some (value_at bytes_cmp q leaves)))) [
      | true ↦ λ h. c.requires.kept.leaves q ∙ ap (ends es q) (ap (λ n. value_at bytes_cmp n es) ((bytes_decides q name).0 h) ∙ none)
      | false ↦ λ h. ap (λ o. if lists o q then counted es cs q else is_some (value_at bytes_cmp q leaves)) (sym none)
    ] refl
