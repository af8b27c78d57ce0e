use Rattle.std.proofs.Common.{◌≡◌, ◌∙◌, ℕ, List, [], ◌∷◌, length, sym, ap, subst, refl, arith}
use Rattle.fsl_order.specs.Rows.{ListsChanged}
use Rattle.fsl_tags.specs.declared.Assertion.{Assertion}
use Rattle.fsl_tags.specs.Laid.{row_in}
use Rattle.fsl_tags.specs.Changed.{changed_of}
use Rattle.fsl_table.proofs.Outcomes.{if_ok_map}
use Rattle.fsl_tags.proofs.ChangedNames.{lists_changed}
use Rattle.fsl_tags.proofs.changed.changed_names.Goals as goal

nothing : (es : List (List ℕ × List Assertion)) → length es ≡ 0 → es ≡ []
nothing [] h = refl
nothing (e ∷ es) h = absurd (omega (arith, h))

pub returns-then-len-eq0-clause-list : goal.returns-then-len-eq0-clause-list
returns-then-len-eq0-clause-list g c = λ before all.
    let rows = c.args.rows.now.held.entries in
    let none : c.args.noted.now.entries ≡ [] = nothing c.args.noted.now.entries (sym c.len.ensures.len ∙ c.if-len-eq0.true) in
    subst (ListsChanged before (row_in rows)) (ap (λ es. changed_of es rows) none ∙ sym c.new.ensures) (lists_changed rows before c.args.noted.now.entries c.len.ensures.ordered all)

pub returns-clause-list : goal.returns-clause-list
returns-clause-list g c =
    let rows = c.args.rows.now.held.entries in
    if_ok_map c.listed.result (λ list e before all. subst (ListsChanged before (row_in rows)) (sym e) (lists_changed rows before c.args.noted.now.entries c.len.ensures.ordered all)) c.listed.ensures.list
