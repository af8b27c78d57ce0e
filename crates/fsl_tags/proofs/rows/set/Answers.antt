use Rattle.std.proofs.Common.{◌≡◌, ◌∙◌, List, [], ◌∷◌, cond, length, sym, ap, subst, refl, arith}
use Rattle.fsl_tags.specs.declared.Assertion.{Assertion}
use Rattle.std.specs.Str.{bytes_eq}
use Rattle.fsl_tags.specs.Laid.{row_in, AreFull}
use Rattle.fsl_table.proofs.Outcomes.{on_ok_map}
use Rattle.fsl_tags.proofs.Full.{row-with, row-without, full-put, full-without}
use Rattle.fsl_tags.proofs.rows.set.Goals as goal

nothing : (xs : List Assertion) → length xs ≡ 0 → xs ≡ []
nothing [] h = refl
nothing (x ∷ xs) h = absurd (omega (arith, h))

pub returns-then-len-eq0-clause-full : goal.returns-then-len-eq0-clause-full
returns-then-len-eq0-clause-full g c =
    on_ok_map c.remove.result (λ e. subst AreFull (sym e) (full-without c.args.name c.args.rows.now.held.entries c.requires)) c.remove.ensures.ok

pub returns-then-len-eq0-clause-row : goal.returns-then-len-eq0-clause-row
returns-then-len-eq0-clause-row g c =
    let none : c.args.row ≡ [] = nothing c.args.row (sym c.len.ensures ∙ c.if-len-eq0.true) in
    on_ok_map c.remove.result
    (λ e x. ap (λ es. row_in es x) e ∙ row-without c.args.name c.args.rows.now.held.entries c.requires x ∙ ap (λ r. cond (bytes_eq x c.args.name) r (row_in c.args.rows.now.held.entries x)) (sym none))
    c.remove.ensures.ok

pub returns-else-len-eq0-clause-full : goal.returns-else-len-eq0-clause-full
returns-else-len-eq0-clause-full g c =
    on_ok_map c.put.result
    (λ e. subst AreFull (sym e) (full-put c.args.name c.args.row c.args.rows.now.held.entries (λ n. absurd (omega (arith, c.if-len-eq0.false, c.len.ensures, ap (λ l. length l) n))) c.requires))
    c.put.ensures.ok

pub returns-else-len-eq0-clause-row : goal.returns-else-len-eq0-clause-row
returns-else-len-eq0-clause-row g c =
    on_ok_map c.put.result (λ e x. ap (λ es. row_in es x) e ∙ row-with c.args.name c.args.row c.args.rows.now.held.entries x) c.put.ensures.ok
