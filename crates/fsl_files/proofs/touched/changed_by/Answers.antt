use Rattle.std.proofs.Common.{◌≡◌, ◌||◌, ◌&&◌, not, ◌∙◌, Bool, true, false, Some, cond, is_some, List, ℕ, length, refl, sym, ap, subst, arith}
use Rattle.std.specs.Str.{bytes_eq}
use Rattle.std.specs.Cmp.Lexicographic.{nat_list_eq_equiv}
use Rattle.fsl_order.specs.Names.{bytes_cmp, has}
use Rattle.fsl_order.specs.Rows.{ListsChanged}
use Rattle.fsl_table.specs.Contents.{value_at, with_entry}
use Rattle.fsl_table.proofs.Finding.{value-with}
use Rattle.fsl_table.proofs.Outcomes.{if_ok_map}
use Rattle.fsl_files.specs.Files.{files_row}
use Rattle.fsl_files.specs.Kept.{AreFit, facts_of, is_touched}
use Rattle.fsl_files.specs.Same.{is_same_row}
use Rattle.fsl_files.proofs.Fitting.{fit_with}
use Rattle.fsl_files.proofs.Followed.{none_touched}
use Rattle.fsl_files.proofs.Staying.{lists_changed}
use Rattle.fsl_files.proofs.touched.changed_by.Goals as goal

pub note_own-requires-clause-new : goal.note_own-requires-clause-new
note_own-requires-clause-new g c = subst AreFit (sym c.with-new.ensures) (fit_with c.args.line.now.0 c.args.line.now.1 c.args.maps.now.facts.held.entries c.requires.kept.fit c.requires.fit)

pub note_own-requires-clause-put : goal.note_own-requires-clause-put
note_own-requires-clause-put g c =
    let line = c.args.line.now in
    let es = c.args.maps.now.facts.held.entries in
    ap (λ l. is_some (value_at bytes_cmp line.0 l)) c.with-new.ensures ∙ ap is_some (value-with line.0 line.1 es line.0)
    ∙ ap (λ b. is_some (cond b (Some line.1) (value_at bytes_cmp line.0 es))) (nat_list_eq_equiv.refl line.0)

pub note_others-requires-clause-new : goal.note_others-requires-clause-new
note_others-requires-clause-new g c = subst AreFit (sym c.with-new.ensures) (fit_with c.args.line.now.0 c.args.line.now.1 c.args.maps.now.facts.held.entries c.requires.kept.fit c.requires.fit)

pub returns-in_err-note_others-clause-cost : goal.returns-in_err-note_others-clause-cost
returns-in_err-note_others-clause-cost g c = λ new alone.
    let none : length c.items.result.now ≡ 0 = ap length c.items.ensures ∙ none_touched c.args.maps.now.deltas.held.entries c.args.maps.now.children.held.entries c.args.line.now.0 c.in_ok-list.list c.in_ok-list.ensures.names alone.0 alone.1 in
    let listed = c.in_ok-list.ensures.cost alone.0 alone.1 in
    let own = c.note_own.ensures.cost new in
    let others = c.note_others.ensures.cost none in
    omega (arith, listed, own, others)

pub returns-clause-cost : goal.returns-clause-cost
returns-clause-cost g c = λ new alone.
    let none : length c.items.result.now ≡ 0 = ap length c.items.ensures ∙ none_touched c.args.maps.now.deltas.held.entries c.args.maps.now.children.held.entries c.args.line.now.0 c.in_ok-list.list c.in_ok-list.ensures.names alone.0 alone.1 in
    let listed = c.in_ok-list.ensures.cost alone.0 alone.1 in
    let own = c.note_own.ensures.cost new in
    let others = c.note_others.ensures.cost none in
    omega (arith, listed, own, others)

-- the name where its row differs, and those of the others whose rows do
either : (b t s : Bool) → ((t && s) || ((b && s) || false)) ≡ ((b || t) && s)
either true true true = refl
either true true false = refl
either true false true = refl
either true false false = refl
either false true true = refl
either false true false = refl
either false false s = refl

pub returns-clause-changed : goal.returns-clause-changed
returns-clause-changed g c =
    let line = c.args.line.now in
    let es = c.args.maps.now.facts.held.entries in
    let after = with_entry bytes_cmp line.0 line.1 es in
    let deltas = c.args.maps.now.deltas.held.entries in
    let children = c.args.maps.now.children.held.entries in
    let k = c.requires.kept in
    let same : (q : List ℕ) → not (is_same_row c.of-old.result c.with-new.result q) ≡ not (is_same_row es after q) = λ q.
    λ i. not (is_same_row (c.of-old.ensures i) (c.with-new.ensures i) q) in
    let noted : (q : List ℕ) → has c.note_others.new.names.keys q ≡ ((bytes_eq q line.0 || is_touched deltas children line.0 q) && not (is_same_row es after q)) = λ q.
    c.in_ok-note_others.ensures.noted q
    ∙ (λ i. ((ap (λ l. has l q) c.items.ensures ∙ c.in_ok-list.ensures.names q) i && same q i)
    || (c.in_ok-note_own.ensures.noted q ∙ (λ j. (bytes_eq q line.0 && same q j) || has (c.new-names.ensures.empty j) q)) i)
    ∙ either (bytes_eq q line.0) (is_touched deltas children line.0 q) (not (is_same_row es after q)) in
    if_ok_map c.listed.result
    (λ list e. subst (ListsChanged (files_row (facts_of es)) (files_row (facts_of after))) (sym e)
    (lists_changed es line.0 line.1 deltas children k.deltas k.children c.note_others.new.names.keys c.listed.ensures.rising noted))
    c.listed.ensures.names
