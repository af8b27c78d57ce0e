use Rattle.std.proofs.Common.{◌≡◌, ◌||◌, ◌∙◌, List, ℕ, ap}
use Rattle.std.specs.List.{list_any}
use Rattle.fsl_order.specs.Names.{has}
use Rattle.fsl_order.proofs.Booleans.{or_false}
use Rattle.fsl_table.specs.Pairs.{seconds}
use Rattle.fsl_table.proofs.Outcomes.{if_ok_map}
use Rattle.fsl_files.specs.Kept.{is_touched}
use Rattle.fsl_files.proofs.touched.touched.Goals as goal

pub returns-clause-names : goal.returns-clause-names
returns-clause-names g c =
    let deltas = c.args.deltas.now.held.entries in
    let children = c.args.children.now.held.entries in
    let name = c.args.name in
    let noted : (q : List ℕ) → has c.note_each.new.names.keys q ≡ is_touched deltas children name q = λ q.
    c.in_ok-note_each.ensures.noted q
    ∙ (λ i. list_any (λ up. has (seconds up children) q) ((c.items-2.ensures ∙ c.in_ok-over.ensures.seconds) i)
    || (c.in_ok-note_children.ensures.noted q ∙ ap (λ b. has (seconds name children) q || b)
    (c.in_ok-note_all.ensures.noted q ∙ (λ j. has ((c.items.ensures ∙ c.in_ok-over.ensures.seconds) j) q || has (c.new-names.ensures.empty j) q) ∙ or_false (has (seconds name deltas) q))) i) in
    if_ok_map c.listed.result (λ list e. λ q. ap (λ ns. has ns q) e ∙ noted q) c.listed.ensures.names
