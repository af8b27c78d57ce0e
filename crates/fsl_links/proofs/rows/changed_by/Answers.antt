use Rattle.std.proofs.Common.{◌≡◌, ◌||◌, ◌&&◌, ◌∙◌, List, ℕ, sym, ap}
use Rattle.std.specs.Str.{bytes_eq}
use Rattle.fsl_order.specs.Names.{has}
use Rattle.fsl_order.proofs.Booleans.{or_false}
use Rattle.fsl_links.specs.Kept.{changes, waits, leads}
use Rattle.fsl_links.proofs.Changed.{lists_changed}
use Rattle.fsl_links.proofs.Waiting.{if_ok, led, not_led}
use Rattle.fsl_links.proofs.rows.changed_by.Goals.{then-is_led+in_ok-note, else-is_led}
use Rattle.fsl_links.proofs.rows.changed_by.Goals as goal

pub returns-clause-changed : goal.returns-clause-changed
returns-clause-changed g c =
    let es = c.args.facts.now.held.entries in
    let name = c.args.fact.now.name in
    let parents = c.args.fact.now.parents in
    let all : (q : List ℕ) → has c.note_all.new.names.keys q ≡ has parents q = λ q.
    c.in_ok-note_all.ensures.noted q ∙ ap (λ ks. has c.items-parents.result.now q || has ks q) c.new-names.ensures.empty ∙ or_false (has c.items-parents.result.now q) ∙ ap (λ ps. has ps q) c.items-parents.ensures in
    let is : leads es name parents ≡ c.is_led.result = ap (leads es name) (sym c.items-parents.ensures) ∙ sym c.is_led.ensures.leads in
    let own : (q : List ℕ) → has c.if-is_led.names.keys q ≡ ((leads es name parents && bytes_eq q name) || has parents q) = λ q.
    elim c.if-is_led.branch [
      | then-is_led+in_ok-note b ↦ ap (λ s. has s.keys q) b.names-is ∙ b.in_ok-note.ensures.noted q ∙ ap (λ x. bytes_eq q name || x) (all q) ∙ led (leads es name parents) (bytes_eq q name) (has parents q) (is ∙ b.if-is_led.true)
      | else-is_led b ↦ ap (λ s. has s.keys q) b.names-is ∙ all q ∙ not_led (leads es name parents) (bytes_eq q name) (has parents q) (is ∙ b.if-is_led.false)
    ] in
    let noted : (q : List ℕ) → has c.note_waiting.new.names.keys q ≡ changes es name parents q = λ q.
    c.in_ok-note_waiting.ensures.noted q ∙ ap (λ x. waits es name q || x) (own q) in
    if_ok _ c.listed.result c.note_waiting.new.names.keys c.listed.ensures.names
    (lists_changed es name parents c.requires.kept.ordered c.requires.absent c.note_waiting.new.names.keys c.listed.ensures.rising noted)
