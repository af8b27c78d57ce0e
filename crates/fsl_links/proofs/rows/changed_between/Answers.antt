use Rattle.std.proofs.Common.{◌≡◌, ◌||◌, not, ◌∙◌, List, ℕ, slice_get, sym, ap}
use Rattle.std.specs.Str.{bytes_eq}
use Rattle.fsl_order.specs.Names.{has}
use Rattle.fsl_links.specs.Kept.{leader, same_name, in_one, moves}
use Rattle.fsl_links.proofs.Moving.{lists_moved}
use Rattle.fsl_links.proofs.Waiting.{if_ok, led, not_led}
use Rattle.fsl_links.proofs.rows.changed_between.Goals.{then-not-is_same+in_ok-note, else-not-is_same}
use Rattle.fsl_links.proofs.rows.changed_between.Goals as goal

pub returns : goal.returns
returns g c =
    let es = c.args.facts.now.held.entries in
    let name = c.args.name in
    let old = c.args.before.now in
    let new = c.args.after.now in
    let same : same_name (leader es (slice_get old 0)) (leader es (slice_get new 0)) ≡ c.is_same.result = sym (c.is_same.ensures ∙ (λ i. same_name (c.leading-old.ensures i) (c.leading-new.ensures i))) in
    let noted : (q : List ℕ) → has c.if-not-is_same.names.keys q ≡ moves es name old new q = λ q.
    elim c.if-not-is_same.branch [
      | then-not-is_same+in_ok-note b ↦ ap (λ s. has s.keys q) b.names-is ∙ b.in_ok-note.ensures.noted q ∙ ap (λ x. bytes_eq q name || x) (c.in_ok-names.ensures q)
          ∙ led (not (same_name (leader es (slice_get old 0)) (leader es (slice_get new 0)))) (bytes_eq q name) (in_one old new q) (ap not (same ∙ b.if-not-is_same.true))
      | else-not-is_same b ↦ ap (λ s. has s.keys q) b.names-is ∙ c.in_ok-names.ensures q
          ∙ not_led (not (same_name (leader es (slice_get old 0)) (leader es (slice_get new 0)))) (bytes_eq q name) (in_one old new q) (ap not (same ∙ b.if-not-is_same.false))
    ] in
    record {
      changed = if_ok _ c.listed.result c.if-not-is_same.names.keys c.listed.ensures.names
          (lists_moved es name old new c.requires.ordered c.requires.there c.if-not-is_same.names.keys c.listed.ensures.rising noted);
    }
