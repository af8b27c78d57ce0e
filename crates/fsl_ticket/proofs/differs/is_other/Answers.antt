use Rattle.std.proofs.Common.{◌≡◌, ◌∙◌, ◌&&◌, List, Bool, true, false, not, refl, sym, ap}
use mathlib.Core.Bool.{true≢false}
use Rattle.std.specs.Prelude.{◌==◌, length}
use Rattle.std.specs.Str.{bytes_eq}
use Rattle.fsl_order.specs.Names.{bytes_cmp}
use Rattle.fsl_order.proofs.Booleans.{first_holds, second_holds}
use Rattle.fsl_table.specs.Contents.{first_of}
use Rattle.fsl_table.specs.Within.{within}
use Rattle.fsl_ticket.specs.declared.FieldChange.{FieldChange}
use Rattle.fsl_ticket.specs.FieldOrder.{field_cmp}
use Rattle.fsl_ticket.specs.Kept.{is_set, rows_of}
use Rattle.fsl_ticket.specs.Walked.{is_newer, value_below}
use Rattle.fsl_ticket.proofs.Folding.{other_masked, other_set, other_longer, other_none}
use Rattle.fsl_ticket.proofs.Settings.{masked_is}
use Rattle.fsl_ticket.proofs.differs.is_other.Goals as goal

unset : (b : Bool) → not b ≡ true → b ≡ false
unset true h = sym h
unset false h = refl

filled : (b e : Bool) → b ≡ false → (not b && e) ≡ false → e ≡ false
filled true e n h = absurd (true≢false n)
filled false e n h = h

pub returns-then-is_untouched : goal.returns-then-is_untouched
returns-then-is_untouched g c =
    let fact = c.args.fact.now in
    let q = c.args.field.now in
    let own = c.value_of-value.result.now in
    let both : (not c.is_set-replaced.result && (length own == 0)) ≡ true = sym c.is_untouched.ensures ∙ c.if-is_untouched.true in
    other_none c.args.maps.now.facts.held.entries fact.changes (fact.date, fact.name) (within bytes_cmp fact.id c.args.maps.now.spots.held.entries) q own (c.value_of-value.ensures ∙ c.requires.own q)
    (sym (c.is_set-replaced.ensures ∙ ap (λ (cards : List FieldChange). is_set cards q) c.items.ensures) ∙ unset c.is_set-replaced.result (first_holds (not c.is_set-replaced.result) (length own == 0) both))
    (second_holds (not c.is_set-replaced.result) (length own == 0) both)

pub returns-then-branch : goal.returns-then-branch
returns-then-branch g c =
    let fact = c.args.fact.now in
    let m = rows_of c.args.maps.now in
    let q = c.args.field.now in
    let newest = first_of (within field_cmp (record { id = fact.id; field = q }) m.sets.entries) in
    other_masked m.facts.entries fact.changes (fact.date, fact.name) (within bytes_cmp fact.id m.spots.entries) q c.value_of-value.result.now (c.value_of-value.ensures ∙ c.requires.own q)
    (sym (c.in_ok-is_masked.ensures ∙ ap (λ p. is_newer p newest) c.new-place.ensures ∙ masked_is m c.requires.kept fact.id q (fact.date, fact.name)) ∙ c.if-branch.true)

pub returns-then-not-replaced : goal.returns-then-not-replaced
returns-then-not-replaced g c =
    let fact = c.args.fact.now in
    let m = rows_of c.args.maps.now in
    let q = c.args.field.now in
    let own = c.value_of-value.result.now in
    let newest = first_of (within field_cmp (record { id = fact.id; field = q }) m.sets.entries) in
    ap not (sym c.if-branch.false ∙ c.in_ok-is_masked.ensures ∙ ap (λ p. is_newer p newest) c.new-place.ensures ∙ masked_is m c.requires.kept fact.id q (fact.date, fact.name))
    ∙ other_longer m.facts.entries fact.changes (fact.date, fact.name) (within bytes_cmp fact.id m.spots.entries) q own (c.value_of-value.ensures ∙ c.requires.own q)
    (sym (c.is_set-replaced.ensures ∙ ap (λ (cards : List FieldChange). is_set cards q) c.items.ensures) ∙ c.if-not-replaced.true)
    (filled c.is_set-replaced.result (length own == 0) c.if-not-replaced.true (sym c.is_untouched.ensures ∙ c.if-is_untouched.false))

pub returns-in-Ok : goal.returns-in-Ok
returns-in-Ok g c =
    let fact = c.args.fact.now in
    let m = rows_of c.args.maps.now in
    let es = m.facts.entries in
    let q = c.args.field.now in
    let ws = within bytes_cmp fact.id m.spots.entries in
    let own = c.value_of-value.result.now in
    let newest = first_of (within field_cmp (record { id = fact.id; field = q }) m.sets.entries) in
    ap not (c.eq-same.ensures ∙ ap (λ v. bytes_eq v own) (c.bytes.ensures ∙ c.in-Ok.ensures ∙ ap (λ p. value_below es p q ws) c.new-place.ensures))
    ∙ other_set es fact.changes (fact.date, fact.name) ws q own (c.value_of-value.ensures ∙ c.requires.own q)
    (sym (c.is_set-replaced.ensures ∙ ap (λ (cards : List FieldChange). is_set cards q) c.items.ensures) ∙ c.if-not-replaced.false)
    (sym (c.in_ok-is_masked.ensures ∙ ap (λ p. is_newer p newest) c.new-place.ensures ∙ masked_is m c.requires.kept fact.id q (fact.date, fact.name)) ∙ c.if-branch.false)
