use Rattle.std.proofs.Common.{◌≡◌, ◌∷◌, ℕ, List, drop, length, refl, subst, ap, ◌∙◌, rules}
use Rattle.std.proofs.lemmas.Bool.{false≢true}
use Rattle.std.proofs.lemmas.List.{take_rest}
use Rattle.fsl_card.proofs.ArgumentLemmas.{field_ends, line_ends, no_arguments}
use Rattle.fsl_card.proofs.arguments.arguments.Goals as goal

pub returns-then-starts_with-clause-spelled : goal.returns-then-starts_with-clause-spelled
returns-then-starts_with-clause-spelled c =
    let P : List ℕ → Type 0 = λ r. r ≡ 10 ∷ drop 1 r in
    line_ends c.args.bytes.now c.in_ok-list.field-0.list c.in_ok-list.field-0.taken c.in_ok-list.ensures
    (subst P (take_rest c.args.bytes.now c.in_ok-list.field-0.taken) (c.if-starts_with.ensures.yes refl))

pub returns-then-not-is_empty_field-clause-none : goal.returns-then-not-is_empty_field-clause-none
returns-then-not-is_empty_field-clause-none c =
    let rest = take_rest c.args.bytes.now c.in_ok-list.field-0.taken in
    no_arguments c.args.letter c.args.bytes.now c.in_ok-list.field-0.list (drop c.in_ok-list.field-0.taken c.args.bytes.now)
    c.in_ok-list.ensures.read c.in_ok-list.ensures.ends
    (λ more e. false≢true (c.if-starts_with.ensures.no more (rest ∙ e)))
    (λ more letter one e. false≢true (c.if-not-is_empty_field.ensures.no more letter (ap length c.items.ensures ∙ one) (rest ∙ e)))

pub returns-clause-spelled : goal.returns-clause-spelled
returns-clause-spelled c =
    let P : List ℕ → Type 0 = λ r. r ≡ 32 ∷ 10 ∷ drop 2 r in
    field_ends c.args.bytes.now c.in_ok-list.field-0.list c.append.new.self c.in_ok-list.field-0.taken c.in_ok-list.ensures
    (subst P (take_rest c.args.bytes.now c.in_ok-list.field-0.taken) (c.if-not-is_empty_field.ensures.spelled refl)) (search rules)
