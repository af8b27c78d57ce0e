use Rattle.std.proofs.Common.{◌-◌, ℕ, List, Some, drop, length, subst, sym, take, ◌∙◌}
use Rattle.fsl_card.specs.Cards.{BodyFits}
use Rattle.fsl_card.proofs.FrontLemmas.{body_front, no_body, plain_front, split_line}
use Rattle.fsl_card.proofs.front.front_card.Goals as goal

pub returns-then-letter-ne87-clause-spelled : goal.returns-then-letter-ne87-clause-spelled
returns-then-letter-ne87-clause-spelled c =
    let line : List ℕ = take (length c.args.bytes.now - 1) (drop 1 c.args.bytes.now) in
    plain_front c.args.bytes.now c.in-Some.found.list (take (length line - c.in-Some.found.taken) (drop c.in-Some.found.taken line)) c.in-len1-up.len_at_least
    (split_line c.args.bytes.now c.in-Some.found.list c.in-Some.found.taken (rw c.in-Some.is at c.in_ok-found.ensures.spelled))

pub returns-in_default-body_size-clause-none : goal.returns-in_default-body_size-clause-none
returns-in_default-body_size-clause-none c =
    let line : List ℕ = take (length c.args.bytes.now - 1) (drop 1 c.args.bytes.now) in
    no_body c.args.bytes.now c.in-Some.found.list (take (length line - c.in-Some.found.taken) (drop c.in-Some.found.taken line))
    (rw c.in-Some.is at c.in_ok-found.ensures.some)
    (split_line c.args.bytes.now c.in-Some.found.list c.in-Some.found.taken (rw c.in-Some.is at c.in_ok-found.ensures.spelled))
    c.if-letter-ne87.false
    (λ body more fits e. let P : List (List ℕ) → Type 0 = λ l. BodyFits 87 l (Some body) in c.in_default-body_size.ensures.none body more (subst P (sym c.items.ensures) fits) e)

pub returns-clause-spelled : goal.returns-clause-spelled
returns-clause-spelled c =
    let line : List ℕ = take (length c.args.bytes.now - 1) (drop 1 c.args.bytes.now) in
    body_front c.args.bytes.now c.in-Some.found.list (take (length line - c.in-Some.found.taken) (drop c.in-Some.found.taken line))
    c.in_ok-body.body c.split_at.result.1.now c.in-Some-body_size.size c.in-len1-up.len_at_least
    (split_line c.args.bytes.now c.in-Some.found.list c.in-Some.found.taken (rw c.in-Some.is at c.in_ok-found.ensures.spelled))
    c.in-Some-body_size.ensures.spelled (c.in_ok-body.ensures ∙ c.split_at.ensures.front) c.split_at.ensures.back
