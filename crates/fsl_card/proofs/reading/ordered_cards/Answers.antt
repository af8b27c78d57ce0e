use Rattle.std.proofs.Common.{◌≡◌, false, ℕ, List, length, subst, sym, ap, ◌∙◌, rules}
use Rattle.std.proofs.lemmas.Bool.{eqb-false}
use Rattle.std.proofs.lemmas.List.{take_rest}
use Rattle.fsl_card.specs.declared.types.Card.{Card}
use Rattle.fsl_card.specs.Parts.{may_follow_all}
use Rattle.fsl_card.proofs.CardLemmas.{AreOrderedTo, no_more, ordered_more, out_of_order}
use Rattle.fsl_card.proofs.reading.ordered_cards.Goals as goal

pub returns-in_default : goal.returns-in_default
returns-in_default c =
    no_more c.loop-rest.cards c.args.text.now c.loop-rest.rest.now c.loop-rest.invariant
    (λ e. eqb-false (length c.loop-rest.rest.now) 0 (sym c.is_empty.ensures ∙ c.loop-rest-test.true) (ap length e))
    (rw c.in_default.is at c.in_ok-front.ensures.none)

pub returns-then-not-may_follow_all : goal.returns-then-not-may_follow_all
returns-then-not-may_follow_all c =
    let falls : may_follow_all c.loop-rest.cards c.in-Some.front.card ≡ false =
    ap (λ (l : List Card). may_follow_all l c.in-Some.front.card) (sym c.items.ensures) ∙ sym c.may_follow_all.ensures ∙ c.if-not-may_follow_all.true in
    out_of_order c.args.text.now c.loop-rest.cards c.in-Some.front.card c.loop-rest.rest.now _ c.loop-rest.invariant
    (rw c.in-Some.is at c.in_ok-front.ensures.card) (rw c.in-Some.is at c.in_ok-front.ensures.spelled) falls

pub loop-rest-preserved : goal.loop-rest-preserved
loop-rest-preserved c =
    let follows = ap (λ (l : List Card). may_follow_all l c.in-Some.front.card) (sym c.items.ensures) ∙ sym c.may_follow_all.ensures ∙ c.if-not-may_follow_all.false in
    let P : List ℕ → Type 0 = λ r. AreOrderedTo c.args.text.now c.append.new.self r in
    subst P (sym (take_rest c.loop-rest.rest.now c.in-Some.front.taken))
    (ordered_more c.args.text.now c.loop-rest.cards c.append.new.self c.in-Some.front.card c.loop-rest.rest.now _ c.loop-rest.invariant
    (rw c.in-Some.is at c.in_ok-front.ensures.card) (rw c.in-Some.is at c.in_ok-front.ensures.spelled) follows (search rules))
