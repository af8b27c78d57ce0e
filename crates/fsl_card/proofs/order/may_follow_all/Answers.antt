use Rattle.std.proofs.Common.{List, sym, ap, ◌∙◌}
use Rattle.fsl_card.specs.declared.types.Card.{Card}
use Rattle.fsl_card.specs.Parts.{may_follow_all}
use Rattle.fsl_card.proofs.CardLemmas.{may_follow_all-last}
use Rattle.fsl_card.proofs.order.may_follow_all.Goals as goal

pub returns-in-Some : goal.returns-in-Some
returns-in-Some c =
    c.may_follow.ensures ∙ sym (ap (λ (l : List Card). may_follow_all l c.args.next.now) c.in-Some.ensures.cases.0 ∙ may_follow_all-last c.in-Some.field-0-1.now c.in-Some.last.now c.args.next.now)
