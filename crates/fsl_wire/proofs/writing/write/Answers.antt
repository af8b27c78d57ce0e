use Rattle.std.proofs.Common.{◌≡◌, ℕ, ◌∙◌, List, ap, sym, subst, take}
use Rattle.std.specs.List.{AllByRecursion}
use Rattle.std.proofs.lemmas.List.{take_all}
use Rattle.fsl_wire.specs.declared.WireCard.{WireCard}
use Rattle.fsl_wire.specs.Messages.{IsMessage}
use Rattle.fsl_wire.specs.Writing.{message_bytes, IsOfType}
use Rattle.fsl_wire.proofs.ReadBack.{is_read_back}
use Rattle.fsl_wire.proofs.writing.write.Goals as goal

pub returns-clause-again : goal.returns-clause-again
returns-clause-again c =
    let cards = c.args.message.now in
    let all : take c.loop-card.card-index c.cards-card-items.result.now ≡ cards = take_all c.loop-card.card-index c.cards-card-items.result.now c.loop-card-test.false ∙ c.cards-card-items.ensures in
    subst (λ (text : List ℕ). IsMessage text cards) (sym (c.loop-card.invariant.bytes ∙ ap message_bytes all))
    (is_read_back cards (subst (λ (cs : List WireCard). AllByRecursion IsOfType cs) all c.loop-card.invariant.typed) c.requires)
