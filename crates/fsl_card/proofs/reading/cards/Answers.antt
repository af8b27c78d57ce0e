use Rattle.std.proofs.Common.{ℕ, List, sym, ap, subst, ◌∙◌, rules}
use Rattle.fsl_card.specs.declared.types.Card.{Card}
use Rattle.fsl_card.specs.Cards.{IsCards, text_of}
use Rattle.fsl_card.specs.Parts.{may_follow_all}
use Rattle.fsl_card.proofs.SealLemmas.{not_sealed, sealed_cards, text_is_finished, unsealed, z_card}
use Rattle.fsl_card.proofs.reading.cards.Goals as goal

pub returns-in_default : goal.returns-in_default
returns-in_default c all is = c.in_default.ensures.none (text_of is.sealed.0) (text_is_finished c.args.text.now all is)

pub returns-in_default-2 : goal.returns-in_default-2
returns-in_default-2 c all is =
    let parts = unsealed c.args.text.now c.in-Some.sealed.front.now all c.in-Some.ensures.spelled is in
    rw c.in_default-2.is at c.in_ok-cards.ensures parts.cards parts.are

pub returns-then-not-may_follow_all : goal.returns-then-not-may_follow_all
returns-then-not-may_follow_all c =
    let seal_is = c.in_ok-seal.ensures ∙ ap z_card c.in-Some.ensures.digits in
    let falls = ap (λ (l : List Card). may_follow_all l c.in_ok-seal.seal) (sym c.items.ensures) ∙ sym c.may_follow_all.ensures ∙ c.if-not-may_follow_all.true in
    not_sealed c.args.text.now c.in-Some.sealed.front.now c.in-Some-2.cards c.in_ok-seal.seal c.in-Some.ensures.spelled (rw c.in-Some-2.is at c.in_ok-cards.ensures) seal_is falls

pub from_list-requires : goal.from_list-requires
from_list-requires c =
    let seal_is = c.in_ok-seal.ensures ∙ ap z_card c.in-Some.ensures.digits in
    let follows = ap (λ (l : List Card). may_follow_all l c.in_ok-seal.seal) (sym c.items.ensures) ∙ sym c.may_follow_all.ensures ∙ c.if-not-may_follow_all.false in
    let is = sealed_cards c.args.text.now c.in-Some.sealed.front.now c.in-Some-2.cards c.append.new.self c.in_ok-seal.seal c.in-Some.ensures.spelled
    (rw c.in-Some-2.is at c.in_ok-cards.ensures) seal_is follows (search rules) in
    subst (λ (text : List ℕ). IsCards text c.append.new.self) is.spelled is

pub returns : goal.returns
returns c =
    let seal_is = c.in_ok-seal.ensures ∙ ap z_card c.in-Some.ensures.digits in
    let follows = ap (λ (l : List Card). may_follow_all l c.in_ok-seal.seal) (sym c.items.ensures) ∙ sym c.may_follow_all.ensures ∙ c.if-not-may_follow_all.false in
    sealed_cards c.args.text.now c.in-Some.sealed.front.now c.in-Some-2.cards c.from_list.result c.in_ok-seal.seal c.in-Some.ensures.spelled
    (rw c.in-Some-2.is at c.in_ok-cards.ensures) seal_is follows (search rules)
