use Rattle.std.proofs.Common.{◌+◌, ◌-◌, ◌∙◌, List, length, take, drop, refl, sym, ap}
use Rattle.fsl_wire.specs.declared.WireCard.{WireCard}
use Rattle.fsl_wire.specs.Drafts.{with_tails, logins_of}
use Rattle.fsl_wire.proofs.ReadLemmas.{no_cards, cards_more, cards_end}
use Rattle.fsl_wire.proofs.reading.read_cards.Goals as goal

pub lines-init : goal.lines-init
lines-init c = (
  no_cards c.args.bytes.now (with_tails c.args.cards.now.items c.args.behinds.now.items) (ap (λ (cs : List WireCard). with_tails cs c.args.behinds.now.items) c.requires.0),
  ap length c.requires.1 ∙ sym (ap logins_of c.requires.0),
)

pub returns-in-Last-clause-message : goal.returns-in-Last-clause-message
returns-in-Last-clause-message c =
    let bytes = c.args.bytes.now in
    let rest = take (length bytes - c.lines.at) (drop c.lines.at bytes) in
    cards_end bytes rest c.lines.line c.lines.at c.in-Last.meaning (with_tails c.lines.cards.items c.lines.behinds.items) (with_tails c.add_card.new.cards.items c.add_card.new.behinds.items) c.lines.invariant.0 refl c.in-Last.ensures
    c.in_ok-add_card-in-Last.ensures.cards

pub lines-preserved : goal.lines-preserved
lines-preserved c =
    let bytes = c.args.bytes.now in
    let rest = take (length bytes - c.lines.at) (drop c.lines.at bytes) in
    let behind = take (length rest - c.in-Line.from) (drop c.in-Line.from rest) in (
      cards_more bytes rest behind c.lines.line c.lines.at (c.lines.at + c.in-Line.to) c.in-Line.from c.in-Line.to c.in-Line.meaning (with_tails c.lines.cards.items c.lines.behinds.items) (with_tails c.add_card-in-Line.new.cards.items c.add_card-in-Line.new.behinds.items)
          c.lines.invariant.0 refl refl c.in-Line.ensures refl c.in_ok-add_card-in-Line.ensures.cards,
      c.in_ok-add_card-in-Line.ensures.each,
    )
