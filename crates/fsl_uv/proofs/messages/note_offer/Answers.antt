use Rattle.std.proofs.Common.{◌≡◌, ap, ◌∷◌, ◌++◌, [], Some, sym, subst, ◌∙◌}
use Rattle.std.specs.BTreeMap.{insert_entry}
use Rattle.fsl_order.specs.Names.{bytes_cmp}
use Rattle.fsl_uv.specs.declared.Card.{Card}
use Rattle.fsl_uv.specs.declared.messages.Offer.{Offer}
use Rattle.fsl_uv.specs.Reading.{offers_seen, first_offers, NotesOffer}
use Rattle.fsl_uv.proofs.OfferLemmas.{ok-then, no-offer, unnoted, noted-before, noted-first}
use Rattle.fsl_uv.proofs.messages.note_offer.Goals as goal

pub returns-in_default : goal.returns-in_default
returns-in_default c = λ paths cards h. unnoted c.args.offers.now.entries paths cards h c.args.card.now (no-offer c.args.card.now c.in_default.not-Igot)

pub returns-then-is_offered : goal.returns-then-is_offered
returns-then-is_offered c = λ paths cards h.
    subst (λ (k : Card). offers_seen c.args.offers.now.entries ≡ first_offers paths (cards ++ k ∷ [])) (sym c.in-Igot.is)
    (noted-before c.args.offers.now.entries paths cards h c.in-Igot.path c.in-Igot.moment c.in-Igot.hash c.in-Igot.size (sym c.is_offered.ensures ∙ c.if-is_offered.true))

pub returns : goal.returns
returns c =
    let old = c.args.offers.now.entries in
    let new = c.note.new.offers.entries in
    let offer : Offer = record { moment = c.in-Igot.moment; hash = c.in-Igot.hash } in
    ok-then c.note.result (new ≡ insert_entry bytes_cmp old c.in-Igot.path (Some offer)) (NotesOffer old c.args.card.now new)
    (λ is paths cards h. ap offers_seen is ∙ subst (λ (k : Card). offers_seen (insert_entry bytes_cmp old c.in-Igot.path (Some offer)) ≡ first_offers paths (cards ++ k ∷ [])) (sym c.in-Igot.is)
    (noted-first old paths cards h c.in-Igot.path c.in-Igot.moment c.in-Igot.hash c.in-Igot.size (sym c.is_offered.ensures ∙ c.if-is_offered.false))) c.note.ensures
