use Rattle.std.proofs.Common.{ℕ, List, ap, ◌∙◌}
use Rattle.std.specs.Borrow.{Bor}
use Rattle.fsl_wire.specs.Drafts.{with_tails}
use Rattle.fsl_wire.proofs.DraftLemmas.{bare_tails}
use Rattle.fsl_wire.proofs.reading.read_bare.Goals as goal

pub returns-clause-message : goal.returns-clause-message
returns-clause-message c =
    let cards = c.read_cards.new.cards.items in
    let behinds = c.read_cards.new.behinds.items in (
      with_tails cards behinds,
      c.in_ok-read_cards.ensures.message,
      c.into_message.ensures ∙ c.of.ensures.message ∙ ap (λ (b : List (Bor (List ℕ))). with_tails cards b) c.new.ensures.items ∙ bare_tails cards behinds,
    )
