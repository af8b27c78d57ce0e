use Rattle.std.proofs.Common.{◌≡◌, take}
use Rattle.fsl_uv.specs.Cards.{message_text}
use Rattle.fsl_uv.specs.Syncing.{given}
use Rattle.fsl_uv.proofs.messages.given_to.Given as goal

abbrev pub invariant-loop-card : goal.invariant-loop-card
invariant-loop-card l = l.text ≡ message_text (given l.held (take l.card-index l.cards))
