use Rattle.std.proofs.Common.{◌≡◌, drop}
use Rattle.fsl_pull.specs.Replies.{error_text}
use Rattle.fsl_pull.proofs.replies.error_card.Given as goal

abbrev pub invariant-loop-card : goal.invariant-loop-card
invariant-loop-card l = error_text l.cards ≡ error_text (drop l.card-index l.cards)
