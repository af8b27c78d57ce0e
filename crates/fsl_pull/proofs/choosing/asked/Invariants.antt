use Rattle.std.proofs.Common.{◌≡◌, ◌++◌, drop}
use Rattle.fsl_pull.specs.Replies.{asked_in}
use Rattle.fsl_pull.proofs.choosing.asked.Given as goal

abbrev pub invariant-loop-card : goal.invariant-loop-card
invariant-loop-card l = asked_in l.cards ≡ l.names.items ++ asked_in (drop l.card-index l.cards)
