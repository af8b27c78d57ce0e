use Rattle.std.proofs.Common.{◌≡◌, ◌++◌, drop}
use Rattle.fsl_pull.specs.Replies.{announced_in}
use Rattle.fsl_pull.proofs.next.announced.Given as goal

abbrev pub invariant-loop-card : goal.invariant-loop-card
invariant-loop-card l = announced_in l.cards ≡ l.names.items ++ announced_in (drop l.card-index l.cards)
