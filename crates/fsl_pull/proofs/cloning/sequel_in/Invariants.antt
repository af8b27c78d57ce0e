use Rattle.std.proofs.Common.{◌≡◌, drop}
use Rattle.fsl_pull.specs.Replies.{sequel_in}
use Rattle.fsl_pull.proofs.cloning.sequel_in.Given as goal

abbrev pub invariant-loop-card : goal.invariant-loop-card
invariant-loop-card l = sequel_in l.cards ≡ sequel_in (drop l.card-index l.cards)
