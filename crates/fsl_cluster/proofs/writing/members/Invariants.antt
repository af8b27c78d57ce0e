use Rattle.std.proofs.Common.{◌≡◌, take}
use Rattle.fsl_cluster.specs.Clusters.{member_cards}
use Rattle.fsl_cluster.proofs.writing.members.Given as goal

abbrev pub invariant-loop-name : goal.invariant-loop-name
invariant-loop-name l = l.text ≡ member_cards (take l.name-index l.names)
