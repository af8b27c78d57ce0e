use Rattle.std.proofs.Common.{◌≡◌, drop}
use Rattle.fsl_pull.specs.Clones.{project_in}
use Rattle.fsl_pull.proofs.cloning.project_in.Given as goal

abbrev pub invariant-loop-card : goal.invariant-loop-card
invariant-loop-card l = project_in l.cards ≡ project_in (drop l.card-index l.cards)
