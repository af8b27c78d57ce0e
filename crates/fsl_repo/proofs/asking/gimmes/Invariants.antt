use Rattle.std.proofs.Common.{◌≡◌, ◌++◌, drop}
use Rattle.std.specs.Prelude.{filter_map}
use Rattle.fsl_answer.specs.Contents.{gimme_of}
use Rattle.fsl_repo.proofs.asking.gimmes.Given as goal

abbrev pub invariant-loop-card : goal.invariant-loop-card
invariant-loop-card l = filter_map gimme_of l.message ≡ l.names.items ++ filter_map gimme_of (drop l.card-index l.message)
