use Rattle.std.proofs.Common.{◌≡◌, drop}
use Rattle.std.specs.Prelude.{filter_map}
use Rattle.fsl_answer.specs.Contents.{first_of, clone_of}
use Rattle.fsl_repo.proofs.asking.first_clone.Given as goal

abbrev pub invariant-loop-card : goal.invariant-loop-card
invariant-loop-card l = first_of (filter_map clone_of l.message) ≡ first_of (filter_map clone_of (drop l.card-index l.message))
