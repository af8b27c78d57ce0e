use Rattle.std.proofs.Common.{◌≡◌, ◌++◌, [], drop}
use Rattle.fsl_answer.specs.Contents.{each_once}
use Rattle.fsl_repo.proofs.asking.once.Given as goal

abbrev pub invariant-loop-name : goal.invariant-loop-name
invariant-loop-name l = each_once [] l.names ≡ l.list.items ++ each_once l.seen.keys (drop l.name-index l.names)
