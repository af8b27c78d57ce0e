use Rattle.std.proofs.Common.{◌≡◌, ◌++◌, drop}
use Rattle.fsl_answer.specs.Contents.{each_once}
use Rattle.fsl_pull.proofs.choosing.unsent.Given as goal

abbrev pub invariant-loop-name : goal.invariant-loop-name
invariant-loop-name l = each_once l.sent.order l.names ≡ l.list.items ++ each_once (l.seen.keys ++ l.sent.order) (drop l.name-index l.names)
