use Rattle.std.proofs.Common.{◌≡◌, drop}
use Rattle.std.specs.List.{list_all}
use Rattle.fsl_order.specs.Names.{has}
use Rattle.fsl_pull.proofs.next.all_asked.Given as goal

abbrev pub invariant-loop-name : goal.invariant-loop-name
invariant-loop-name l = list_all (has l.asked) l.next ≡ list_all (has l.asked) (drop l.name-index l.next)
