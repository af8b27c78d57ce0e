use Rattle.std.proofs.Common.{◌≡◌, drop}
use Rattle.std.specs.List.{list_all}
use Rattle.fsl_order.specs.Names.{has}
use Rattle.fsl_pull.proofs.sent.SentSoFar.has_all.Given as goal

abbrev pub invariant-loop-name : goal.invariant-loop-name
invariant-loop-name l = list_all (has l.self.order) l.names ≡ list_all (has l.self.order) (drop l.name-index l.names)
