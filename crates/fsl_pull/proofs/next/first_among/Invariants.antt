use Rattle.std.proofs.Common.{◌≡◌, drop}
use Rattle.std.specs.Prelude.{find}
use Rattle.fsl_order.specs.Names.{has}
use Rattle.fsl_pull.proofs.next.first_among.Given as goal

abbrev pub invariant-loop-name : goal.invariant-loop-name
invariant-loop-name l = find (has l.names) l.next ≡ find (has l.names) (drop l.name-index l.next)
