use Rattle.std.proofs.Common.{◌≡◌, take}
use Rattle.std.specs.Prelude.{filter_map}
use Rattle.fsl_order.specs.Names.{dated_cmp}
use Rattle.fsl_order.specs.Rows.{greatest}
use Rattle.fsl_cross.specs.Inside.{dated_over}
use Rattle.fsl_cross.proofs.tip.latest.Given as goal

-- the latest of those that were passed
abbrev pub invariant-loop-name : goal.invariant-loop-name
invariant-loop-name l = l.best ≡ greatest dated_cmp (filter_map (dated_over l.tags.facts l.items) (take l.name-index l.names))
