-- A map with its way back may go to another thread, and be shared, where its keys and values may. The kit shows this by itself of a struct whose fields have files `TheSendSync`; a `Snapshot` has none, so what holds one is shown here.
use denote.RattleType.{RattleType}
use denote.Param.Send.{IsSend, IsSync, sendable}
use Rattle.std.specs.declared.cmp.Ord as ord
use Rattle.std.specs.declared.cmp.PartialEq as eq
use Rattle.std.specs.declared.cmp.PartialOrd as partial
use Rattle.std.proofs.Crossing.{crosses as std_cross}
use Rattle.fsl_table.specs.contracts.tracked.Tracked as Tracked
use Rattle.fsl_table.specs.contracts.tracked.Way as Way
use Rattle.fsl_table.proofs.table.Table.TheSendSync as table
use Rattle.fsl_table.proofs.log.Log.TheSendSync as log

module _ (K V : RattleType) (o : ord.Ghosts K.Denot) (e : eq.Ghosts K.Denot) (p : partial.Ghosts K.Denot) where
  pub tracked_send : IsSend K → IsSend V → IsSend (Tracked.the_row K V o e p)
  tracked_send sk sv = search (sendable, std_cross, table.the_send, log.the_send) depth 30

  pub tracked_sync : IsSync K → IsSync V → IsSync (Tracked.the_row K V o e p)
  tracked_sync yk yv = search (sendable, std_cross, table.the_sync, log.the_sync) depth 30

  pub way_send : IsSend K → IsSend V → IsSend (Way.the_row K V o e p)
  way_send sk sv = search (sendable, std_cross, log.the_send) depth 30

  pub way_sync : IsSync K → IsSync V → IsSync (Way.the_row K V o e p)
  way_sync yk yv = search (sendable, std_cross, log.the_sync) depth 30

pub ruleset crosses = (tracked_send, tracked_sync, way_send, way_sync)
