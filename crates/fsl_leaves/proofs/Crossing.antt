-- Leaves may go to another thread, and be shared.
use denote.Param.Send.{IsSend, IsSync, sendable}
use Rattle.std.proofs.Crossing.{crosses as std_cross}
use Rattle.fsl_table.proofs.Crossing.{crosses as table_cross}
use Rattle.fsl_leaves.specs.contracts.leaves.Leaves.{the_row}

pub leaves_send : IsSend the_row
leaves_send = search (sendable, std_cross, table_cross) depth 60 fits 40000

pub leaves_sync : IsSync the_row
leaves_sync = search (sendable, std_cross, table_cross) depth 60 fits 40000
