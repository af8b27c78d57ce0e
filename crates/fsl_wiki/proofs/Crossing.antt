-- The table may go to another thread, and be shared.
use denote.Param.Send.{IsSend, IsSync, sendable}
use Rattle.std.proofs.Crossing.{crosses as std_cross}
use Rattle.fsl_table.proofs.Crossing.{crosses as table_cross}
use Rattle.fsl_wiki.specs.contracts.pages.Pages.{the_row}

pub pages_send : IsSend the_row
pages_send = search (sendable, std_cross, table_cross) depth 60 fits 40000

pub pages_sync : IsSync the_row
pages_sync = search (sendable, std_cross, table_cross) depth 60 fits 40000
