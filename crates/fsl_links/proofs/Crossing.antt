-- Links may go to another thread, and be shared.
use denote.Param.Send.{IsSend, IsSync, sendable}
use Rattle.std.proofs.Crossing.{crosses as std_cross}
use Rattle.fsl_table.proofs.Crossing.{crosses as table_cross}
use Rattle.fsl_links.specs.contracts.links.Links.{the_row}

pub links_send : IsSend the_row
links_send = search (sendable, std_cross, table_cross) depth 60 fits 40000

pub links_sync : IsSync the_row
links_sync = search (sendable, std_cross, table_cross) depth 60 fits 40000
