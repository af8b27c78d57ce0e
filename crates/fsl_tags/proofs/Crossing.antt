-- Tags may go to another thread, and be shared. A step for each type on the way: one `search` through all of them runs out of steps.
use denote.Param.Send.{IsSend, IsSync, sendable}
use Rattle.std.proofs.Crossing.{crosses as std_cross}
use Rattle.std.proofs.collections.BTreeMap.TheSendSync as noted
use Rattle.fsl_table.proofs.Crossing.{crosses as table_cross}
use Rattle.fsl_tags.proofs.row.Row.TheLaws.TheKnot.{crosses as row_cross}
use Rattle.fsl_tags.proofs.shared.Shared.TheSendSync as shared
use Rattle.fsl_tags.specs.contracts.row.Row as Row
use Rattle.fsl_tags.specs.contracts.maps.Graph as Graph
use Rattle.fsl_tags.specs.contracts.maps.Flow as Flow
use Rattle.fsl_tags.specs.contracts.maps.Maps as Maps
use Rattle.fsl_tags.specs.contracts.tags.Tags as Tags

row_send : IsSend Row.the_row
row_send = search (sendable, std_cross, row_cross, shared.the_send, shared.the_sync) depth 40

row_sync : IsSync Row.the_row
row_sync = search (sendable, std_cross, row_cross, shared.the_send, shared.the_sync) depth 40

graph_send : IsSend Graph.the_field.row
graph_send = search (sendable, std_cross, table_cross) depth 60 fits 40000

graph_sync : IsSync Graph.the_field.row
graph_sync = search (sendable, std_cross, table_cross) depth 60 fits 40000

flow_send : IsSend Flow.the_field.row
flow_send = search (sendable, std_cross, table_cross, noted.the_send, row_send) depth 60 fits 40000

flow_sync : IsSync Flow.the_field.row
flow_sync = search (sendable, std_cross, table_cross, noted.the_sync, row_sync) depth 60 fits 40000

maps_send : IsSend Maps.the_field.row
maps_send = search (sendable, std_cross, table_cross, row_send, graph_send, flow_send) depth 40 fits 40000

maps_sync : IsSync Maps.the_field.row
maps_sync = search (sendable, std_cross, table_cross, row_sync, graph_sync, flow_sync) depth 40 fits 40000

pub tags_send : IsSend Tags.the_row
tags_send = search (sendable, std_cross, maps_send) depth 40

pub tags_sync : IsSync Tags.the_row
tags_sync = search (sendable, std_cross, maps_sync) depth 40
