-- The tables may go to another thread, and be shared. The kit doesn't show it by itself, since most of them hold maps with a way back. A step for each type on the way: one `search` through all of them runs out of steps.
use denote.Param.Send.{IsSend, IsSync, sendable}
use Rattle.std.proofs.Crossing.{crosses as std_cross}
use Rattle.fsl_cluster.proofs.Crossing.{clusters_send, clusters_sync}
use Rattle.fsl_files.proofs.Crossing.{files_send, files_sync}
use Rattle.fsl_forum.proofs.Crossing.{threads_send, threads_sync}
use Rattle.fsl_leaves.proofs.Crossing.{leaves_send, leaves_sync}
use Rattle.fsl_links.proofs.Crossing.{links_send, links_sync}
use Rattle.fsl_ticket.proofs.Crossing.{tickets_send, tickets_sync}
use Rattle.fsl_timeline.proofs.Crossing.{timeline_send, timeline_sync}
use Rattle.fsl_wiki.proofs.Crossing.{pages_send, pages_sync}
use Rattle.fsl_tags.proofs.Crossing.{tags_send, tags_sync}
use Rattle.fsl_cross.proofs.attached.Attached.TheSendSync as attached
use Rattle.fsl_cross.proofs.items.Items.TheSendSync as items
use Rattle.fsl_cross.specs.contracts.contents.Contents as Contents
use Rattle.fsl_cross.specs.contracts.history.History as History
use Rattle.fsl_cross.specs.contracts.derived.Derived as Derived
use Rattle.fsl_cross.specs.contracts.tables.Tables as Tables

history_send : IsSend History.the_field.row
history_send = search (sendable, std_cross, leaves_send, links_send, tags_send) depth 30

history_sync : IsSync History.the_field.row
history_sync = search (sendable, std_cross, leaves_sync, links_sync, tags_sync) depth 30

contents_send : IsSend Contents.the_field.row
contents_send = search (sendable, std_cross, files_send, pages_send, tickets_send, threads_send, clusters_send) depth 30

contents_sync : IsSync Contents.the_field.row
contents_sync = search (sendable, std_cross, files_sync, pages_sync, tickets_sync, threads_sync, clusters_sync) depth 30

derived_send : IsSend Derived.the_field.row
derived_send = search (sendable, std_cross, history_send, timeline_send, attached.the_field_send, contents_send) depth 30

derived_sync : IsSync Derived.the_field.row
derived_sync = search (sendable, std_cross, history_sync, timeline_sync, attached.the_field_sync, contents_sync) depth 30

pub tables_send : IsSend Tables.the_row
tables_send = search (sendable, std_cross, items.the_send, derived_send) depth 40

pub tables_sync : IsSync Tables.the_row
tables_sync = search (sendable, std_cross, items.the_sync, derived_sync) depth 40
