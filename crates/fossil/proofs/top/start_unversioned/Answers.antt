use Rattle.std.proofs.Common.{refl, ap}
use Rattle.fsl_disk.specs.Disk.{DiskState}
use Rattle.fsl_outside.specs.Streams.{SinkState}
use Rattle.fsl_words.specs.declared.Command.TheVariants as command_of
use Rattle.fsl_words.specs.declared.Unversioned.TheVariants as uv
use Rattle.fossil.specs.Acts.{file_of, output_of}
use Rattle.fossil.proofs.SyncedLemmas.{alone_meets}
use Rattle.fossil.proofs.UvSyncLemmas.{merged_printed, no_merge_other, not_merged, uv_alone}
use Rattle.fossil.proofs.top.start_unversioned.Goals as goal

pub returns-in-Sync-clause-runs : goal.returns-in-Sync-clause-runs
returns-in-Sync-clause-runs g c = λ alone.
    absurd (alone_meets (command_of.Unversioned c.args.asked) (command_of.Unversioned (uv.Sync c.in-Sync.peer)) (ap command_of.Unversioned c.in-Sync.is) refl alone)

pub returns-in-Sync-clause-merged : goal.returns-in-Sync-clause-merged
returns-in-Sync-clause-merged g c = λ path said.
    let file : DiskState × DiskState = (g.D.Disk.state c.args.repo, g.D.Disk.state c.uv_sync-due.result.1) in
    let peer : DiskState × DiskState = (g.P.Disk.state c.args.peer, g.P.Disk.state c.uv_sync-due.result.2) in
    let out : SinkState × SinkState = (g.K.Sink.state c.args.out.now, g.K.Sink.state c.print_due-status.new.out) in
    merged_printed (file_of file) (file_of peer) c.uv_sync-due.result.0 (output_of out) c.print_due-status.result c.uv_sync-due.ensures c.print_due-status.ensures

pub obey-status-requires-clause-alone : goal.obey-status-requires-clause-alone
obey-status-requires-clause-alone g c = uv_alone c.args.asked c.in_default.not-Sync

pub returns-in_default-clause-merged : goal.returns-in_default-clause-merged
returns-in_default-clause-merged g c =
    let file : DiskState × DiskState = (g.D.Disk.state c.args.repo, g.D.Disk.state c.obey-status.result.repo) in
    let peer : DiskState × DiskState = (g.P.Disk.state c.args.peer, g.P.Disk.state c.args.peer) in
    let out : SinkState × SinkState = (g.K.Sink.state c.args.out.now, g.K.Sink.state c.obey-status.new.out) in
    not_merged (command_of.Unversioned c.args.asked) file peer out c.obey-status.result.status (no_merge_other (command_of.Unversioned c.args.asked) c.args.asked refl c.in_default.not-Sync)
