use Rattle.std.proofs.Common.{◌≡◌, sym, subst, refl, ap, ◌∙◌}
use Rattle.fsl_disk.specs.Disk.{DiskState}
use Rattle.fsl_outside.specs.Connections.{LinkState}
use Rattle.fsl_outside.specs.Streams.{SinkState}
use Rattle.fsl_words.specs.declared.Command.{Command}
use Rattle.fsl_words.specs.declared.Command.TheVariants as command_of
use Rattle.fossil.specs.declared.commands.sync.Way.TheVariants as way
use Rattle.fossil.specs.Acts.{IsObeyable, file_of, output_of}
use Rattle.fossil.specs.Due.{printed}
use Rattle.fossil.specs.Synced.{Syncs, objects_of}
use Rattle.fossil.proofs.SyncedLemmas.{untouched, synced_printed, apart_by, other_peer, alone_meets, clone_alone, not_alone, is_alone}
use Rattle.fossil.proofs.CloneLemmas.{cloned_printed, cloned_if, not_cloned, other_command}
use Rattle.fossil.specs.Uses.{command_reads, command_opens, command_asks_peer, command_ticks}
use Rattle.fossil.specs.RunCall.{RunsFor}
use Rattle.fossil.specs.UvMerging.{MergesFor}
use Rattle.fossil.proofs.UvSyncLemmas.{no_merge, no_merge_else, not_merged, never_clones, merge_alone}
use Rattle.fossil.proofs.ScrubLemmas.{scrubbed_printed, no_scrub_as, uv_no_scrub, scrub_alone, not_scrubbed}
use Rattle.fossil.proofs.top.start.Goals as goal

pub returns-in-Pull-clause-runs : goal.returns-in-Pull-clause-runs
returns-in-Pull-clause-runs g c = λ alone. absurd (alone_meets c.args.command (command_of.Pull c.in-Pull.address c.in-Pull.login) c.in-Pull.is refl alone)

pub returns-in-Pull-clause-syncs : goal.returns-in-Pull-clause-syncs
returns-in-Pull-clause-syncs g c = λ asks.
    let file : DiskState × DiskState = (g.D.Disk.state c.args.repo, g.D.Disk.state c.sync-due.result.1) in
    let peer : DiskState × DiskState = (g.P.Disk.state c.args.peer, g.P.Disk.state c.args.peer) in
    let dial : LinkState × LinkState = (g.N.Link.state c.args.dial.now, g.N.Link.state c.sync-due.new.dial) in
    let out : SinkState × SinkState = (g.K.Sink.state c.args.out.now, g.K.Sink.state c.print_due-status.new.out) in
    let command = command_of.Pull c.in-Pull.address c.in-Pull.login in
    let due = c.sync-due.result.0 in
    subst (λ (x : Command). Syncs x file peer dial out c.print_due-status.result) (sym c.in-Pull.is)
    (synced_printed command (objects_of file peer dial) due (output_of out) c.print_due-status.result
    (other_peer command (apart_by way.Pull c.in-Pull.address c.in-Pull.login) file (file.0, file.0) peer (untouched peer.0) dial (λ o. printed due ≡ o) (printed due).status (c.sync-due.ensures c.in-Pull.address)) c.print_due-status.ensures)

pub returns-in-Pull-clause-cloned : goal.returns-in-Pull-clause-cloned
returns-in-Pull-clause-cloned g c =
    let dial : LinkState × LinkState = (g.N.Link.state c.args.dial.now, g.N.Link.state c.sync-due.new.dial) in
    let out : SinkState × SinkState = (g.K.Sink.state c.args.out.now, g.K.Sink.state c.print_due-status.new.out) in
    not_cloned g.D.Disk.state c.args.command c.args.repo c.sync-due.result.1 dial out c.print_due-status.result (other_command c.args.command (command_of.Pull c.in-Pull.address c.in-Pull.login) c.in-Pull.is refl)

pub returns-in-Pull-clause-merged : goal.returns-in-Pull-clause-merged
returns-in-Pull-clause-merged g c =
    let file : DiskState × DiskState = (g.D.Disk.state c.args.repo, g.D.Disk.state c.sync-due.result.1) in
    let peer : DiskState × DiskState = (g.P.Disk.state c.args.peer, g.P.Disk.state c.args.peer) in
    let out : SinkState × SinkState = (g.K.Sink.state c.args.out.now, g.K.Sink.state c.print_due-status.new.out) in
    not_merged c.args.command file peer out c.print_due-status.result (no_merge c.args.command (command_of.Pull c.in-Pull.address c.in-Pull.login) c.in-Pull.is refl)

pub returns-in-Pull-clause-scrubbed : goal.returns-in-Pull-clause-scrubbed
returns-in-Pull-clause-scrubbed g c =
    let file : DiskState × DiskState = (g.D.Disk.state c.args.repo, g.D.Disk.state c.sync-due.result.1) in
    let peer : DiskState × DiskState = (g.P.Disk.state c.args.peer, g.P.Disk.state c.args.peer) in
    let out : SinkState × SinkState = (g.K.Sink.state c.args.out.now, g.K.Sink.state c.print_due-status.new.out) in
    not_scrubbed c.args.command file peer out c.print_due-status.result (no_scrub_as c.args.command (command_of.Pull c.in-Pull.address c.in-Pull.login) c.in-Pull.is refl)

pub returns-in-Push-clause-runs : goal.returns-in-Push-clause-runs
returns-in-Push-clause-runs g c = λ alone. absurd (alone_meets c.args.command (command_of.Push c.in-Push.address c.in-Push.login) c.in-Push.is refl alone)

pub returns-in-Push-clause-syncs : goal.returns-in-Push-clause-syncs
returns-in-Push-clause-syncs g c = λ asks.
    let file : DiskState × DiskState = (g.D.Disk.state c.args.repo, g.D.Disk.state c.sync-due-in-Push.result.1) in
    let peer : DiskState × DiskState = (g.P.Disk.state c.args.peer, g.P.Disk.state c.args.peer) in
    let dial : LinkState × LinkState = (g.N.Link.state c.args.dial.now, g.N.Link.state c.sync-due-in-Push.new.dial) in
    let out : SinkState × SinkState = (g.K.Sink.state c.args.out.now, g.K.Sink.state c.print_due-status-in-Push.new.out) in
    let command = command_of.Push c.in-Push.address c.in-Push.login in
    let due = c.sync-due-in-Push.result.0 in
    subst (λ (x : Command). Syncs x file peer dial out c.print_due-status-in-Push.result) (sym c.in-Push.is)
    (synced_printed command (objects_of file peer dial) due (output_of out) c.print_due-status-in-Push.result
    (other_peer command (apart_by way.Push c.in-Push.address c.in-Push.login) file (file.0, file.0) peer (untouched peer.0) dial (λ o. printed due ≡ o) (printed due).status (c.sync-due-in-Push.ensures c.in-Push.address)) c.print_due-status-in-Push.ensures)

pub returns-in-Push-clause-cloned : goal.returns-in-Push-clause-cloned
returns-in-Push-clause-cloned g c =
    let dial : LinkState × LinkState = (g.N.Link.state c.args.dial.now, g.N.Link.state c.sync-due-in-Push.new.dial) in
    let out : SinkState × SinkState = (g.K.Sink.state c.args.out.now, g.K.Sink.state c.print_due-status-in-Push.new.out) in
    not_cloned g.D.Disk.state c.args.command c.args.repo c.sync-due-in-Push.result.1 dial out c.print_due-status-in-Push.result (other_command c.args.command (command_of.Push c.in-Push.address c.in-Push.login) c.in-Push.is refl)

pub returns-in-Push-clause-merged : goal.returns-in-Push-clause-merged
returns-in-Push-clause-merged g c =
    let file : DiskState × DiskState = (g.D.Disk.state c.args.repo, g.D.Disk.state c.sync-due-in-Push.result.1) in
    let peer : DiskState × DiskState = (g.P.Disk.state c.args.peer, g.P.Disk.state c.args.peer) in
    let out : SinkState × SinkState = (g.K.Sink.state c.args.out.now, g.K.Sink.state c.print_due-status-in-Push.new.out) in
    not_merged c.args.command file peer out c.print_due-status-in-Push.result (no_merge c.args.command (command_of.Push c.in-Push.address c.in-Push.login) c.in-Push.is refl)

pub returns-in-Push-clause-scrubbed : goal.returns-in-Push-clause-scrubbed
returns-in-Push-clause-scrubbed g c =
    let file : DiskState × DiskState = (g.D.Disk.state c.args.repo, g.D.Disk.state c.sync-due-in-Push.result.1) in
    let peer : DiskState × DiskState = (g.P.Disk.state c.args.peer, g.P.Disk.state c.args.peer) in
    let out : SinkState × SinkState = (g.K.Sink.state c.args.out.now, g.K.Sink.state c.print_due-status-in-Push.new.out) in
    not_scrubbed c.args.command file peer out c.print_due-status-in-Push.result (no_scrub_as c.args.command (command_of.Push c.in-Push.address c.in-Push.login) c.in-Push.is refl)

pub clone_onto-due-requires : goal.clone_onto-due-requires
clone_onto-due-requires g c = subst IsObeyable c.in-Clone.is c.requires

pub returns-in-Clone-clause-runs : goal.returns-in-Clone-clause-runs
returns-in-Clone-clause-runs g c = λ alone. absurd (alone_meets c.args.command (command_of.Clone c.in-Clone._address c.in-Clone.server c.in-Clone.fields) c.in-Clone.is refl alone)

pub returns-in-Clone-clause-syncs : goal.returns-in-Clone-clause-syncs
returns-in-Clone-clause-syncs g c = λ asks. absurd (clone_alone c.args.command c.in-Clone._address c.in-Clone.server c.in-Clone.fields c.in-Clone.is asks)

pub returns-in-Clone-clause-cloned : goal.returns-in-Clone-clause-cloned
returns-in-Clone-clause-cloned g c =
    let dial : LinkState × LinkState = (g.N.Link.state c.args.dial.now, g.N.Link.state c.clone_onto-due.new.dial) in
    let out : SinkState × SinkState = (g.K.Sink.state c.args.out.now, g.K.Sink.state c.print_due-status-in-Clone.new.out) in
    let left = c.clone_onto-due.result.1 in
    cloned_if g.D.Disk.state c.args.command c.args.repo left dial out c.print_due-status-in-Clone.result c.in-Clone._address c.in-Clone.server c.in-Clone.fields c.in-Clone.is
    (cloned_printed g.D.Disk.state c.in-Clone.server c.in-Clone.fields c.args.repo left dial c.clone_onto-due.result.0 (output_of out) c.print_due-status-in-Clone.result c.clone_onto-due.ensures c.print_due-status-in-Clone.ensures)

pub returns-in-Clone-clause-merged : goal.returns-in-Clone-clause-merged
returns-in-Clone-clause-merged g c =
    let file : DiskState × DiskState = (g.D.Disk.state c.args.repo, g.D.Disk.state c.clone_onto-due.result.1) in
    let peer : DiskState × DiskState = (g.P.Disk.state c.args.peer, g.P.Disk.state c.args.peer) in
    let out : SinkState × SinkState = (g.K.Sink.state c.args.out.now, g.K.Sink.state c.print_due-status-in-Clone.new.out) in
    not_merged c.args.command file peer out c.print_due-status-in-Clone.result (no_merge c.args.command (command_of.Clone c.in-Clone._address c.in-Clone.server c.in-Clone.fields) c.in-Clone.is refl)

pub returns-in-Clone-clause-scrubbed : goal.returns-in-Clone-clause-scrubbed
returns-in-Clone-clause-scrubbed g c =
    let file : DiskState × DiskState = (g.D.Disk.state c.args.repo, g.D.Disk.state c.clone_onto-due.result.1) in
    let peer : DiskState × DiskState = (g.P.Disk.state c.args.peer, g.P.Disk.state c.args.peer) in
    let out : SinkState × SinkState = (g.K.Sink.state c.args.out.now, g.K.Sink.state c.print_due-status-in-Clone.new.out) in
    not_scrubbed c.args.command file peer out c.print_due-status-in-Clone.result (no_scrub_as c.args.command (command_of.Clone c.in-Clone._address c.in-Clone.server c.in-Clone.fields) c.in-Clone.is refl)

pub returns-in-PullLocal-clause-runs : goal.returns-in-PullLocal-clause-runs
returns-in-PullLocal-clause-runs g c = λ alone. absurd (alone_meets c.args.command (command_of.PullLocal c.in-PullLocal.peer) c.in-PullLocal.is refl alone)

pub returns-in-PullLocal-clause-syncs : goal.returns-in-PullLocal-clause-syncs
returns-in-PullLocal-clause-syncs g c = λ asks.
    let file : DiskState × DiskState = (g.D.Disk.state c.args.repo, g.D.Disk.state c.pull_local-due.result.1) in
    let peer : DiskState × DiskState = (g.P.Disk.state c.args.peer, g.P.Disk.state c.pull_local-due.result.2) in
    let dial : LinkState × LinkState = (g.N.Link.state c.args.dial.now, g.N.Link.state c.args.dial.now) in
    let out : SinkState × SinkState = (g.K.Sink.state c.args.out.now, g.K.Sink.state c.print_due-status-in-PullLocal.new.out) in
    subst (λ (x : Command). Syncs x file peer dial out c.print_due-status-in-PullLocal.result) (sym c.in-PullLocal.is)
    (synced_printed (command_of.PullLocal c.in-PullLocal.peer) (objects_of file peer dial) c.pull_local-due.result.0 (output_of out) c.print_due-status-in-PullLocal.result
    (c.pull_local-due.ensures c.in-PullLocal.peer (g.N.Link.state c.args.dial.now)) c.print_due-status-in-PullLocal.ensures)

pub returns-in-PullLocal-clause-cloned : goal.returns-in-PullLocal-clause-cloned
returns-in-PullLocal-clause-cloned g c =
    let dial : LinkState × LinkState = (g.N.Link.state c.args.dial.now, g.N.Link.state c.args.dial.now) in
    let out : SinkState × SinkState = (g.K.Sink.state c.args.out.now, g.K.Sink.state c.print_due-status-in-PullLocal.new.out) in
    not_cloned g.D.Disk.state c.args.command c.args.repo c.pull_local-due.result.1 dial out c.print_due-status-in-PullLocal.result (other_command c.args.command (command_of.PullLocal c.in-PullLocal.peer) c.in-PullLocal.is refl)

pub returns-in-PullLocal-clause-merged : goal.returns-in-PullLocal-clause-merged
returns-in-PullLocal-clause-merged g c =
    let file : DiskState × DiskState = (g.D.Disk.state c.args.repo, g.D.Disk.state c.pull_local-due.result.1) in
    let peer : DiskState × DiskState = (g.P.Disk.state c.args.peer, g.P.Disk.state c.pull_local-due.result.2) in
    let out : SinkState × SinkState = (g.K.Sink.state c.args.out.now, g.K.Sink.state c.print_due-status-in-PullLocal.new.out) in
    not_merged c.args.command file peer out c.print_due-status-in-PullLocal.result (no_merge c.args.command (command_of.PullLocal c.in-PullLocal.peer) c.in-PullLocal.is refl)

pub returns-in-PullLocal-clause-scrubbed : goal.returns-in-PullLocal-clause-scrubbed
returns-in-PullLocal-clause-scrubbed g c =
    let file : DiskState × DiskState = (g.D.Disk.state c.args.repo, g.D.Disk.state c.pull_local-due.result.1) in
    let peer : DiskState × DiskState = (g.P.Disk.state c.args.peer, g.P.Disk.state c.pull_local-due.result.2) in
    let out : SinkState × SinkState = (g.K.Sink.state c.args.out.now, g.K.Sink.state c.print_due-status-in-PullLocal.new.out) in
    not_scrubbed c.args.command file peer out c.print_due-status-in-PullLocal.result (no_scrub_as c.args.command (command_of.PullLocal c.in-PullLocal.peer) c.in-PullLocal.is refl)

pub returns-in-Scrub-clause-runs : goal.returns-in-Scrub-clause-runs
returns-in-Scrub-clause-runs g c = λ alone. absurd (alone_meets c.args.command (command_of.Scrub c.in-Scrub.peer) c.in-Scrub.is refl alone)

pub returns-in-Scrub-clause-syncs : goal.returns-in-Scrub-clause-syncs
returns-in-Scrub-clause-syncs g c = λ asks. absurd (scrub_alone c.args.command c.in-Scrub.peer c.in-Scrub.is asks)

pub returns-in-Scrub-clause-cloned : goal.returns-in-Scrub-clause-cloned
returns-in-Scrub-clause-cloned g c =
    let dial : LinkState × LinkState = (g.N.Link.state c.args.dial.now, g.N.Link.state c.args.dial.now) in
    let out : SinkState × SinkState = (g.K.Sink.state c.args.out.now, g.K.Sink.state c.print_due-status-in-Scrub.new.out) in
    not_cloned g.D.Disk.state c.args.command c.args.repo c.scrub-due.result.1 dial out c.print_due-status-in-Scrub.result (other_command c.args.command (command_of.Scrub c.in-Scrub.peer) c.in-Scrub.is refl)

pub returns-in-Scrub-clause-merged : goal.returns-in-Scrub-clause-merged
returns-in-Scrub-clause-merged g c =
    let file : DiskState × DiskState = (g.D.Disk.state c.args.repo, g.D.Disk.state c.scrub-due.result.1) in
    let peer : DiskState × DiskState = (g.P.Disk.state c.args.peer, g.P.Disk.state c.scrub-due.result.2) in
    let out : SinkState × SinkState = (g.K.Sink.state c.args.out.now, g.K.Sink.state c.print_due-status-in-Scrub.new.out) in
    not_merged c.args.command file peer out c.print_due-status-in-Scrub.result (no_merge c.args.command (command_of.Scrub c.in-Scrub.peer) c.in-Scrub.is refl)

pub returns-in-Scrub-clause-scrubbed : goal.returns-in-Scrub-clause-scrubbed
returns-in-Scrub-clause-scrubbed g c = λ path said.
    let file : DiskState × DiskState = (g.D.Disk.state c.args.repo, g.D.Disk.state c.scrub-due.result.1) in
    let peer : DiskState × DiskState = (g.P.Disk.state c.args.peer, g.P.Disk.state c.scrub-due.result.2) in
    let out : SinkState × SinkState = (g.K.Sink.state c.args.out.now, g.K.Sink.state c.print_due-status-in-Scrub.new.out) in
    scrubbed_printed (file_of file) (file_of peer) c.scrub-due.result.0 (output_of out) c.print_due-status-in-Scrub.result c.scrub-due.ensures c.print_due-status-in-Scrub.ensures

pub returns-in-Unversioned-clause-runs : goal.returns-in-Unversioned-clause-runs
returns-in-Unversioned-clause-runs g c =
    subst (λ (x : Command). RunsFor x (g.S.Source.state, c.args.input.now, c.start_unversioned.new.input) (g.C.Clock.told, c.args.clock.now, c.start_unversioned.new.clock)
    (g.K.Sink.state, c.args.out.now, c.start_unversioned.new.out) (g.D.Disk.state, c.args.repo) c.start_unversioned.result) (sym c.in-Unversioned.is) c.start_unversioned.ensures.runs

pub start_unversioned-requires : goal.start_unversioned-requires
start_unversioned-requires g c = subst IsObeyable c.in-Unversioned.is c.requires

pub returns-in-Unversioned-clause-syncs : goal.returns-in-Unversioned-clause-syncs
returns-in-Unversioned-clause-syncs g c = λ asks. absurd (merge_alone c.args.command c.in-Unversioned.asked c.in-Unversioned.is asks)

pub returns-in-Unversioned-clause-cloned : goal.returns-in-Unversioned-clause-cloned
returns-in-Unversioned-clause-cloned g c =
    let dial : LinkState × LinkState = (g.N.Link.state c.args.dial.now, g.N.Link.state c.args.dial.now) in
    let out : SinkState × SinkState = (g.K.Sink.state c.args.out.now, g.K.Sink.state c.start_unversioned.new.out) in
    not_cloned g.D.Disk.state c.args.command c.args.repo c.start_unversioned.result.repo dial out c.start_unversioned.result.status
    (other_command c.args.command (command_of.Unversioned c.in-Unversioned.asked) c.in-Unversioned.is (never_clones c.in-Unversioned.asked))

pub returns-in-Unversioned-clause-merged : goal.returns-in-Unversioned-clause-merged
returns-in-Unversioned-clause-merged g c =
    subst (λ (x : Command). MergesFor x (g.D.Disk.state, c.args.repo) (g.P.Disk.state, c.args.peer) (g.K.Sink.state, c.args.out.now, c.start_unversioned.new.out) c.start_unversioned.result) (sym c.in-Unversioned.is)
    c.start_unversioned.ensures.merged

pub returns-in-Unversioned-clause-scrubbed : goal.returns-in-Unversioned-clause-scrubbed
returns-in-Unversioned-clause-scrubbed g c =
    let file : DiskState × DiskState = (g.D.Disk.state c.args.repo, g.D.Disk.state c.start_unversioned.result.repo) in
    let peer : DiskState × DiskState = (g.P.Disk.state c.args.peer, g.P.Disk.state c.start_unversioned.result.peer) in
    let out : SinkState × SinkState = (g.K.Sink.state c.args.out.now, g.K.Sink.state c.start_unversioned.new.out) in
    not_scrubbed c.args.command file peer out c.start_unversioned.result.status (uv_no_scrub c.args.command c.in-Unversioned.asked c.in-Unversioned.is)

pub returns-in-Unversioned-clause-unread : goal.returns-in-Unversioned-clause-unread
returns-in-Unversioned-clause-unread g c = λ h. c.start_unversioned.ensures.unread (sym (ap command_reads c.in-Unversioned.is) ∙ h)

pub returns-in-Unversioned-clause-untouched : goal.returns-in-Unversioned-clause-untouched
returns-in-Unversioned-clause-untouched g c = λ h. c.start_unversioned.ensures.untouched (sym (ap command_opens c.in-Unversioned.is) ∙ h)

pub returns-in-Unversioned-clause-unasked : goal.returns-in-Unversioned-clause-unasked
returns-in-Unversioned-clause-unasked g c = λ h. c.start_unversioned.ensures.unasked (sym (ap command_asks_peer c.in-Unversioned.is) ∙ h)

pub returns-in-Unversioned-clause-unasked_clock : goal.returns-in-Unversioned-clause-unasked_clock
returns-in-Unversioned-clause-unasked_clock g c = λ h. c.start_unversioned.ensures.unasked_clock (sym (ap command_ticks c.in-Unversioned.is) ∙ h)

pub obey-status-requires-clause-alone : goal.obey-status-requires-clause-alone
obey-status-requires-clause-alone g c = is_alone c.args.command c.in_default.not-Pull c.in_default.not-Push c.in_default.not-Clone c.in_default.not-PullLocal (no_merge_else c.args.command c.in_default.not-Unversioned) c.in_default.not-Scrub

pub returns-in_default-clause-syncs : goal.returns-in_default-clause-syncs
returns-in_default-clause-syncs g c = λ asks. absurd (not_alone c.args.command c.in_default.not-Pull c.in_default.not-Push c.in_default.not-Clone c.in_default.not-PullLocal (no_merge_else c.args.command c.in_default.not-Unversioned) c.in_default.not-Scrub asks)

pub returns-in_default-clause-cloned : goal.returns-in_default-clause-cloned
returns-in_default-clause-cloned g c =
    let dial : LinkState × LinkState = (g.N.Link.state c.args.dial.now, g.N.Link.state c.args.dial.now) in
    let out : SinkState × SinkState = (g.K.Sink.state c.args.out.now, g.K.Sink.state c.obey-status.new.out) in
    not_cloned g.D.Disk.state c.args.command c.args.repo c.obey-status.result.repo dial out c.obey-status.result.status c.in_default.not-Clone

pub returns-in_default-clause-merged : goal.returns-in_default-clause-merged
returns-in_default-clause-merged g c =
    let file : DiskState × DiskState = (g.D.Disk.state c.args.repo, g.D.Disk.state c.obey-status.result.repo) in
    let peer : DiskState × DiskState = (g.P.Disk.state c.args.peer, g.P.Disk.state c.args.peer) in
    let out : SinkState × SinkState = (g.K.Sink.state c.args.out.now, g.K.Sink.state c.obey-status.new.out) in
    not_merged c.args.command file peer out c.obey-status.result.status (no_merge_else c.args.command c.in_default.not-Unversioned)

pub returns-in_default-clause-scrubbed : goal.returns-in_default-clause-scrubbed
returns-in_default-clause-scrubbed g c =
    let file : DiskState × DiskState = (g.D.Disk.state c.args.repo, g.D.Disk.state c.obey-status.result.repo) in
    let peer : DiskState × DiskState = (g.P.Disk.state c.args.peer, g.P.Disk.state c.args.peer) in
    let out : SinkState × SinkState = (g.K.Sink.state c.args.out.now, g.K.Sink.state c.obey-status.new.out) in
    not_scrubbed c.args.command file peer out c.obey-status.result.status c.in_default.not-Scrub
