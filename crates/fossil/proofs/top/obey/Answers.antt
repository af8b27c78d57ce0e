use Rattle.std.proofs.Common.{◌≡◌, false, Some, refl, sym, subst}
use Rattle.fsl_disk.specs.Disk.{DiskState}
use Rattle.fsl_outside.specs.Streams.{SourceState, SinkState}
use Rattle.fsl_words.specs.declared.Command.{Command}
use Rattle.fsl_words.specs.declared.Command.TheVariants as command_of
use Rattle.fossil.specs.Uses.{command_reads, command_opens, command_meets, command_ticks}
use Rattle.fossil.specs.Run.{HasRun}
use Rattle.fossil.specs.Acts.{IsObeyable, input_of, clock_of, output_of, file_of}
use Rattle.fossil.specs.RunCall.{Moments}
use Rattle.fossil.proofs.CommandLemmas.{ingest_acted, gen_acted, serve_run}
use Rattle.fossil.proofs.PrintedLemmas.{written}
use Rattle.fossil.proofs.UvLemmas.{uv_opens, uv_alone}
use Rattle.fossil.proofs.top.obey.Goals as goal

pub init-requires : goal.init-requires
init-requires g c = subst IsObeyable c.in-Init.is c.requires.obeyable

pub returns-in-Init-clause-runs : goal.returns-in-Init-clause-runs
returns-in-Init-clause-runs g c =
    let input : SourceState × SourceState = (g.S.Source.state c.args.input.now, g.S.Source.state c.args.input.now) in
    let clock : Moments × Moments = (g.C.Clock.told c.args.clock.now, g.C.Clock.told c.args.clock.now) in
    let out : SinkState × SinkState = (g.K.Sink.state c.args.out.now, g.K.Sink.state c.print_due-status.new.out) in
    let file : DiskState × DiskState = (g.D.Disk.state c.args.repo, g.D.Disk.state c.init.new.disk) in
    subst (λ (x : Command). HasRun (Some x) (input_of input) (clock_of clock) (output_of out) (file_of file) c.print_due-status.result) (sym c.in-Init.is)
    (written (Some (command_of.Init c.in-Init.project c.in-Init.server c.in-Init.fields)) (input_of input) (clock_of clock) (file_of file) c.init.result (output_of out) c.print_due-status.result
    (c.init.ensures (g.S.Source.state c.args.input.now) clock.0) c.print_due-status.ensures)

pub returns-in-Ingest-clause-runs : goal.returns-in-Ingest-clause-runs
returns-in-Ingest-clause-runs g c =
    let input : SourceState × SourceState = (g.S.Source.state c.args.input.now, g.S.Source.state c.ingest.new.input) in
    let clock : Moments × Moments = (g.C.Clock.told c.args.clock.now, g.C.Clock.told c.args.clock.now) in
    let out : SinkState × SinkState = (g.K.Sink.state c.args.out.now, g.K.Sink.state c.print_due-status-in-Ingest.new.out) in
    let file : DiskState × DiskState = (g.D.Disk.state c.args.repo, g.D.Disk.state c.args.repo) in
    subst (λ (x : Command). HasRun (Some x) (input_of input) (clock_of clock) (output_of out) (file_of file) c.print_due-status-in-Ingest.result) (sym c.in-Ingest.is)
    (written (Some command_of.Ingest) (input_of input) (clock_of clock) (file_of file) c.ingest.result (output_of out) c.print_due-status-in-Ingest.result
    (ingest_acted (input_of input) clock.0 (g.D.Disk.state c.args.repo) (λ model f left. g.met.D.Disk.only_now c.args.repo f model left) c.ingest.result c.ingest.ensures.ok c.ingest.ensures.err) c.print_due-status-in-Ingest.ensures)

pub returns-in-Put-clause-runs : goal.returns-in-Put-clause-runs
returns-in-Put-clause-runs g c =
    let input : SourceState × SourceState = (g.S.Source.state c.args.input.now, g.S.Source.state c.put-answer.new.input) in
    let clock : Moments × Moments = (g.C.Clock.told c.args.clock.now, g.C.Clock.told c.put-answer.new.clock) in
    let out : SinkState × SinkState = (g.K.Sink.state c.args.out.now, g.K.Sink.state c.print_due-status-in-Put.new.out) in
    let file : DiskState × DiskState = (g.D.Disk.state c.args.repo, g.D.Disk.state c.put-answer.result.1) in
    subst (λ (x : Command). HasRun (Some x) (input_of input) (clock_of clock) (output_of out) (file_of file) c.print_due-status-in-Put.result) (sym c.in-Put.is)
    (written (Some command_of.Put) (input_of input) (clock_of clock) (file_of file) c.put-answer.result.0 (output_of out) c.print_due-status-in-Put.result c.put-answer.ensures c.print_due-status-in-Put.ensures)

pub returns-in-Shun-clause-runs : goal.returns-in-Shun-clause-runs
returns-in-Shun-clause-runs g c =
    let input : SourceState × SourceState = (g.S.Source.state c.args.input.now, g.S.Source.state c.args.input.now) in
    let clock : Moments × Moments = (g.C.Clock.told c.args.clock.now, g.C.Clock.told c.args.clock.now) in
    let out : SinkState × SinkState = (g.K.Sink.state c.args.out.now, g.K.Sink.state c.print_due-status-in-Shun.new.out) in
    let file : DiskState × DiskState = (g.D.Disk.state c.args.repo, g.D.Disk.state c.shun-answer.result.1) in
    subst (λ (x : Command). HasRun (Some x) (input_of input) (clock_of clock) (output_of out) (file_of file) c.print_due-status-in-Shun.result) (sym c.in-Shun.is)
    (written (Some (command_of.Shun c.in-Shun.name)) (input_of input) (clock_of clock) (file_of file) c.shun-answer.result.0 (output_of out) c.print_due-status-in-Shun.result (c.shun-answer.ensures (g.S.Source.state c.args.input.now) clock.0) c.print_due-status-in-Shun.ensures)

pub returns-in-Unshun-clause-runs : goal.returns-in-Unshun-clause-runs
returns-in-Unshun-clause-runs g c =
    let input : SourceState × SourceState = (g.S.Source.state c.args.input.now, g.S.Source.state c.args.input.now) in
    let clock : Moments × Moments = (g.C.Clock.told c.args.clock.now, g.C.Clock.told c.args.clock.now) in
    let out : SinkState × SinkState = (g.K.Sink.state c.args.out.now, g.K.Sink.state c.print_due-status-in-Unshun.new.out) in
    let file : DiskState × DiskState = (g.D.Disk.state c.args.repo, g.D.Disk.state c.unshun-answer.result.1) in
    subst (λ (x : Command). HasRun (Some x) (input_of input) (clock_of clock) (output_of out) (file_of file) c.print_due-status-in-Unshun.result) (sym c.in-Unshun.is)
    (written (Some (command_of.Unshun c.in-Unshun.name)) (input_of input) (clock_of clock) (file_of file) c.unshun-answer.result.0 (output_of out) c.print_due-status-in-Unshun.result (c.unshun-answer.ensures (g.S.Source.state c.args.input.now) clock.0) c.print_due-status-in-Unshun.ensures)

pub returns-in-Ask-clause-runs : goal.returns-in-Ask-clause-runs
returns-in-Ask-clause-runs g c =
    let input : SourceState × SourceState = (g.S.Source.state c.args.input.now, g.S.Source.state c.args.input.now) in
    let clock : Moments × Moments = (g.C.Clock.told c.args.clock.now, g.C.Clock.told c.args.clock.now) in
    let out : SinkState × SinkState = (g.K.Sink.state c.args.out.now, g.K.Sink.state c.answer_question.new.out) in
    let file : DiskState × DiskState = (g.D.Disk.state c.args.repo, g.D.Disk.state c.answer_question.result.repo) in
    subst (λ (x : Command). HasRun (Some x) (input_of input) (clock_of clock) (output_of out) (file_of file) c.answer_question.result.status) (sym c.in-Ask.is) (c.answer_question.ensures (g.S.Source.state c.args.input.now) clock.0)

pub returns-in-Serve-clause-runs : goal.returns-in-Serve-clause-runs
returns-in-Serve-clause-runs g c =
    let input : SourceState × SourceState = (g.S.Source.state c.args.input.now, g.S.Source.state c.args.input.now) in
    let clock : Moments × Moments = (g.C.Clock.told c.args.clock.now, g.C.Clock.told c.args.clock.now) in
    let out : SinkState × SinkState = (g.K.Sink.state c.args.out.now, g.K.Sink.state c.print_due-status-in-Serve.new.out) in
    let file : DiskState × DiskState = (g.D.Disk.state c.args.repo, g.D.Disk.state c.args.repo) in
    subst (λ (x : Command). HasRun (Some x) (input_of input) (clock_of clock) (output_of out) (file_of file) c.print_due-status-in-Serve.result) (sym c.in-Serve.is)
    (serve_run _ _ _ _ (input_of input) refl clock.0 (g.D.Disk.state c.args.repo) (λ model f left. g.met.D.Disk.only_now c.args.repo f model left) (output_of out) c.print_due-status-in-Serve.result
    c.print_due-status-in-Serve.ensures)

pub unversioned-answer-requires-clause-obeyable : goal.unversioned-answer-requires-clause-obeyable
unversioned-answer-requires-clause-obeyable g c = subst IsObeyable c.in-Unversioned.is c.requires.obeyable

pub unversioned-answer-requires-clause-alone : goal.unversioned-answer-requires-clause-alone
unversioned-answer-requires-clause-alone g c = uv_alone c.in-Unversioned.asked (subst (λ (x : Command). command_meets x ≡ false) c.in-Unversioned.is c.requires.alone)

pub returns-in-Unversioned-clause-runs : goal.returns-in-Unversioned-clause-runs
returns-in-Unversioned-clause-runs g c =
    let input : SourceState × SourceState = (g.S.Source.state c.args.input.now, g.S.Source.state c.unversioned-answer.new.input) in
    let clock : Moments × Moments = (g.C.Clock.told c.args.clock.now, g.C.Clock.told c.unversioned-answer.new.clock) in
    let out : SinkState × SinkState = (g.K.Sink.state c.args.out.now, g.K.Sink.state c.print_due-status-in-Unversioned.new.out) in
    let file : DiskState × DiskState = (g.D.Disk.state c.args.repo, g.D.Disk.state c.unversioned-answer.result.1) in
    subst (λ (x : Command). HasRun (Some x) (input_of input) (clock_of clock) (output_of out) (file_of file) c.print_due-status-in-Unversioned.result) (sym c.in-Unversioned.is)
    (written (Some (command_of.Unversioned c.in-Unversioned.asked)) (input_of input) (clock_of clock) (file_of file) c.unversioned-answer.result.0 (output_of out) c.print_due-status-in-Unversioned.result c.unversioned-answer.ensures.acts c.print_due-status-in-Unversioned.ensures)

pub returns-in-Unversioned-clause-unread : goal.returns-in-Unversioned-clause-unread
returns-in-Unversioned-clause-unread g c = λ unread. c.unversioned-answer.ensures.unread (subst (λ (x : Command). command_reads x ≡ false) c.in-Unversioned.is unread)

pub returns-in-Unversioned-clause-unasked_clock : goal.returns-in-Unversioned-clause-unasked_clock
returns-in-Unversioned-clause-unasked_clock g c = λ unasked. c.unversioned-answer.ensures.unasked_clock (subst (λ (x : Command). command_ticks x ≡ false) c.in-Unversioned.is unasked)

pub returns-in-Unversioned-clause-untouched : goal.returns-in-Unversioned-clause-untouched
returns-in-Unversioned-clause-untouched g c = λ unopened. absurd (uv_opens c.in-Unversioned.asked (subst (λ (x : Command). command_opens x ≡ false) c.in-Unversioned.is unopened))

pub generate-requires : goal.generate-requires
generate-requires g c = let fit = subst IsObeyable c.in-Gen.is c.requires.obeyable in record { some = fit.0; few = fit.1 }

pub returns-in-Gen-clause-runs : goal.returns-in-Gen-clause-runs
returns-in-Gen-clause-runs g c =
    let input : SourceState × SourceState = (g.S.Source.state c.args.input.now, g.S.Source.state c.args.input.now) in
    let clock : Moments × Moments = (g.C.Clock.told c.args.clock.now, g.C.Clock.told c.args.clock.now) in
    let out : SinkState × SinkState = (g.K.Sink.state c.args.out.now, g.K.Sink.state c.print_due-status-in-Gen.new.out) in
    let file : DiskState × DiskState = (g.D.Disk.state c.args.repo, g.D.Disk.state c.args.repo) in
    subst (λ (x : Command). HasRun (Some x) (input_of input) (clock_of clock) (output_of out) (file_of file) c.print_due-status-in-Gen.result) (sym c.in-Gen.is)
    (written (Some (command_of.Gen c.in-Gen.count c.in-Gen.reversed)) (input_of input) (clock_of clock) (file_of file) c.answered.result (output_of out) c.print_due-status-in-Gen.result
    (gen_acted c.in-Gen.count c.in-Gen.reversed (input_of input) refl clock.0 (g.D.Disk.state c.args.repo) (λ model f left. g.met.D.Disk.only_now c.args.repo f model left) c.generate.result c.answered.result c.generate.ensures c.answered.ensures.ok c.answered.ensures.err)
    c.print_due-status-in-Gen.ensures)

pub returns-in-Export-clause-runs : goal.returns-in-Export-clause-runs
returns-in-Export-clause-runs g c =
    let input : SourceState × SourceState = (g.S.Source.state c.args.input.now, g.S.Source.state c.args.input.now) in
    let clock : Moments × Moments = (g.C.Clock.told c.args.clock.now, g.C.Clock.told c.args.clock.now) in
    let out : SinkState × SinkState = (g.K.Sink.state c.args.out.now, g.K.Sink.state c.print_due-status-in-Export.new.out) in
    let file : DiskState × DiskState = (g.D.Disk.state c.args.repo, g.D.Disk.state c.export_tree-answer.result.1) in
    subst (λ (x : Command). HasRun (Some x) (input_of input) (clock_of clock) (output_of out) (file_of file) c.print_due-status-in-Export.result) (sym c.in-Export.is)
    (written (Some (command_of.Export c.in-Export.prefix)) (input_of input) (clock_of clock) (file_of file) c.export_tree-answer.result.0 (output_of out) c.print_due-status-in-Export.result (c.export_tree-answer.ensures (g.S.Source.state c.args.input.now) clock.0) c.print_due-status-in-Export.ensures)

pub returns-in-Verify-clause-runs : goal.returns-in-Verify-clause-runs
returns-in-Verify-clause-runs g c =
    let input : SourceState × SourceState = (g.S.Source.state c.args.input.now, g.S.Source.state c.args.input.now) in
    let clock : Moments × Moments = (g.C.Clock.told c.args.clock.now, g.C.Clock.told c.args.clock.now) in
    let out : SinkState × SinkState = (g.K.Sink.state c.args.out.now, g.K.Sink.state c.print_due-status-in-Verify.new.out) in
    let file : DiskState × DiskState = (g.D.Disk.state c.args.repo, g.D.Disk.state c.verify_tree-answer.result.1) in
    subst (λ (x : Command). HasRun (Some x) (input_of input) (clock_of clock) (output_of out) (file_of file) c.print_due-status-in-Verify.result) (sym c.in-Verify.is)
    (written (Some (command_of.Verify c.in-Verify.prefix)) (input_of input) (clock_of clock) (file_of file) c.verify_tree-answer.result.0 (output_of out) c.print_due-status-in-Verify.result (c.verify_tree-answer.ensures (g.S.Source.state c.args.input.now) clock.0) c.print_due-status-in-Verify.ensures)

pub checkin-answer-requires-clause-user : goal.checkin-answer-requires-clause-user
checkin-answer-requires-clause-user g c = let some = subst IsObeyable c.in-Checkin.is c.requires.obeyable in some.0

pub checkin-answer-requires-clause-comment : goal.checkin-answer-requires-clause-comment
checkin-answer-requires-clause-comment g c = let some = subst IsObeyable c.in-Checkin.is c.requires.obeyable in some.1

pub returns-in-Checkin-clause-runs : goal.returns-in-Checkin-clause-runs
returns-in-Checkin-clause-runs g c =
    let input : SourceState × SourceState = (g.S.Source.state c.args.input.now, g.S.Source.state c.checkin-answer.new.input) in
    let clock : Moments × Moments = (g.C.Clock.told c.args.clock.now, g.C.Clock.told c.checkin-answer.new.clock) in
    let out : SinkState × SinkState = (g.K.Sink.state c.args.out.now, g.K.Sink.state c.print_due-status-in-Checkin.new.out) in
    let file : DiskState × DiskState = (g.D.Disk.state c.args.repo, g.D.Disk.state c.checkin-answer.result.1) in
    subst (λ (x : Command). HasRun (Some x) (input_of input) (clock_of clock) (output_of out) (file_of file) c.print_due-status-in-Checkin.result) (sym c.in-Checkin.is)
    (written (Some (command_of.Checkin c.in-Checkin.parent c.in-Checkin.user c.in-Checkin.comment)) (input_of input) (clock_of clock) (file_of file) c.checkin-answer.result.0 (output_of out) c.print_due-status-in-Checkin.result c.checkin-answer.ensures c.print_due-status-in-Checkin.ensures)
