use Rattle.std.proofs.Common.{false, Option, map, string_bytes, sym, ap, subst, ◌∙◌, refl, Err, IsTrue}
use Rattle.std.specs.Option.{option_map_or}
use Rattle.fsl_outside.specs.Connections.{LinkState}
use Rattle.fsl_outside.specs.Streams.{SinkState}
use Rattle.fsl_disk.specs.Disk.{DiskState}
use Rattle.fsl_words.specs.declared.Command.{Command}
use Rattle.fsl_words.specs.declared.Command.TheVariants as command_of
use Rattle.fsl_words.specs.declared.Unversioned.TheVariants as uv
use Rattle.fossil.specs.declared.answers.fault.Fault.TheVariants as fault_is
use Rattle.fossil.specs.Uses.{command_syncs, command_asks_peer, command_dials}
use Rattle.fossil.specs.Outcome.{said, meets}
use Rattle.fossil.specs.Run.{reads, opens, ticks, HasRun}
use Rattle.fossil.specs.Acts.{input_of, clock_of, output_of, file_of}
use Rattle.fossil.specs.Cloned.{ClonesIf}
use Rattle.fossil.specs.Synced.{Syncs}
use Rattle.fossil.proofs.ActLemmas.{still}
use Rattle.fossil.proofs.CommandLemmas.{usage_run, idle_memory}
use Rattle.fossil.proofs.PrintedLemmas.{written}
use Rattle.fossil.proofs.CloneLemmas.{idle_cloned}
use Rattle.fossil.proofs.SyncedLemmas.{said_one, none_or_some}
use Rattle.fossil.proofs.UnopenedLemmas.{idle_synced}
use Rattle.fossil.proofs.WordsLemmas.{obeyable, said_is, none_said}
use Rattle.fossil.specs.UvSyncs.{MergesIf}
use Rattle.fossil.proofs.UvSyncLemmas.{idle_merged}
use Rattle.fossil.specs.Scrubs.{ScrubsIf}
use Rattle.fossil.proofs.ScrubLemmas.{idle_scrubbed}
use Rattle.fossil.proofs.top.run.Goals as goal

pub start-requires : goal.start-requires
start-requires g c = obeyable (map string_bytes c.args.words.now) c.in-Ok.words c.in-Ok.ensures.ok

pub returns-in-Ok : goal.returns-in-Ok
returns-in-Ok g c =
    let e = said_is (map string_bytes c.args.words.now) c.in-Ok.words c.in-Ok.ensures.ok in
    let input = input_of (g.S.Source.state c.args.input.now, g.S.Source.state c.start.new.input) in
    let clock = clock_of (g.C.Clock.told c.args.clock.now, g.C.Clock.told c.start.new.clock) in
    let outs : SinkState × SinkState = (g.K.Sink.state c.args.out.now, g.K.Sink.state c.start.new.out) in
    let files : DiskState × DiskState = (g.D.Disk.state c.args.repo, g.D.Disk.state c.start.result.repo) in
    let peers : DiskState × DiskState = (g.P.Disk.state c.args.peer, g.P.Disk.state c.start.result.peer) in
    let dials : LinkState × LinkState = (g.N.Link.state c.args.dial.now, g.N.Link.state c.start.new.dial) in
    record {
      runs = λ alone. subst (λ (o : Option Command). HasRun o input clock (output_of outs) (file_of files) c.start.result.status) (sym e) (c.start.ensures.runs (sym (ap meets e) ∙ alone));
      synced = λ command is asks.
          let same = said_one (c.in-Ok.words).command command (sym e ∙ is) in
          subst (λ (x : Command). Syncs x files peers dials outs c.start.result.status) same (c.start.ensures.syncs (subst (λ (x : Command). IsTrue (command_syncs x)) (sym same) asks));
      cloned = subst (λ (o : Option Command). ClonesIf o g.D.Disk.state c.args.repo c.start.result.repo dials outs c.start.result.status) (sym e) c.start.ensures.cloned;
      merged = subst (λ (o : Option Command). MergesIf o files peers outs c.start.result.status) (sym e) c.start.ensures.merged;
      scrubbed = subst (λ (o : Option Command). ScrubsIf o files peers outs c.start.result.status) (sym e) c.start.ensures.scrubbed;
      unread = λ h. c.start.ensures.unread (sym (ap reads e) ∙ h);
      untouched = λ h. c.start.ensures.untouched (sym (ap opens e) ∙ h);
      unasked = λ h. c.start.ensures.unasked (sym (ap (λ (o : Option Command). option_map_or command_asks_peer o false) e) ∙ h);
      undialled = λ h. c.start.ensures.undialled (sym (ap (λ (o : Option Command). option_map_or command_dials o false) e) ∙ h);
      unasked_clock = λ h. c.start.ensures.unasked_clock (sym (ap ticks e) ∙ h);
    }

pub returns-in-Err-Usage : goal.returns-in-Err-Usage
returns-in-Err-Usage g c =
    let words = map string_bytes c.args.words.now in
    let none = none_said words (c.read.ensures.usage (c.in-Err-Usage.is ∙ ap Err c.in-Err-Usage.field-0-is)) in
    let input = input_of (g.S.Source.state c.args.input.now, g.S.Source.state c.args.input.now) in
    let clock = g.C.Clock.told c.args.clock.now in
    let out = output_of (g.K.Sink.state c.args.out.now, g.K.Sink.state c.print_due-status.new.out) in
    let file = file_of (g.D.Disk.state c.args.repo, g.D.Disk.state c.args.repo) in
    record {
      runs = λ alone.
          subst (λ (o : Option Command). HasRun o input (still clock) out file c.print_due-status.result) (sym none)
          (usage_run input refl clock (g.D.Disk.state c.args.repo) (λ model f left. g.met.D.Disk.only_now c.args.repo f model left) out c.print_due-status.result c.print_due-status.ensures);
      synced = λ command is asks. absurd (none_or_some command (sym none ∙ is));
      cloned = λ address server fields is. absurd (none_or_some (command_of.Clone address server fields) (sym none ∙ is));
      merged = λ path is. absurd (none_or_some (command_of.Unversioned (uv.Sync path)) (sym none ∙ is));
      scrubbed = λ path is. absurd (none_or_some (command_of.Scrub path) (sym none ∙ is));
      unread = λ h. refl {a = c.args.input.now};
      untouched = λ h. refl {a = c.args.repo};
      unasked = λ h. refl {a = c.args.peer};
      undialled = λ h. refl {a = c.args.dial.now};
      unasked_clock = λ h. refl {a = c.args.clock.now};
    }

pub returns-in-Err-Memory : goal.returns-in-Err-Memory
returns-in-Err-Memory g c =
    let words = map string_bytes c.args.words.now in
    let input = input_of (g.S.Source.state c.args.input.now, g.S.Source.state c.args.input.now) in
    let clock = g.C.Clock.told c.args.clock.now in
    let out = output_of (g.K.Sink.state c.args.out.now, g.K.Sink.state c.print_due-status-in-Err-Memory.new.out) in
    let file = file_of (g.D.Disk.state c.args.repo, g.D.Disk.state c.args.repo) in
    record {
      runs = λ alone.
          written (said words) input (still clock) file (Err fault_is.Memory) out c.print_due-status-in-Err-Memory.result
          (idle_memory (said words) input clock (g.D.Disk.state c.args.repo) (λ model f left. g.met.D.Disk.only_now c.args.repo f model left) refl alone) c.print_due-status-in-Err-Memory.ensures;
      synced = λ command is asks.
          idle_synced command (g.D.Disk.state c.args.repo) (g.P.Disk.state c.args.peer) (g.N.Link.state c.args.dial.now) out c.print_due-status-in-Err-Memory.result (λ model f left. g.met.D.Disk.only_now c.args.repo f model left)
          (λ model f left. g.met.P.Disk.only_now c.args.peer f model left) c.print_due-status-in-Err-Memory.ensures;
      cloned = λ address server fields is.
          idle_cloned g.D.Disk.state server fields c.args.repo (g.N.Link.state c.args.dial.now) out c.print_due-status-in-Err-Memory.result c.print_due-status-in-Err-Memory.ensures;
      merged = λ path is.
          idle_merged (g.D.Disk.state c.args.repo) (g.P.Disk.state c.args.peer) out c.print_due-status-in-Err-Memory.result (λ model f left. g.met.D.Disk.only_now c.args.repo f model left)
          (λ model f left. g.met.P.Disk.only_now c.args.peer f model left) c.print_due-status-in-Err-Memory.ensures;
      scrubbed = λ path is.
          idle_scrubbed (g.D.Disk.state c.args.repo) (g.P.Disk.state c.args.peer) out c.print_due-status-in-Err-Memory.result (λ model f left. g.met.D.Disk.only_now c.args.repo f model left)
          (λ model f left. g.met.P.Disk.only_now c.args.peer f model left) c.print_due-status-in-Err-Memory.ensures;
      unread = λ h. refl {a = c.args.input.now};
      untouched = λ h. refl {a = c.args.repo};
      unasked = λ h. refl {a = c.args.peer};
      undialled = λ h. refl {a = c.args.dial.now};
      unasked_clock = λ h. refl {a = c.args.clock.now};
    }
