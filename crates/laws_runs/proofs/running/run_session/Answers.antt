use Rattle.std.specs.Prelude.{◌≡◌, false}
use Rattle.std.proofs.Common.{refl, sym, subst}
use Rattle.fossil.specs.Run.{reads_input, opens_file, asks_clock}
use Rattle.fossil.specs.Synced.{asks_peer, dials}
use Rattle.fossil.specs.RunCall.{texts, RunsAlone, SyncsAs, ClonesAs}
use Rattle.fossil.specs.UvMerging.{MergesAs}
use Rattle.fossil.specs.ScrubCall.{ScrubsAs}
use Rattle.laws_runs.specs.Runs.{IsRun, states_of}
use Rattle.laws_runs.proofs.running.run_session.Goals as goal

pub returns-clause-run : goal.returns-clause-run
returns-clause-run g c =
    subst (λ d. IsRun (states_of g.S.Source.state g.K.Sink.state g.P.Disk.state g.N.Link.state g.C.Clock.told g.D.Disk.state) c.args.session
    (record c.args.session { input = c.run-status.new.input; out = c.run-status.new.out; peer = c.run-status.result.peer; dial = c.run-status.new.dial; clock = c.run-status.new.clock })
    c.args.disk (record { status = c.run-status.result.status; repo = d; peer = c.run-status.result.peer })) (sym c.of-ended.ensures) (record {
      runs = subst (λ w. RunsAlone (texts w) (g.S.Source.state, c.args.session.input, c.run-status.new.input) (g.C.Clock.told, c.args.session.clock, c.run-status.new.clock) (g.K.Sink.state, c.args.session.out, c.run-status.new.out) (g.D.Disk.state, c.args.disk) c.run-status.result) c.deref.ensures.value c.run-status.ensures.runs;
      synced = subst (λ w. SyncsAs (texts w) (g.D.Disk.state, c.args.disk) (g.P.Disk.state, c.args.session.peer) (g.N.Link.state, c.args.session.dial, c.run-status.new.dial) (g.K.Sink.state, c.args.session.out, c.run-status.new.out) c.run-status.result) c.deref.ensures.value c.run-status.ensures.synced;
      cloned = subst (λ w. ClonesAs (texts w) (g.D.Disk.state, c.args.disk) (g.N.Link.state, c.args.session.dial, c.run-status.new.dial) (g.K.Sink.state, c.args.session.out, c.run-status.new.out) c.run-status.result) c.deref.ensures.value c.run-status.ensures.cloned;
      merged = subst (λ w. MergesAs (texts w) (g.D.Disk.state, c.args.disk) (g.P.Disk.state, c.args.session.peer) (g.K.Sink.state, c.args.session.out, c.run-status.new.out) c.run-status.result) c.deref.ensures.value c.run-status.ensures.merged;
      scrubbed = subst (λ w. ScrubsAs (texts w) (g.D.Disk.state, c.args.disk) (g.P.Disk.state, c.args.session.peer) (g.K.Sink.state, c.args.session.out, c.run-status.new.out) c.run-status.result) c.deref.ensures.value c.run-status.ensures.scrubbed;
      unread = subst (λ w. reads_input (texts w) ≡ false → c.run-status.new.input ≡ c.args.session.input) c.deref.ensures.value c.run-status.ensures.unread;
      untouched = subst (λ w. opens_file (texts w) ≡ false → c.run-status.result.repo ≡ c.args.disk) c.deref.ensures.value c.run-status.ensures.untouched;
      unasked = subst (λ w. asks_peer (texts w) ≡ false → c.run-status.result.peer ≡ c.args.session.peer) c.deref.ensures.value c.run-status.ensures.unasked;
      undialled = subst (λ w. dials (texts w) ≡ false → c.run-status.new.dial ≡ c.args.session.dial) c.deref.ensures.value c.run-status.ensures.undialled;
      unasked_clock = subst (λ w. asks_clock (texts w) ≡ false → c.run-status.new.clock ≡ c.args.session.clock) c.deref.ensures.value c.run-status.ensures.unasked_clock;
      words = refl;
      end = refl;
    })
