use Rattle.std.specs.Prelude.{◌≡◌, []}
use Rattle.std.proofs.Common.{sym, subst, arith}
use Rattle.std.proofs.lemmas.List.{nil_from_length}
use Rattle.laws_runs.specs.Runs.{states_of}
use Rattle.laws_runs.proofs.Chains.{HaveRun, none_run, one_run, all_run, all_survive}
use Rattle.laws_runs.proofs.running.run_all.Goals as goal

pub loop-session-init : goal.loop-session-init
loop-session-init g c =
    subst (λ pasts. HaveRun (states_of g.S.Source.state g.K.Sink.state g.P.Disk.state g.N.Link.state g.C.Clock.told g.D.Disk.state) c.args.disk c.args.sessions.items
    c.into_iter-session-iterator.result.rest.items pasts c.args.disk) (sym c.in_ok-pasts.ensures.items)
    (none_run (states_of g.S.Source.state g.K.Sink.state g.P.Disk.state g.N.Link.state g.C.Clock.told g.D.Disk.state) c.args.disk c.args.sessions.items
    c.into_iter-session-iterator.result.rest.items c.into_iter-session-iterator.ensures.into_iter_gives.0)

pub loop-session-preserved : goal.loop-session-preserved
loop-session-preserved g c =
    subst (λ pasts. HaveRun (states_of g.S.Source.state g.K.Sink.state g.P.Disk.state g.N.Link.state g.C.Clock.told g.D.Disk.state) c.args.disk c.args.sessions.items
    c.next.new.self.rest.items pasts c.in_ok-left.field-0.disk) (sym c.in_ok-push.ensures.items)
    (one_run (states_of g.S.Source.state g.K.Sink.state g.P.Disk.state g.N.Link.state g.C.Clock.told g.D.Disk.state) c.args.disk c.args.sessions.items
    c.loop-session.session-iterator.rest.items c.next.new.self.rest.items c.loop-session.pasts.items c.loop-session.disk c.in-Some.session c.in_ok-left.field-0.past
    c.in_ok-left.field-0.disk c.in-Some.ensures.steps.0 c.loop-session.invariant c.in_ok-left.ensures)

pub returns-clause-runs : goal.returns-clause-runs
returns-clause-runs g c =
    let left = c.loop-session.session-iterator.rest in
    let none : left.items ≡ [] = nil_from_length left.items (omega (arith, left.ok.0, c.in-None.ensures.steps.0)) in
    all_run (states_of g.S.Source.state g.K.Sink.state g.P.Disk.state g.N.Link.state g.C.Clock.told g.D.Disk.state) c.args.disk c.args.sessions.items left.items
    c.loop-session.pasts.items c.loop-session.disk none c.loop-session.invariant

pub returns-clause-survive : goal.returns-clause-survive
returns-clause-survive g c =
    all_survive (states_of g.S.Source.state g.K.Sink.state g.P.Disk.state g.N.Link.state g.C.Clock.told g.D.Disk.state)
    (λ d held model told. g.met.D.Disk.reads_as_image d held model told) (λ d b model since. g.met.D.Disk.only_now d b model since) c.some_file.ensures c.args.sessions.items
    c.loop-session.pasts.items c.args.disk c.loop-session.disk (returns-clause-runs g c)
