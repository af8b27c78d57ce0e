use Rattle.std.proofs.Common.{ap, sym, subst, ◌∙◌, arith}
use Rattle.fossil.specs.Served.{Loaded}
use Rattle.fossil.specs.ServeCall.{left_of, CrewsWorked}
use Rattle.fossil.proofs.ServeLemmas.{nobody_works, workers_ran, has_served, within_of, project_is}
use Rattle.fossil.proofs.commands.serve.serve_loaded.Goals as goal

pub finished-requires-clause-few : goal.finished-requires-clause-few
finished-requires-clause-few g c = omega (arith, c.in-Ok.ensures.worked.1, c.requires.crews.1)

pub finished-requires-clause-within : goal.finished-requires-clause-within
finished-requires-clause-within g c =
    within_of g.D.Disk.state c.args.crews.items (λ k. (g.A.Link.state k.door).present) (λ k. (g.A.Link.state k.door).standing) c.args.users.now c.config.result.now.project c.args.requests
    c.in-Ok.worked.works.items c.in-Ok.worked.crews.items c.in-Ok.ensures.worked c.requires.requests

pub returns-in-Ok : goal.returns-in-Ok
returns-in-Ok g c =
    let repo = c.args.repo in
    let last = c.in-Ok.worked.repo in
    let works = c.in-Ok.worked.works.items in
    workers_ran g.D.Disk.state _ (left_of c.finished.result.state) c.args.crews.items c.finished.result.crews.items _ _ repo last c.args.users.now c.args.requests _
    (ap left_of c.finished.ensures.state)
    (has_served g.D.Disk.state _ c.args.users.now c.args.requests repo last works _ c.in-Ok.worked.stored c.in-Ok.ensures.later c.in-Ok.ensures.stored c.finished.ensures.whole c.in-Ok.ensures.settled
    (project_is repo.seen.state.records c.config.result.now c.config.ensures)
    (subst (λ v. CrewsWorked g.D.Disk.state (g.A.Link.state, g.G.Gate.passed, g.C.Clock.told) c.args.crews.items v.items c.args.users.now c.config.result.now.project c.args.requests works repo last) (sym c.finished.ensures.crews)
    (record { worked = c.in-Ok.ensures.worked; gates = c.in-Ok.ensures.gates; history = c.in-Ok.ensures.history })))
    c.finished.ensures.said

pub returns-in-Err : goal.returns-in-Err
returns-in-Err g c =
    nobody_works _ _ (left_of c.ended.result.state) c.args.crews.items c.ended.result.crews.items _ _ c.args.repo c.args.users.now c.args.requests
    (ap left_of c.ended.ensures.state ∙ ap Loaded c.in-Err.ensures.refused.0) (ap (λ v. v.items) c.ended.ensures.crews ∙ c.in-Err.ensures.refused.1) c.ended.ensures.said
