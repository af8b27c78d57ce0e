use Rattle.std.proofs.Common.{◌≡◌, ◌∙◌, ◌++◌, List, length, take, drop, get_or, sym, subst, ap, arith}
use Rattle.std.proofs.lemmas.List.{take_at}
use Rattle.fsl_serve.specs.declared.crews.Job.{Job}
use Rattle.fsl_serve.specs.Workers.{IsGated}
use Rattle.fsl_serve.proofs.crews.run_all.Goals as goal

pub returns-clause-each : goal.returns-clause-each
returns-clause-each g c = λ i d lt.
    let J = Job g.row.A.Denot g.row.G.Denot g.row.C.Denot g.row.T-Pass.Denot in
    let old = c.args.jobs.now.items in
    let new = c.for_each_mut.new.s in
    let Done : J → J → Type 0 = λ j k. IsGated g.D.Disk.state c.args.users.now c.args.project c.args.requests (g.A.Link.state j.crew.door).present (g.A.Link.state j.crew.door).standing (g.A.Link.state k.crew.door).present (g.A.Link.state k.crew.door).standing
    (g.T.Turns.calls j.pass) (g.T.Turns.calls k.pass) k.work (g.G.Gate.passed j.crew.gate) (g.G.Gate.passed k.crew.gate) (g.C.Clock.told j.crew.clock) (g.C.Clock.told k.crew.clock) × g.T.Turns.grows j.pass k.pass in
    let same = c.as_mut_slice.ensures.value in
    let long = c.as_mut_slice.ensures.len in
    let kept = c.for_each_mut.auto.s in
    let all : take c.args.jobs.now.len (new ++ drop (length new) old) ≡ new = take_at new (drop (length new) old) c.args.jobs.now.len (kept ∙ long) in
    let at = (c.for_each_mut.ensures i d (omega (arith, lt, long))).1 in
    let done : Done at.argument.now at.after_call.now = (at.call.1, at.call.0) in
    let before = at.argument_is ∙ ap (λ (l : List J). get_or l i d) same in
    let after = at.left ∙ sym (ap (λ (l : List J). get_or l i d) all) in
    subst (λ (j : J). Done j (get_or (take c.args.jobs.now.len (new ++ drop (length new) old)) i d)) before (subst (λ (k : J). Done at.argument.now k) after done)
