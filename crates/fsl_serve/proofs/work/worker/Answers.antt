use Rattle.std.proofs.Common.{◌≡◌, Ok, ◌+◌, true, false, refl, ap, sym, ◌∙◌, subst, arith}
use Rattle.std.specs.Prelude.{Result, OnErr}
use Rattle.fsl_outside.specs.declared.link.Accepted.{Accepted}
use Rattle.fsl_outside.specs.declared.outside.Failed.{Failed}
use Rattle.fsl_outside.specs.Accepts.{AcceptLists, AcceptCounts}
use Rattle.fsl_outside.specs.Connections.{LinkState}
use Rattle.fsl_serve.proofs.Working.{IsServing, serving_none, serving_more, gated, never}
use Rattle.fsl_serve.proofs.work.worker.Goals as goal

pub loop-number-init : goal.loop-number-init
loop-number-init g c = (g.met.T.Calls.grows_self c.args.pass.now, serving_none c.args.users.now c.args.project _ _ _ _ _)

pub loop-number-preserved : goal.loop-number-preserved
loop-number-preserved g c = (
  g.met.T.Calls.grows_through c.args.pass.now c.loop-number.pass c.serve_link.new.pass c.loop-number.invariant.0 c.serve_link.ensures.grown,
  let q = (g.A.Link.state c.loop-number.crew.door).present in
      let t = (g.A.Link.state c.loop-number.crew.door).standing in
      let b = (g.A.Link.state c.accept.new.self).present in
      let u = (g.A.Link.state c.accept.new.self).standing in
      let F : Accepted → Type 0 = λ a. AcceptLists (g.A.Link.state c.loop-number.crew.door) (g.A.Link.state c.accept.new.self) a in
      let G : Result Accepted Failed → Type 0 = λ r. AcceptCounts r t u in
      let lists = subst F c.in-Ok-Connection.field-0-is c.in-Ok-Connection.ensures.lists in
      let counts = subst G (c.in-Ok-Connection.is ∙ ap Ok c.in-Ok-Connection.field-0-is) c.accept.ensures.counts in
      let served = serving_more c.args.users.now c.args.project c.loop-number.number _ _ q t b u (g.A.Link.state c.serve_link.new.link).present (g.A.Link.state c.serve_link.new.link).standing _ _ _ (g.G.Gate.passed c.args.crew.now.gate) (g.G.Gate.passed c.loop-number.crew.gate) (g.G.Gate.passed c.serve_link.new.gate) (g.C.Clock.told c.args.crew.now.clock) (g.C.Clock.told c.loop-number.crew.clock) (g.C.Clock.told c.serve_link.new.clock) c.serve_link.result
      c.loop-number.invariant.1 lists.begun lists.told lists.earlier counts.0 counts.1 c.serve_link.ensures.stands c.serve_link.ensures.session in
      let H : LinkState → Type 0 = λ l. IsServing g.D.Disk.state c.args.users.now c.args.project (c.loop-number.number + 1) (g.A.Link.state c.args.crew.now.door).present (g.A.Link.state c.args.crew.now.door).standing l.present l.standing (g.T.Calls.calls c.args.pass.now) (g.T.Calls.calls c.serve_link.new.pass) (g.G.Gate.passed c.args.crew.now.gate) (g.G.Gate.passed c.serve_link.new.gate) (g.C.Clock.told c.args.crew.now.clock) (g.C.Clock.told c.serve_link.new.clock) in
      subst H (sym c.leave.ensures.same) served,
)

pub returns-in-Ok-Closed-clause-gate : goal.returns-in-Ok-Closed-clause-gate
returns-in-Ok-Closed-clause-gate g c =
    let before = g.A.Link.state c.loop-number.crew.door in
    let after = g.A.Link.state c.accept.new.self in
    let F : Accepted → Type 0 = λ a. AcceptLists before after a in
    let G : Result Accepted Failed → Type 0 = λ r. AcceptCounts r before.standing after.standing in
    let lists = subst F c.in-Ok-Closed.field-0-is c.in-Ok-Closed.ensures.lists in
    let counts = subst G (c.in-Ok-Closed.is ∙ ap Ok c.in-Ok-Closed.field-0-is) c.accept.ensures.counts in
    let less = c.loop-number-test.true in
    gated c.args.users.now c.args.project c.loop-number.number _ _ before.present before.standing _ _ _ _ _ _ c.loop-number.invariant.1 c.args.requests c.loop-number.number false after.present after.standing
    refl (omega (arith, less)) lists.0 lists.1 (λ e. never e) (λ e. counts.0) (λ e l. counts.1) (λ e. absurd (omega (arith, e, less)))

pub returns-in-Err-clause-gate : goal.returns-in-Err-clause-gate
returns-in-Err-clause-gate g c =
    let before = g.A.Link.state c.loop-number.crew.door in
    let after = g.A.Link.state c.accept.new.self in
    let G : Result Accepted Failed → Type 0 = λ r. AcceptCounts r before.standing after.standing in
    let K : Result Accepted Failed → Type 0 = λ r. OnErr r (after.present ≡ before.present) in
    let E : Result Accepted Failed → Type 0 = λ r. OnErr r (after.standing.earlier ≡ before.standing.earlier) in
    let counts = subst G c.in-Err.is c.accept.ensures.counts in
    let less = c.loop-number-test.true in
    gated c.args.users.now c.args.project c.loop-number.number _ _ before.present before.standing _ _ _ _ _ _ c.loop-number.invariant.1 c.args.requests c.loop-number.number true after.present after.standing
    refl (omega (arith, less)) (subst K c.in-Err.is c.accept.ensures.kept) (subst E c.in-Err.is c.accept.ensures.earlier) (λ e. (counts.0, counts.2, less)) (λ e. never (sym e)) (λ e l. never (sym e))
    (λ e. absurd (omega (arith, e, less)))

pub returns-clause-gate : goal.returns-clause-gate
returns-clause-gate g c =
    let before = g.A.Link.state c.loop-number.crew.door in
    let most = c.loop-number.auto.number-end in
    let past = c.loop-number-test.false in
    let all : c.args.requests ≡ c.loop-number.number = omega (arith, most, past) in
    gated c.args.users.now c.args.project c.loop-number.number _ _ before.present before.standing _ _ _ _ _ _ c.loop-number.invariant.1 c.args.requests c.args.requests false before.present before.standing
    all (omega (arith, all)) refl refl (λ e. never e) (λ e. refl) (λ e l. absurd (omega (arith, all, l))) (λ e. refl)
