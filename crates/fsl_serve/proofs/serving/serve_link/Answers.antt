use Rattle.std.proofs.Common.{◌≡◌, List, [], None, refl, subst}
use Rattle.fsl_outside.specs.Connections.{Connection}
use Rattle.std.specs.Prelude.{Option}
use Rattle.fsl_http.specs.declared.request.Asked.{Asked}
use Rattle.fsl_http.specs.Asking.{IsAnswered, IsAsked}
use Rattle.fsl_http.specs.Reading.{IsBroken, Breaks}
use Rattle.fsl_http.specs.declared.request.Asked.TheVariants as asked_as
use Rattle.fsl_serve.specs.declared.said.SessionEnd.TheVariants as end_as
use Rattle.fsl_serve.specs.Calls.{Call}
use Rattle.fsl_serve.specs.Clocking.{AtMoment}
use Rattle.fsl_serve.specs.Points.{Passes, arrived, answered, points_of}
use Rattle.fsl_serve.specs.Sessions.{IsReplied, IsSession, Took, sent_of}
use Rattle.fsl_serve.specs.Sessions.IsSession.{closed, broken, replied, unread}
use Rattle.fsl_serve.specs.Sessions.IsReplied.{refused}
use Rattle.fsl_serve.proofs.Telling.{gains_none, gains_weaker}
use Rattle.fsl_serve.proofs.Answering.{between_both}
use Rattle.fsl_serve.proofs.Passing.{none_passed, points_more}
use Rattle.fsl_serve.proofs.serving.serve_link.Goals as goal

asked_at : (o m : Option Connection) (a b : Asked) → a ≡ b → IsAsked o m a → IsAsked o m b
asked_at o m a b p f = let F : Asked → Type 0 = λ a. IsAsked o m a in subst F p f

pub returns-in-Ok-Closed-clause-session : goal.returns-in-Ok-Closed-clause-session
returns-in-Ok-Closed-clause-session g c =
    let clock = g.C.Clock.told c.args.clock.now in
    let old = g.G.Gate.passed c.args.gate.now in
    let R : List Call → Type 0 = λ made. AtMoment clock clock (λ moment. IsSession c.args.serving.now.users.now c.args.serving.now.project (g.K.Link.state c.args.link.now).present (g.K.Link.state c.ask.new.link).present moment made end_as.Closed) × Passes old old c.args.number (points_of made end_as.Closed) in
    gains_none _ R ((None, closed (asked_at _ _ _ _ c.in-Ok-Closed.field-0-is c.in-Ok-Closed.ensures.ok) refl refl refl, refl), none_passed old c.args.number)

pub returns-in-Ok-Refused-clause-session : goal.returns-in-Ok-Refused-clause-session
returns-in-Ok-Refused-clause-session g c =
    let clock = g.C.Clock.told c.args.clock.now in
    let status = c.in-Ok-Refused.status in
    let R : List Call → Type 0 = λ made. AtMoment clock clock (λ moment. IsSession c.args.serving.now.users.now c.args.serving.now.project (g.K.Link.state c.args.link.now).present (g.K.Link.state c.send.new.link).present moment made c.send.result) × Passes (g.G.Gate.passed c.args.gate.now) (g.G.Gate.passed c.send.new.gate) c.args.number (points_of made c.send.result) in
    gains_none _ R (
      (
        None,
        replied (asked_as.Refused status) (status, []) (refused status refl refl refl refl)
            (between_both _ _ _ (λ c d. IsAnswered c d (asked_as.Refused status)) (λ x d. Took x d (status, []) c.send.result) (asked_at _ _ _ _ c.in-Ok-Refused.field-0-is c.in-Ok-Refused.ensures.ok) c.send.ensures.took)
            c.send.ensures.ends,
        refl,
      ),
      c.send.ensures.passed,
    )

pub returns-in-Ok-Body-clause-session : goal.returns-in-Ok-Body-clause-session
returns-in-Ok-Body-clause-session g c =
    let body = c.in-Ok-Body.body in
    let clock = g.C.Clock.told c.args.clock.now in
    let later = g.C.Clock.told c.said_to-said.new.clock in
    let sent = sent_of c.said_to-said.result in
    let end = c.send-in-Ok-Body.result in
    let old = g.G.Gate.passed c.args.gate.now in
    let mid = g.G.Gate.passed c.said_to-said.new.gate in
    let new = g.G.Gate.passed c.send-in-Ok-Body.new.gate in
    let R : List Call → Type 0 = λ made. AtMoment clock later (λ moment. IsSession c.args.serving.now.users.now c.args.serving.now.project (g.K.Link.state c.args.link.now).present (g.K.Link.state c.send-in-Ok-Body.new.link).present moment made end) × Passes old new c.args.number (points_of made end) in
    gains_weaker _ _ (λ made. AtMoment clock later (λ moment. IsReplied c.args.serving.now.users.now c.args.serving.now.project (asked_as.Body body) moment made sent) × Passes old mid c.args.number (arrived made)) R c.said_to-said.ensures.made
    (λ xs p. (
      (
        p.0.0,
        replied (asked_as.Body body) sent p.0.1
            (between_both _ _ _ (λ c d. IsAnswered c d (asked_as.Body body)) (λ x d. Took x d sent end) (asked_at _ _ _ _ c.in-Ok-Body.field-0-is c.in-Ok-Body.ensures.ok) c.send-in-Ok-Body.ensures.took)
            c.send-in-Ok-Body.ensures.ends,
        p.0.2,
      ),
      points_more old mid new c.args.number (arrived xs) (answered end) p.1 c.send-in-Ok-Body.ensures.passed,
    ))

pub returns-in-Err-Link-clause-session : goal.returns-in-Err-Link-clause-session
returns-in-Err-Link-clause-session g c =
    let clock = g.C.Clock.told c.args.clock.now in
    let old = g.G.Gate.passed c.args.gate.now in
    let R : List Call → Type 0 = λ made. AtMoment clock clock (λ moment. IsSession c.args.serving.now.users.now c.args.serving.now.project (g.K.Link.state c.args.link.now).present (g.K.Link.state c.ask.new.link).present moment made end_as.Link) × Passes old old c.args.number (points_of made end_as.Link) in
    gains_none _ R ((None, broken (subst (λ f. Breaks (g.K.Link.state c.args.link.now).present (g.K.Link.state c.ask.new.link).present f) c.in-Err-Link.field-0-is c.in-Err-Link.ensures.broken) refl refl refl, refl), none_passed old c.args.number)

pub returns-in-Err-Memory-clause-session : goal.returns-in-Err-Memory-clause-session
returns-in-Err-Memory-clause-session g c =
    let clock = g.C.Clock.told c.args.clock.now in
    let R : List Call → Type 0 = λ made. AtMoment clock clock (λ moment. IsSession c.args.serving.now.users.now c.args.serving.now.project (g.K.Link.state c.args.link.now).present (g.K.Link.state c.send-in-Err-Memory.new.link).present moment made c.send-in-Err-Memory.result) × Passes (g.G.Gate.passed c.args.gate.now) (g.G.Gate.passed c.send-in-Err-Memory.new.gate) c.args.number (points_of made c.send-in-Err-Memory.result) in
    gains_none _ R (
      (None, unread refl refl (between_both _ _ _ (λ c d. IsBroken c d c.failed) (λ x d. Took x d (503, []) c.send-in-Err-Memory.result) (subst (λ f. Breaks (g.K.Link.state c.args.link.now).present (g.K.Link.state c.ask.new.link).present f) c.in-Err-Memory.field-0-is c.in-Err-Memory.ensures.broken) c.send-in-Err-Memory.ensures.took) c.send-in-Err-Memory.ensures.ends, refl),
      c.send-in-Err-Memory.ensures.passed,
    )
