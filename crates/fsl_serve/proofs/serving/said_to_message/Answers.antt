use Rattle.std.proofs.Common.{◌≡◌, ℕ, List, [], Ok, Some, None, refl, sym, ◌∙◌, subst}
use Rattle.std.specs.Prelude.{Option}
use Rattle.fsl_record.specs.Receipts.{Brought}
use Rattle.fsl_login.specs.declared.User.{User}
use Rattle.fsl_login.specs.Logins.{granted}
use Rattle.fsl_serve.specs.Calls.{Call, Gains}
use Rattle.fsl_serve.specs.Clocking.{AtMoment}
use Rattle.fsl_serve.specs.Points.{Passes, arrived}
use Rattle.fsl_serve.specs.Session.{receipt_of}
use Rattle.fsl_serve.specs.Sessions.{IsRun, IsJudged, sent_of}
use Rattle.fsl_serve.specs.Sessions.IsJudged.{run, no_memory}
use Rattle.fsl_serve.proofs.Telling.{gains_none, gains_weaker}
use Rattle.fsl_serve.proofs.Answering.{said_not_allowed}
use Rattle.fsl_serve.proofs.Passing.{none_passed}
use Rattle.fsl_serve.proofs.serving.said_to_message.Goals as goal

pub returns-in-Some-clause-made : goal.returns-in-Some-clause-made
returns-in-Some-clause-made g c =
    let sent = sent_of c.not_allowed.result in
    let project = c.args.serving.now.project in
    let clock = g.C.Clock.told c.args.clock.now in
    let old = g.G.Gate.passed c.args.gate.now in
    let J : Option ℕ → List Call → Type 0 = λ moment made. (users : List User) → granted users c.args.message ≡ Ok c.args.caps → IsJudged users project c.args.message moment made sent in
    let R : List Call → Type 0 = λ made. AtMoment clock clock (λ moment. J moment made) × Passes old old c.args.number (arrived made) in
    gains_none _ R (
      (None, λ users so. said_not_allowed users project c.args.message c.args.caps c.in-Some.reason sent so (sym c.refusal.ensures ∙ c.in-Some.is) c.not_allowed.ensures, refl),
      none_passed old c.args.number,
    )

pub returns-in-Ok-clause-made : goal.returns-in-Ok-clause-made
returns-in-Ok-clause-made g c =
    let sent = sent_of c.run.result in
    let project = c.args.serving.now.project in
    let message = c.args.message in
    let before = g.C.Clock.told c.args.clock.now in
    let after = g.C.Clock.told c.receipt_now.new.clock in
    let old = g.G.Gate.passed c.args.gate.now in
    let new = g.G.Gate.passed c.run.new.gate in
    let now = c.in-Ok.ensures.receipt in
    let moment = c.in-Ok.receipt.moment in
    let J : Option ℕ → List Call → Type 0 = λ moment made. (users : List User) → granted users message ≡ Ok c.args.caps → IsJudged users project message moment made sent in
    let R : List Call → Type 0 = λ made. AtMoment before after (λ moment. J moment made) × Passes old new c.args.number (arrived made) in
    let F : Brought → Type 0 = λ b. Gains g.D.Disk.state (g.T.Calls.calls c.args.pass.now) (g.T.Calls.calls c.run.new.pass) (λ made. IsRun message c.args.caps b made sent × Passes old new c.args.number (arrived made)) in
    gains_weaker _ _ (λ made. IsRun message c.args.caps (receipt_of message moment) made sent × Passes old new c.args.number (arrived made)) R (subst F now.0 c.run.ensures.made)
    (λ xs p. ((Some moment, λ users so. run c.args.caps moment so (sym c.refusal.ensures ∙ c.in-None.is) refl p.0, now.1), p.1))

pub returns-in-Err-clause-made : goal.returns-in-Err-clause-made
returns-in-Err-clause-made g c =
    let project = c.args.serving.now.project in
    let before = g.C.Clock.told c.args.clock.now in
    let after = g.C.Clock.told c.receipt_now.new.clock in
    let old = g.G.Gate.passed c.args.gate.now in
    let J : Option ℕ → List Call → Type 0 = λ moment made. (users : List User) → granted users c.args.message ≡ Ok c.args.caps → IsJudged users project c.args.message moment made (503, []) in
    let R : List Call → Type 0 = λ made. AtMoment before after (λ moment. J moment made) × Passes old old c.args.number (arrived made) in
    gains_none _ R ((None, λ users so. no_memory refl refl refl, c.in-Err.ensures.none), none_passed old c.args.number)
