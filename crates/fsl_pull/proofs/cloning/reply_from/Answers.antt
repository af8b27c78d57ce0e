use Rattle.std.proofs.Common.{List, ℕ, Ok, Err, inl, inr, refl, subst, ◌∙◌}
use Rattle.fsl_http.specs.Responses.{IsLeft}
use Rattle.fsl_http.specs.Exchanges.{HasJoined}
use Rattle.fsl_pull.specs.Asking.{IsAsked, IsLinkLost}
use Rattle.fsl_pull.proofs.cloning.reply_from.Goals as goal

pub returns-in-Err-clause-unasked : goal.returns-in-Err-clause-unasked
returns-in-Err-clause-unasked g c = inl (refl, refl)

pub returns-in-Ok-Ok-clause-asked : goal.returns-in-Ok-Ok-clause-asked
returns-in-Ok-Ok-clause-asked g c =
    subst (λ (bytes : List ℕ). IsAsked (g.N.Link.state c.args.dial.now) (g.N.Link.state c.send_and_read.new.dial) bytes (Ok c.in-Ok-Ok.reply)) (c.bytes.ensures ∙ c.in-Ok.ensures) (rw c.in-Ok-Ok.field-0-is at c.in-Ok-Ok.ensures.asked)

pub returns-in-Ok-Err-clause-unasked : goal.returns-in-Ok-Err-clause-unasked
returns-in-Ok-Err-clause-unasked g c =
    subst (λ (bytes : List ℕ). IsAsked (g.N.Link.state c.args.dial.now) (g.N.Link.state c.send_and_read.new.dial) bytes (Err c.in-Ok-Err.why)) (c.bytes.ensures ∙ c.in-Ok.ensures) (rw c.in-Ok-Err.field-0-is at c.in-Ok-Err.ensures.asked)

pub returns-in-Err-Link-clause-unasked : goal.returns-in-Err-Link-clause-unasked
returns-in-Err-Link-clause-unasked g c =
    subst (λ (bytes : List ℕ). IsLinkLost (g.N.Link.state c.args.dial.now) (g.N.Link.state c.send_and_read.new.dial) bytes) (c.bytes.ensures ∙ c.in-Ok.ensures) (rw c.in-Err-Link.field-0-is at c.in-Err-Link.ensures.unasked)

pub returns-clause-unasked : goal.returns-clause-unasked
returns-clause-unasked g c =
    inr (subst (λ (bytes : List ℕ). HasJoined (g.N.Link.state c.args.dial.now) (g.N.Link.state c.send_and_read.new.dial) (λ f. IsLeft f bytes)) (c.bytes.ensures ∙ c.in-Ok.ensures) (rw c.in-Err-Memory.field-0-is at c.in-Err-Memory.ensures.unasked))
