use Rattle.std.proofs.Common.{◌∙◌, subst}
use Rattle.std.specs.Prelude.{OnOk, OnErr}
use Rattle.fsl_http.specs.Sending.{Sends, SendsFront}
use Rattle.fsl_http.proofs.Sent.{number_piece}
use Rattle.fsl_http.proofs.answer.send_pieces.Goals as goal

pub returns-clause-sent : goal.returns-clause-sent
returns-clause-sent g c =
    subst (λ t. OnOk c.send_all.result (Sends (g.L.Link.state c.args.link.now).present (g.L.Link.state c.send_all.new.link).present t))
    (number_piece c.args.digits.now c.args.phrase.now c.args.field.now c.as_bytes.result.now c.args.sent.now (c.as_bytes.ensures.value ∙ c.format.ensures.text)) c.send_all.ensures.ok

pub returns-clause-cut : goal.returns-clause-cut
returns-clause-cut g c =
    subst (λ t. OnErr c.send_all.result (SendsFront (g.L.Link.state c.args.link.now).present (g.L.Link.state c.send_all.new.link).present t))
    (number_piece c.args.digits.now c.args.phrase.now c.args.field.now c.as_bytes.result.now c.args.sent.now (c.as_bytes.ensures.value ∙ c.format.ensures.text)) c.send_all.ensures.err
