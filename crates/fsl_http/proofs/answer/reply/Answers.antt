use Rattle.std.proofs.Common.{◌∙◌, ap, subst}
use Rattle.std.specs.Prelude.{OnOk, OnErr}
use Rattle.http.specs.StatusCode.{code_digits}
use Rattle.fsl_http.specs.Replies.{phrase}
use Rattle.fsl_http.specs.Sending.{Sends, SendsFront}
use Rattle.fsl_http.proofs.Sent.{reply_pieces}
use Rattle.fsl_http.proofs.answer.reply.Goals as goal

pub returns-clause-sent : goal.returns-clause-sent
returns-clause-sent g c =
    subst (λ t. OnOk c.send_pieces.result (Sends (g.L.Link.state c.args.link.now).present (g.L.Link.state c.send_pieces.new.link).present t))
    (reply_pieces c.args.status c.args.body.now c.digits_of.result.now c.phrase_of.result.now c.field_of.result.now c.body_of.result.now
    (c.digits_of.ensures ∙ ap code_digits c.code_of-code.ensures) (c.phrase_of.ensures ∙ ap phrase c.code_of-code.ensures) c.field_of.ensures c.body_of.ensures)
    c.send_pieces.ensures.sent

pub returns-clause-cut : goal.returns-clause-cut
returns-clause-cut g c =
    subst (λ t. OnErr c.send_pieces.result (SendsFront (g.L.Link.state c.args.link.now).present (g.L.Link.state c.send_pieces.new.link).present t))
    (reply_pieces c.args.status c.args.body.now c.digits_of.result.now c.phrase_of.result.now c.field_of.result.now c.body_of.result.now
    (c.digits_of.ensures ∙ ap code_digits c.code_of-code.ensures) (c.phrase_of.ensures ∙ ap phrase c.code_of-code.ensures) c.field_of.ensures c.body_of.ensures)
    c.send_pieces.ensures.cut
