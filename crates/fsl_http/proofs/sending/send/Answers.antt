use Rattle.std.proofs.Common.{◌∙◌}
use Rattle.fsl_http.proofs.Sent.{send_more}
use Rattle.fsl_http.proofs.sending.send.Goals as goal

pub loop-rest-preserved : goal.loop-rest-preserved
loop-rest-preserved g c = record {
  sent = send_more _ (g.L.Link.state c.loop-rest.link).present _ _ c.loop-rest.rest.now c.in_ok-count.count c.loop-rest.invariant.sent c.in_ok-count.ensures.moves;
  stands = c.in_ok-count.ensures.stands ∙ c.loop-rest.invariant.stands;
  same = c.in_ok-count.ensures.cause.same ∙ c.loop-rest.invariant.same;
}
