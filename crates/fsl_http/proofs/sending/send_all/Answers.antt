use Rattle.std.proofs.Common.{◌∙◌, []}
use Rattle.fsl_http.proofs.Sent.{piece_sent, piece_cut, OnErr-always}
use Rattle.fsl_http.proofs.sending.send_all.Goals as goal

pub returns-in_err-send-clause-err : goal.returns-in_err-send-clause-err
returns-in_err-send-clause-err g c =
    OnErr-always _
    (piece_cut _ (g.L.Link.state c.loop-piece.link).present _ _ c.args.pieces.now c.loop-piece.piece-index (record { ref_ptr = (0, 0); now = [] }) c.loop-piece-test.true
    c.loop-piece.invariant.sent c.in_err-send.ensures.err)

pub loop-piece-preserved : goal.loop-piece-preserved
loop-piece-preserved g c = record {
  sent =
      piece_sent _ (g.L.Link.state c.loop-piece.link).present _ _ c.args.pieces.now c.loop-piece.piece-index (record { ref_ptr = (0, 0); now = [] }) c.loop-piece-test.true
      c.loop-piece.invariant.sent c.in_ok-send.ensures.ok;
  stands = c.in_ok-send.ensures.stands ∙ c.loop-piece.invariant.stands;
  same = c.in_ok-send.ensures.cause.same ∙ c.loop-piece.invariant.same;
}
