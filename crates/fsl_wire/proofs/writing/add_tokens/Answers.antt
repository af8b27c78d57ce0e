use Rattle.fsl_wire.proofs.WriteLemmas.{token_behind, token_first}
use Rattle.std.proofs.Common.{[], ◌∙◌}
use Rattle.fsl_wire.proofs.writing.add_tokens.Goals as goal
use Rattle.fsl_wire.proofs.writing.add_tokens.Goals.{then-at-gt0+in_ok-append, else-at-gt0}

pub loop-at-preserved : goal.loop-at-preserved
loop-at-preserved c =
    elim c.if-at-gt0.branch [
      | then-at-gt0+in_ok-append w ↦
          token_behind c.args.into.now c.loop-at.into c.if-at-gt0.into c.append-in-loop-at.new.self c.args.tokens.now c.loop-at.at (record { ref_ptr = (0, 0); now = [] }) c.loop-at-test.true c.loop-at.invariant
          c.in_ok-append-2.ensures.ok w.if-at-gt0.true (w.into-is ∙ w.in_ok-append.ensures.ok)
      | else-at-gt0 w ↦
          token_first c.args.into.now c.loop-at.into c.if-at-gt0.into c.append-in-loop-at.new.self c.args.tokens.now c.loop-at.at (record { ref_ptr = (0, 0); now = [] }) c.loop-at-test.true c.loop-at.invariant
          c.in_ok-append-2.ensures.ok w.if-at-gt0.false w.into-is
    ]
