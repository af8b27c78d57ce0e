use Rattle.fsl_text.proofs.Unescaping.{read_meant, read_backslash, read_plain}
use Rattle.fsl_text.proofs.escapes.unescape.Goals as goal
use Rattle.fsl_text.proofs.escapes.unescape.Goals.{then-escaped+in_ok-push, else-escaped+then-byte-eq92, else-escaped+else-byte-eq92+in_ok-push-2}

pub loop-byte-preserved : goal.loop-byte-preserved
loop-byte-preserved c =
    let text = c.args.text.now in
    let i = c.loop-byte.byte-index in
    let bytes = c.loop-byte.bytes.items in
    elim c.if-escaped.branch [
      | then-escaped+in_ok-push w ↦ read_meant text bytes _ i w.byte_of.result _ _ c.loop-byte-test.true w.if-escaped.true w.escaped-is w.byte_of.ensures (rw w.bytes-is w.in_ok-push.ensures.items) c.loop-byte.invariant
      | else-escaped+then-byte-eq92 w ↦ rw w.bytes-is (read_backslash text bytes i _ _ c.loop-byte-test.true w.if-escaped.false w.escaped-is w.if-byte-eq92.true c.loop-byte.invariant)
      | else-escaped+else-byte-eq92+in_ok-push-2 w ↦ read_plain text bytes _ i _ _ c.loop-byte-test.true w.if-escaped.false w.escaped-is w.if-byte-eq92.false (rw w.bytes-is w.in_ok-push-2.ensures.items) c.loop-byte.invariant
    ]
