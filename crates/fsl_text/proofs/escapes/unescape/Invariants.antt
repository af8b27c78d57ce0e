use Rattle.fsl_text.proofs.Unescaping.{IsReadTo}
use Rattle.fsl_text.proofs.escapes.unescape.Given as goal

abbrev pub invariant-loop-byte : goal.invariant-loop-byte
invariant-loop-byte l = IsReadTo l.text l.byte-index l.escaped l.bytes.items
