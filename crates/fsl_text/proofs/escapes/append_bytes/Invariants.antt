use Rattle.std.proofs.Common.{◌≡◌, ◌++◌, drop, length, take}
use Rattle.fsl_text.specs.Escapes.{escape}
use Rattle.fsl_text.proofs.escapes.append_bytes.Given as goal

abbrev pub invariant-loop-byte : goal.invariant-loop-byte
invariant-loop-byte l = record {
  written : l.fn.into ++ escape l.bytes ≡ l.into ++ escape (drop l.byte-index l.bytes);
  front : take (length l.fn.into) l.into ≡ l.fn.into;
}
