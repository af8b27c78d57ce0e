use Rattle.std.proofs.Common.{◌≡◌, drop}
use Rattle.std.specs.Prelude.{map}
use Rattle.httparse.specs.Spans.{header_bytes}
use Rattle.fsl_http.specs.Fields.{values_of}
use Rattle.fsl_http.proofs.fields.find.Given as goal

abbrev pub invariant-loop-i : goal.invariant-loop-i
invariant-loop-i l = values_of l.name (map (header_bytes l.buf) l.headers) ≡ values_of l.name (map (header_bytes l.buf) (drop l.i l.headers))
