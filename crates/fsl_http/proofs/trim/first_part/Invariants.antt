use Rattle.std.proofs.Common.{◌≡◌, drop, take, ◌++◌}
use Rattle.fsl_http.specs.Fields.{before_semicolon}
use Rattle.fsl_http.proofs.trim.first_part.Given as goal

abbrev pub invariant-loop-i : goal.invariant-loop-i
invariant-loop-i l = before_semicolon l.value ≡ take l.i l.value ++ before_semicolon (drop l.i l.value)
