use Rattle.std.specs.Io.KnownBytes.{Keeps}
use Rattle.fsl_outside.proofs.std_forms.write_on.Given as goal

-- an interrupted write took nothing
abbrev pub invariant-loop : goal.invariant-loop
invariant-loop g l = Keeps (g.W.Write.contents l.fn.inner) (g.W.Write.contents l.inner)
