use Rattle.std.specs.Io.KnownBytes.{Keeps}
use Rattle.fsl_outside.proofs.std_forms.read_on.Given as goal

-- an interrupted read gave nothing
abbrev pub invariant-loop : goal.invariant-loop
invariant-loop g l = Keeps (g.R.Read.remaining l.fn.inner) (g.R.Read.remaining l.inner)
