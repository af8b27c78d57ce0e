use Rattle.std.proofs.Common.{◌≡◌, take}
use Rattle.std.specs.Prelude.{flat_map}
use Rattle.fsl_query.specs.Lines.{wanted_line}
use Rattle.fsl_query.proofs.phantoms.report.Given as goal

-- the names that were passed have their lines
abbrev pub invariant-loop-name : goal.invariant-loop-name
invariant-loop-name l = l.text ≡ flat_map wanted_line (take l.name-index l.wanted)
