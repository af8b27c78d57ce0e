use Rattle.std.proofs.Common.{◌≡◌, take}
use Rattle.std.specs.Prelude.{flat_map}
use Rattle.fsl_query.specs.Lines.{timeline_line}
use Rattle.fsl_query.proofs.timeline.report.Given as goal

-- the rows that were passed have their lines
abbrev pub invariant-loop-row : goal.invariant-loop-row
invariant-loop-row l = l.text ≡ flat_map timeline_line (take l.row-index l.row-items)
