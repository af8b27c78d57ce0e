use Rattle.std.proofs.Common.{◌≡◌, take}
use Rattle.std.specs.Prelude.{flat_map}
use Rattle.fsl_query.specs.Lines.{tag_line}
use Rattle.fsl_query.proofs.tags.report.Given as goal

-- the tags that were passed have their lines
abbrev pub invariant-loop-assertion : goal.invariant-loop-assertion
invariant-loop-assertion l = l.text ≡ flat_map tag_line (take l.assertion-index l.assertion-items)
