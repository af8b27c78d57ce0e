use Rattle.std.proofs.Common.{◌≡◌, ◌++◌, take}
use Rattle.std.specs.Prelude.{flat_map}
use Rattle.fossil.specs.Printed.{name_line}
use Rattle.fossil.proofs.answers.ingest_report.add_lines.Given as goal

abbrev pub invariant-loop-name : goal.invariant-loop-name
invariant-loop-name l = l.text ≡ l.fn.text ++ flat_map (name_line l.word) (take l.name-index l.names)
