use Rattle.std.proofs.Common.{◌≡◌, ◌++◌, take}
use Rattle.std.specs.Prelude.{flat_map}
use Rattle.fsl_query.specs.Lines.{change_line}
use Rattle.fsl_query.proofs.files.append_changes.Given as goal

-- the changes that were passed have their lines
abbrev pub invariant-loop-change : goal.invariant-loop-change
invariant-loop-change l = l.into ≡ l.initial.into ++ flat_map change_line (take l.change-index l.changes)
