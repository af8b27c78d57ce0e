use Rattle.std.proofs.Common.{◌≡◌, ℕ, List, take}
use Rattle.std.specs.Prelude.{flat_map}
use Rattle.fsl_cross.specs.Inside.{branch_over}
use Rattle.fsl_query.specs.Lines.{leaf_line}
use Rattle.fsl_query.proofs.leaves.report.Given as goal

-- the leaves that were passed have their lines
abbrev pub invariant-loop-name : goal.invariant-loop-name
invariant-loop-name l = l.text ≡ flat_map (λ (name : List ℕ). leaf_line (branch_over l.tags.facts name) name) (take l.name-index l.name-items)
