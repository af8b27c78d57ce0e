use Rattle.std.proofs.Common.{◌≡◌, ◌++◌, map}
use Rattle.std.specs.Prelude.{flat_map}
use Rattle.std.specs.Map.Iter.{deref_pair}
use Rattle.fsl_query.specs.Lines.{branch_line}
use Rattle.fsl_query.proofs.branches.append_branches.Given as goal

-- the branches that were passed have their lines
abbrev pub invariant-loop-branch : goal.invariant-loop-branch
invariant-loop-branch l = l.into ≡ l.initial.into ++ flat_map (λ e. branch_line e.1 e.0) (map deref_pair l.yielded)
