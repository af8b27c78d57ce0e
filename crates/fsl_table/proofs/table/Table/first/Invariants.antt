use Rattle.std.proofs.Common.{◌≡◌, ◌≤◌, length, drop}
use Rattle.std.specs.Option.{option_map}
use Rattle.fsl_table.specs.Contents.{first_of}
use Rattle.fsl_table.specs.Weave.{weave}
use Rattle.fsl_table.proofs.table.Table.first.Given as goal

-- the first of the tree and of what waits from `at` on
abbrev pub invariant-loop-at : goal.invariant-loop-at
invariant-loop-at g l = record {
  within : l.at ≤ length l.self-inside.waiting.items;
  first : option_map (λ p. (p.0.now, p.1.now)) l.best ≡ first_of (weave g.K.Ord.cmp (drop l.at l.self-inside.waiting.items) l.self-inside.tree.entries);
}

abbrev pub decreases-loop-at : goal.decreases-loop-at
decreases-loop-at g l = l.at
