use Rattle.std.proofs.Common.{◌≤◌, drop, length}
use Rattle.fsl_forum.specs.Held.{rows_of}
use Rattle.fsl_forum.specs.Kept.{AreEnds}
use Rattle.fsl_forum.proofs.Filling.{IsFilled}
use Rattle.fsl_forum.proofs.build.fill.Given as goal

-- the posts behind those that are left are in
abbrev pub invariant-loop-left : goal.invariant-loop-left
invariant-loop-left g l = record {
  filled : IsFilled l.facts (drop l.left l.facts) (rows_of l.maps);
  within : l.left ≤ length l.facts;
  found : AreEnds l.facts l.found.entries;
}

abbrev pub decreases-loop-left : goal.decreases-loop-left
decreases-loop-left g l = l.left
