use Rattle.std.proofs.Common.{◌≤◌, drop, length}
use Rattle.fsl_forum.specs.Kept.{AreNexts}
use Rattle.fsl_forum.proofs.chains.nexts_of.Given as goal

-- the next posts of those behind those that are left are in
abbrev pub invariant-loop-left : goal.invariant-loop-left
invariant-loop-left l = record {
  done : AreNexts (drop l.left l.facts) l.nexts.entries;
  within : l.left ≤ length l.facts;
}

abbrev pub decreases-loop-left : goal.decreases-loop-left
decreases-loop-left l = l.left
