use Rattle.std.proofs.Common.{◌≡◌, ◌-◌, ℕ, List, true, length}
use Rattle.std.specs.Prelude.{is_some}
use Rattle.fsl_order.specs.Names.{has}
use Rattle.fsl_forum.specs.declared.Fact.{Fact}
use Rattle.fsl_order.specs.Maps.{value_at}
use Rattle.fsl_forum.specs.Kept.{AreNexts, AreRight, IsWithin, IsClimb}
use Rattle.fsl_forum.proofs.chains.follow.Given as goal

-- the posts that were passed stand as broken, and lead to where the climb is
abbrev pub invariant-loop-next : goal.invariant-loop-next
invariant-loop-next l = record {
  within : IsWithin l.ends.entries l.nexts.entries;
  passed : (q : List ℕ) → has l.path.items q ≡ true → is_some (value_at l.ends.entries q) ≡ true;
  stays : IsWithin l.fn.ends.entries l.ends.entries;
  climbs : (facts : List Fact) → AreNexts facts l.nexts.entries → AreRight facts l.fn.ends.entries → IsClimb facts l.ends.entries l.path.items l.fn.from l.at;
}

abbrev pub decreases-loop-next : goal.decreases-loop-next
decreases-loop-next l = length l.nexts.entries - length l.ends.entries
