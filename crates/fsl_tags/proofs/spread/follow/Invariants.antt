use Rattle.std.proofs.Common.{◌≡◌, ◌≤◌, Some, drop, length}
use Rattle.std.specs.List.{AllByRecursion}
use Rattle.fsl_tags.specs.InMaps.{AreOnly, IsComingDown, IsStill, StayNoted, left_to_do, notes, parents}
use Rattle.fsl_tags.specs.Laid.{AreFull}
use Rattle.fsl_tags.proofs.spread.follow.Given as goal

-- the children that are left are still to follow
abbrev pub invariant-loop-child : goal.invariant-loop-child
invariant-loop-child g l = record {
  full : AreFull l.flow.rows.held.entries;
  kids : AllByRecursion (λ c. parents l.graph c ≡ Some l.above.at) (drop l.child-index l.kids);
  spread : IsComingDown l.graph l.own l.above.root l.above.at (drop l.child-index l.kids) l.fn.flow l.flow;
  less : left_to_do l.graph l.own l.flow ≤ left_to_do l.graph l.own l.fn.flow;
  noted : StayNoted l.fn.flow l.flow;
  was : l.flow.rows.was ≡ l.fn.flow.rows.was;
  idle : AreOnly l.above.root l.kids → IsStill l.fn.steps l.steps l.fn.flow l.flow;
  noted_idle : AreOnly l.above.root l.kids → notes l.flow ≡ notes l.fn.flow;
  within : l.child-index ≤ length l.kids;
}
