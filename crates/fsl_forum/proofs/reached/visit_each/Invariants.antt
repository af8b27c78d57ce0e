use Rattle.std.proofs.Common.{take}
use Rattle.std.specs.List.Sorted.{IsStrictlySortedBy}
use Rattle.fsl_order.specs.Names.{bytes_cmp}
use Rattle.fsl_forum.specs.Reached.{IsVisited}
use Rattle.fsl_forum.proofs.reached.visit_each.Given as goal

-- those that were passed are seen
abbrev pub invariant-loop-name : goal.invariant-loop-name
invariant-loop-name l = record {
  visited : IsVisited (take l.name-index l.names) l.fn.seen.keys l.fn.waiting.items l.seen.keys l.waiting.items;
  rising : IsStrictlySortedBy bytes_cmp l.seen.keys;
}
