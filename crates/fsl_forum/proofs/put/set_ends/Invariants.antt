use Rattle.std.proofs.Common.{◌≡◌, take}
use Rattle.std.specs.List.Sorted.{IsStrictlySortedBy}
use Rattle.std.specs.Map.{keys_of}
use Rattle.fsl_order.specs.Names.{bytes_cmp}
use Rattle.fsl_forum.specs.Held.{AreEnded}
use Rattle.fsl_forum.proofs.put.set_ends.Given as goal

-- those that were passed have the end
abbrev pub invariant-loop-name : goal.invariant-loop-name
invariant-loop-name g l = record {
  ordered : IsStrictlySortedBy bytes_cmp (keys_of l.ends.held.entries);
  ends : AreEnded (take l.name-index l.names) l.end l.fn.ends.held.entries l.ends.held.entries;
  was : l.ends.was ≡ l.fn.ends.was;
}
