use Rattle.std.proofs.Common.{◌≡◌, List, ℕ, [], length}
use Rattle.std.specs.Prelude.{unwrap_or}
use Rattle.std.specs.List.Sorted.{IsStrictlySortedBy}
use Rattle.std.specs.Map.{keys_of}
use Rattle.fsl_order.specs.Names.{bytes_cmp}
use Rattle.fsl_table.specs.Contents.{value_at}
use Rattle.fsl_tags.specs.Laid.{row_in, AreFull}
use Rattle.fsl_tags.proofs.build.keep.Given as goal

-- what is left or put is the whole
abbrev pub invariant-loop-entry : goal.invariant-loop-entry
invariant-loop-entry g l = record {
  full : AreFull l.rows.held.entries;
  whole : (x : List ℕ) → unwrap_or (value_at bytes_cmp x l.left.entries) (row_in l.rows.held.entries x) ≡ unwrap_or (value_at bytes_cmp x l.fn.settled.entries) [];
  sorted : IsStrictlySortedBy bytes_cmp (keys_of l.left.entries);
}

abbrev pub decreases-loop-entry : goal.decreases-loop-entry
decreases-loop-entry g l = length l.left.entries
