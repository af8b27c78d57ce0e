use Rattle.std.proofs.Common.{◌≡◌, List, ℕ, length}
use Rattle.std.specs.List.Sorted.{IsStrictlySortedBy}
use Rattle.std.specs.Map.{keys_of}
use Rattle.fsl_order.specs.Names.{bytes_cmp}
use Rattle.fsl_order.specs.Rows.{named, greater}
use Rattle.fsl_tags.specs.Tags.{newer_cmp}
use Rattle.fsl_tags.specs.Kept.{newest_of}
use Rattle.fsl_tags.specs.Laid.{row_in}
use Rattle.fsl_tags.specs.Laying.{AreOwn}
use Rattle.fsl_tags.proofs.lay.put_groups.Given as goal

-- with what is left, it is the whole
abbrev pub invariant-loop-entry : goal.invariant-loop-entry
invariant-loop-entry g l = record {
  kept : AreOwn l.own.held.entries;
  newest : (x tag : List ℕ) → greater newer_cmp (named (λ a. a.tag) (row_in l.own.held.entries x) tag) (newest_of tag (row_in l.left.entries x)) ≡ newest_of tag (row_in l.fn.groups.entries x);
  sorted : IsStrictlySortedBy bytes_cmp (keys_of l.left.entries);
}

abbrev pub decreases-loop-entry : goal.decreases-loop-entry
decreases-loop-entry g l = length l.left.entries
