use Rattle.std.proofs.Common.{◌≡◌, ◌≤◌, List, ℕ, drop, length}
use Rattle.fsl_order.specs.Rows.{greater}
use Rattle.fsl_tags.specs.Tags.{newer_cmp}
use Rattle.fsl_tags.specs.Kept.{newest_of}
use Rattle.fsl_tags.specs.Laid.{Rises}
use Rattle.fsl_tags.proofs.RowsOf.{of_tag}
use Rattle.fsl_tags.proofs.merge.put_each.Given as goal

-- those that are behind are there
abbrev pub invariant-loop-left : goal.invariant-loop-left
invariant-loop-left l = record {
  rises : Rises l.new;
  newest : (tag : List ℕ) → of_tag l.new tag ≡ greater newer_cmp (newest_of tag (drop l.left l.own)) (of_tag l.fn.row tag);
  within : l.left ≤ length l.own;
}

abbrev pub decreases-loop-left : goal.decreases-loop-left
decreases-loop-left l = l.left
