use Rattle.std.proofs.Common.{◌≡◌, ◌≤◌, List, ℕ, take, length, ◌+◌, ◌*◌, []}
use Rattle.fsl_order.specs.Rows.{named, greater}
use Rattle.fsl_tags.specs.InMaps.{AreChildless, AreRightBy, StayNoted, notes, own_at}
use Rattle.fsl_tags.specs.Tags.{newer_cmp}
use Rattle.fsl_tags.specs.Kept.{newest_on, newest_of}
use Rattle.fsl_tags.specs.Laid.{row_in, AreFull}
use Rattle.fsl_tags.specs.Laying.{AreElsewhere}
use Rattle.fsl_tags.proofs.take.take_all.Given as goal

-- with the groups that are left it is the whole, and these are on names of the assertions that are left
abbrev pub invariant-loop-at : goal.invariant-loop-at
invariant-loop-at g l = record {
  right : AreRightBy l.graph l.own l.flow;
  full : AreFull l.groups.entries;
  own : (x tag : List ℕ) → greater newer_cmp (named (λ a. a.tag) (own_at l.own x) tag) (newest_of tag (row_in l.groups.entries x)) ≡ greater newer_cmp (named (λ a. a.tag) (own_at l.fn.own x) tag) (newest_on x tag l.assertions);
  gone : (x : List ℕ) → AreElsewhere x (take l.at l.assertions) → row_in l.groups.entries x ≡ [];
  noted : StayNoted l.fn.flow l.flow;
  own_was : l.own.was ≡ l.fn.own.was;
  rows_was : l.flow.rows.was ≡ l.fn.flow.rows.was;
  touches : AreChildless l.graph l.assertions → l.steps + 11 * l.at ≤ l.fn.steps + 11 * length l.assertions;
  back : AreChildless l.graph l.assertions → l.own.back + l.flow.rows.back + 2 * l.at ≤ l.fn.own.back + l.fn.flow.rows.back + 2 * length l.assertions;
  more : AreChildless l.graph l.assertions → notes l.flow + l.at ≤ notes l.fn.flow + length l.assertions;
  within : l.at ≤ length l.assertions;
}

abbrev pub decreases-loop-at : goal.decreases-loop-at
decreases-loop-at g l = l.at
