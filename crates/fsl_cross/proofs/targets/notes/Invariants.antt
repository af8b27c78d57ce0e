use Rattle.std.proofs.Common.{◌≡◌, ℕ, List}
use Rattle.std.specs.Prelude.{◌||◌}
use Rattle.fsl_tags.specs.Gathered.{in_set}
use Rattle.fsl_cross.specs.Inside.{is_note}
use Rattle.fsl_cross.proofs.targets.notes.Given as goal

-- with the ids of the items that are left, the set is the whole
abbrev pub invariant-loop-item : goal.invariant-loop-item
invariant-loop-item l =
    (goal.iterator-loop-item).can_next l.item-iterator × (goal.iterator-loop-item).is_finite l.item-iterator
    × ((q : List ℕ) → (in_set l.set q || is_note l.item-iterator q) ≡ is_note l.items q)
