use Rattle.std.proofs.Common.{◌≡◌, ◌≤◌, List, ℕ, [], drop, length}
use Rattle.fsl_order.specs.Rows.{by_name}
use Rattle.fsl_tags.specs.Held.{facts_of}
use Rattle.fsl_tags.specs.InMaps.{IsGroupedBy}
use Rattle.fsl_tags.specs.Laid.{row_in}
use Rattle.fsl_tags.specs.Laying.{AreAllElsewhere}
use Rattle.fsl_tags.proofs.lay.lay_all.Given as goal

-- the facts behind those that are left are there
abbrev pub invariant-loop-left : goal.invariant-loop-left
invariant-loop-left g l = record {
  grouped : IsGroupedBy l.graph l.groups.entries;
  done : facts_of l.graph.facts.held.entries ≡ by_name (λ f. f.name) (drop l.left l.given);
  away : (x : List ℕ) → AreAllElsewhere x l.given → row_in l.groups.entries x ≡ [];
  within : l.left ≤ length l.given;
}

abbrev pub decreases-loop-left : goal.decreases-loop-left
decreases-loop-left g l = l.left
