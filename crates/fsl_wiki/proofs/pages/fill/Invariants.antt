use Rattle.std.proofs.Common.{◌≡◌, ◌≤◌, drop, length}
use Rattle.fsl_order.specs.Rows.{by_name}
use Rattle.fsl_wiki.specs.Pages.{fact_name}
use Rattle.fsl_wiki.specs.Kept.{IsKept, facts_of, rows_of}
use Rattle.fsl_wiki.proofs.pages.fill.Given as goal

-- those that are done are there
abbrev pub invariant-loop-left : goal.invariant-loop-left
invariant-loop-left g l = record {
  done : facts_of l.maps.facts.held.entries ≡ by_name fact_name (drop l.left l.facts);
  kept : IsKept (rows_of l.maps);
  within : l.left ≤ length l.facts;
}

abbrev pub decreases-loop-left : goal.decreases-loop-left
decreases-loop-left g l = l.left
