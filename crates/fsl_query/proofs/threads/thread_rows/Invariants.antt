use Rattle.std.proofs.Common.{◌≡◌, [], ℕ, List, take}
use Rattle.std.specs.Prelude.{filter_map, unwrap_or}
use Rattle.fsl_order.specs.Maps.{value_at}
use Rattle.fsl_timeline.specs.declared.Row.{Row}
use Rattle.fsl_query.specs.Listings.{thread_row, thread_title}
use Rattle.fsl_query.proofs.threads.thread_rows.Given as goal

-- the threads of the names that were passed
abbrev pub invariant-loop-name : goal.invariant-loop-name
invariant-loop-name l =
    (rows : List Row) → ((q : List ℕ) → unwrap_or (value_at l.titles.entries q) [] ≡ thread_title l.table.facts rows q) → l.list ≡ filter_map (thread_row l.table.facts rows) (take l.name-index l.names)
