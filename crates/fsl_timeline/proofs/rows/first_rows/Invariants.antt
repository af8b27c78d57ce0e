use Rattle.std.proofs.Common.{◌≡◌, ◌++◌, take, length}
use Rattle.std.specs.Option.{option_map}
use Rattle.fsl_order.specs.Names.{latest_first}
use Rattle.fsl_table.proofs.Walk.{from}
use Rattle.fsl_timeline.specs.Kept.{rows_at}
use Rattle.fsl_timeline.proofs.rows.first_rows.Given as goal

-- with so many of what is left, it is the whole
abbrev pub invariant-loop-next : goal.invariant-loop-next
invariant-loop-next g l =
    l.list ++ take l.left (rows_at l.rows.entries (from latest_first (option_map (λ p. (p.0.now, p.1.now)) l.next) l.places.entries)) ≡ take l.count (rows_at l.rows.entries l.places.entries)

abbrev pub decreases-loop-next : goal.decreases-loop-next
decreases-loop-next g l = length (from latest_first (option_map (λ p. (p.0.now, p.1.now)) l.next) l.places.entries)
