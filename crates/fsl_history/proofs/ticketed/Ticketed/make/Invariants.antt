use Rattle.std.specs.Prelude.{◌≡◌, ◌≤◌, [], vec_len, vec_capacity}
use Rattle.fsl_history.specs.declared.view.View.TheVariants as view
use Rattle.fsl_history.specs.Entries.{newcomers}
use Rattle.fsl_history.proofs.ticketed.Ticketed.make.Given as goal

abbrev pub invariant-loop-number : goal.invariant-loop-number
invariant-loop-number g l =
    (l.seat.table_id ≡ l.initial.seat.table_id)
    × (l.seat.id ≡ 0)
    × (l.seat.me ≡ (view.Keeper l._number [], []))
    × (l.out.items ≡ newcomers l._number)
    × (vec_len l.out ≡ l._number)
    × (l.passes ≤ vec_capacity l.out)
