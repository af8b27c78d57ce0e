use Rattle.std.specs.Prelude.{◌≡◌, [], ◌++◌}
use Rattle.std.specs.Vec.Iter.{into_iter_items}
use Rattle.fsl_history.specs.declared.view.View.TheVariants as view
use Rattle.fsl_history.proofs.ticketed.Ticketed.finish.Given as goal

abbrev pub invariant-loop-pass : goal.invariant-loop-pass
invariant-loop-pass g l =
    (l.seat.table_id ≡ l.initial.seat.table_id)
    × (l.seat.id ≡ 0)
    × (back : _) × (l.seat.me ≡ (view.Keeper g.B.Chronicle.passes back, []))
    × (back ++ into_iter_items l.pass-iterator ≡ l.fn.passes.items)
