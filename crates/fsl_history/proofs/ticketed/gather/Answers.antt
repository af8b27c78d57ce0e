use Rattle.std.proofs.Common.{arith, sym, ap, ◌∙◌, [], ◌∷◌, ◌++◌}
use Rattle.fsl_history.specs.declared.view.View.TheVariants as view
use Rattle.fsl_history.specs.Plays.{gathered}
use Rattle.fsl_history.proofs.Keeper.{joins_at}
use Rattle.fsl_history.proofs.ticketed.gather.Goals as goal

pub join_seat-requires : goal.join_seat-requires
join_seat-requires g c =
    let k = c.requires.keeper in
    let t = c.requires.table in
    let p = c.pass.invariant in (
      t.0 ∙ sym t.1,
      p.0 ∙ sym t.1,
      ap (λ x. x.1) p.1,
      omega (arith, t.2, ap (λ z. z.words) t.1),
      joins_at _ _ _ _ _ k.0 k.1 _ _ _ _ k.2 (ap (λ x. x.0) k.3) (ap (λ x. x.0) p.1),
    )

pub returns-clause-table : goal.returns-clause-table
returns-clause-table g c = let e = c.join_seat.ensures in (e.0, e.1)

pub returns-clause-gathered : goal.returns-clause-gathered
returns-clause-gathered g c = λ n back at.
    let e = c.join_seat.ensures in
    let p = c.pass.invariant in
    e.2 ∙ ap (λ x. (gathered x.0 c.pass.inside.chair.me.0, x.1)) at ∙ ap (λ y. (gathered (view.Keeper n back) y.0, [])) p.1 ∙ ap (λ t. (view.Keeper n (back ++ t ∷ []), [])) c.pass.view_is
