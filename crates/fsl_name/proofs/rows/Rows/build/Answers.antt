use Rattle.std.proofs.lemmas.List.{drop_more}
use Rattle.std.proofs.Common.{◌≡◌, ◌+◌, ◌-◌, ◌<◌, ◌∙◌, ◌∷◌, map, drop, length, sym, ap, subst, arith}
use Rattle.fsl_order.specs.Rows.{by_name, AreDistinct}
use Rattle.fsl_name.proofs.RowsBuilt.{distinct-drop, by_name-again}
use Rattle.fsl_name.proofs.rows.Rows.build.Goals as goal

pub loop-left-preserved : goal.loop-left-preserved
loop-left-preserved g c =
    let rows = c.args.rows.now in
    let j = c.loop-left.left - 1 in
    let row = c.index-rows-left.result in
    let e : j + 1 ≡ c.loop-left.left = omega (arith, c.loop-left-test.true) in
    let less : j < length rows = omega (arith, c.loop-left-test.true, c.loop-left.invariant.within) in
    let cut : drop j rows ≡ row ∷ drop c.loop-left.left rows = drop_more rows j row less ∙ (λ i. (sym c.index-rows-left.is) i ∷ drop (e i) rows) in
    let name = g.F.Named.name in
    let rest = drop c.loop-left.left rows in
    let d : AreDistinct (map name (row ∷ rest)) = subst (λ l. AreDistinct (map name l)) cut (distinct-drop name j rows c.requires) in
    record {
      done = c.in_ok-put.ensures.ok ∙ (λ i. by_name name (c.in_ok-copied.ensures i ∷ c.loop-left.invariant.done i)) ∙ by_name-again name row rest d ∙ ap (by_name name) (sym cut);
      within = omega (arith, c.loop-left.invariant.within);
    }
