use Rattle.std.proofs.Common.{sym, ◌∙◌}
use Rattle.fsl_order.specs.Maps.{value_at}
use Rattle.fsl_query.proofs.ListingLemmas.{title_noted, title_passed}
use Rattle.fsl_query.proofs.threads.titles.Goals as goal
use Rattle.fsl_query.proofs.threads.titles.Goals.{then-names_itself+in_ok-put_title, else-names_itself}

pub loop-row-preserved : goal.loop-row-preserved
loop-row-preserved c q =
    let facts = c.args.table.now.facts in
    let rows = c.args.rows.now in
    let i = c.loop-row.row-index in
    let r = c.row-item.result in
    elim c.if-names_itself.branch [
      | then-names_itself+in_ok-put_title w ↦
          (λ j. value_at (w.titles-is j).entries q)
          ∙ title_noted facts rows i r c.loop-row-test.true c.row-item.is (sym c.names_itself.ensures ∙ w.if-names_itself.true) c.loop-row.titles.entries w.put_title.new.titles.entries c.loop-row.invariant w.in_ok-put_title.ensures q
      | else-names_itself w ↦
          (λ j. value_at (w.titles-is j).entries q) ∙ c.loop-row.invariant q
          ∙ title_passed facts rows i r c.loop-row-test.true c.row-item.is (sym c.names_itself.ensures ∙ w.if-names_itself.false) q
    ]
