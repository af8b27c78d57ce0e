use Rattle.std.proofs.lemmas.List.{drop_more}
use Rattle.std.proofs.Math.Seq.{drop-length}
use Rattle.std.proofs.Common.{◌≡◌, ◌+◌, ◌-◌, ◌<◌, ◌∙◌, ◌∷◌, map, drop, length, refl, sym, ap, subst, arith}
use Rattle.fsl_order.specs.Names.{bytes_cmp, has}
use Rattle.fsl_order.specs.Rows.{by_name, AreDistinct}
use Rattle.fsl_name.proofs.RowsBuilt.{distinct-drop, by_name-again}
use Rattle.fsl_table.specs.Contents.{value_at}
use Rattle.fsl_table.proofs.Facts.{absent-entry, absent_before, facts_with}
use Rattle.fsl_ticket.specs.Kept.{fact_of, facts_of, with_fact}
use Rattle.fsl_ticket.proofs.rows.put_all.Goals as goal

pub loop-left-init : goal.loop-left-init
loop-left-init g c = record {
  done = ap facts_of c.requires.none ∙ ap (by_name (λ f. f.name)) (sym (drop-length c.args.all.now));
  kept = c.requires.kept;
  within = omega arith;
}

pub put_copy-requires-clause-absent : goal.put_copy-requires-clause-absent
put_copy-requires-clause-absent g c =
    let facts = c.args.all.now in
    let j = c.loop-left.left - 1 in
    let r = c.index-all-left.result in
    let rest = drop c.loop-left.left facts in
    let e : j + 1 ≡ c.loop-left.left = omega (arith, c.loop-left-test.true) in
    let less : j < length facts = omega (arith, c.loop-left-test.true, c.loop-left.invariant.within) in
    let cut : drop j facts ≡ r ∷ rest = drop_more facts j r less ∙ (λ i. (sym c.index-all-left.is) i ∷ drop (e i) facts) in
    let d : AreDistinct (map (λ f. f.name) (r ∷ rest)) = subst (λ l. AreDistinct (map (λ f. f.name) l)) cut (distinct-drop (λ f. f.name) j facts c.requires.distinct) in
    ap (λ r. value_at bytes_cmp c.index-all-left.result.name r.facts.entries) c.begin.ensures.rows
    ∙ absent-entry fact_of (λ f. f.name) (λ e. refl) c.loop-left.maps.facts.held.entries r.name
    (ap (λ l. has (map (λ f. f.name) l) r.name) c.loop-left.invariant.done ∙ absent_before (λ f. f.name) r rest d)

pub loop-left-preserved : goal.loop-left-preserved
loop-left-preserved g c =
    let facts = c.args.all.now in
    let j = c.loop-left.left - 1 in
    let r = c.index-all-left.result in
    let rest = drop c.loop-left.left facts in
    let e : j + 1 ≡ c.loop-left.left = omega (arith, c.loop-left-test.true) in
    let less : j < length facts = omega (arith, c.loop-left-test.true, c.loop-left.invariant.within) in
    let cut : drop j facts ≡ r ∷ rest = drop_more facts j r less ∙ (λ i. (sym c.index-all-left.is) i ∷ drop (e i) facts) in
    let d : AreDistinct (map (λ f. f.name) (r ∷ rest)) = subst (λ l. AreDistinct (map (λ f. f.name) l)) cut (distinct-drop (λ f. f.name) j facts c.requires.distinct) in
    record {
      done = ap facts_of c.in-Ok.ensures.entries ∙ ap (λ m. facts_of (with_fact r m.facts.entries)) c.begin.ensures.rows
          ∙ facts_with fact_of (λ f. f.name) (λ e. refl) _ _ c.loop-left.maps.facts.held.entries c.loop-left.invariant.kept.laid.ordered
          ∙ ap (λ l. by_name (λ f. f.name) (r ∷ l)) c.loop-left.invariant.done ∙ by_name-again (λ f. f.name) r rest d ∙ ap (by_name (λ f. f.name)) (sym cut);
      kept = c.in-Ok.ensures.kept;
      within = omega (arith, c.loop-left.invariant.within);
    }
