use Rattle.std.proofs.lemmas.List.{drop_more}
use Rattle.std.proofs.Math.Seq.{drop-length}
use Rattle.std.proofs.Common.{◌≡◌, ◌+◌, ◌-◌, ◌<◌, ◌∙◌, ◌∷◌, map, drop, length, refl, sym, ap, subst, arith}
use Rattle.fsl_order.specs.Names.{bytes_cmp, has}
use Rattle.fsl_order.specs.Rows.{by_name, AreDistinct}
use Rattle.fsl_name.proofs.RowsBuilt.{distinct-drop, by_name-again}
use Rattle.fsl_table.specs.Contents.{value_at, with_entry}
use Rattle.fsl_table.proofs.Facts.{absent-entry, absent_before, facts_with}
use Rattle.fsl_files.specs.Kept.{entry_of, fact_of, facts_of, rows_of}
use Rattle.fsl_files.proofs.Canonical.{kept_none}
use Rattle.fsl_files.proofs.files.fill.Goals as goal

pub loop-left-init : goal.loop-left-init
loop-left-init g c = record {
  done = ap facts_of c.requires.entries ∙ ap (by_name (λ f. f.name)) (sym (drop-length c.args.facts.now));
  kept = kept_none (rows_of c.args.maps.now) c.requires.entries c.requires.deltas c.requires.children;
  within = omega arith;
}

pub put_new-requires-clause-absent : goal.put_new-requires-clause-absent
put_new-requires-clause-absent g c =
    let facts = c.args.facts.now in
    let j = c.loop-left.left - 1 in
    let r = c.index-facts-left.result in
    let rest = drop c.loop-left.left facts in
    let e : j + 1 ≡ c.loop-left.left = omega (arith, c.loop-left-test.true) in
    let less : j < length facts = omega (arith, c.loop-left-test.true, c.loop-left.invariant.within) in
    let cut : drop j facts ≡ r ∷ rest = drop_more facts j r less ∙ (λ i. (sym c.index-facts-left.is) i ∷ drop (e i) facts) in
    let d : AreDistinct (map (λ f. f.name) (r ∷ rest)) = subst (λ l. AreDistinct (map (λ f. f.name) l)) cut (distinct-drop (λ f. f.name) j facts c.requires.distinct) in
    (λ i. value_at bytes_cmp (c.line_of.ensures i).0 (c.begin.ensures.rows i).facts.entries)
    ∙ absent-entry fact_of (λ f. f.name) (λ e. refl) c.loop-left.maps.facts.held.entries c.in_ok-fact.fact.name
    ((λ i. has (map (λ f. f.name) (c.loop-left.invariant.done i)) (c.in_ok-fact.ensures i).name) ∙ absent_before (λ f. f.name) r rest d)

pub loop-left-preserved : goal.loop-left-preserved
loop-left-preserved g c =
    let facts = c.args.facts.now in
    let j = c.loop-left.left - 1 in
    let r = c.index-facts-left.result in
    let rest = drop c.loop-left.left facts in
    let e : j + 1 ≡ c.loop-left.left = omega (arith, c.loop-left-test.true) in
    let less : j < length facts = omega (arith, c.loop-left-test.true, c.loop-left.invariant.within) in
    let cut : drop j facts ≡ r ∷ rest = drop_more facts j r less ∙ (λ i. (sym c.index-facts-left.is) i ∷ drop (e i) facts) in
    let d : AreDistinct (map (λ f. f.name) (r ∷ rest)) = subst (λ l. AreDistinct (map (λ f. f.name) l)) cut (distinct-drop (λ f. f.name) j facts c.requires.distinct) in
    let es = c.loop-left.maps.facts.held.entries in
    record {
      done = ap facts_of c.in_ok-put_new.ensures.entries ∙ (λ i. facts_of (with_entry bytes_cmp (c.line_of.ensures i).0 (c.line_of.ensures i).1 (c.begin.ensures.rows i).facts.entries))
          ∙ facts_with fact_of (λ f. f.name) (λ e. refl) c.in_ok-fact.fact.name (entry_of c.in_ok-fact.fact) es c.loop-left.invariant.kept.ordered
          ∙ (λ i. by_name (λ f. f.name) (c.in_ok-fact.ensures i ∷ c.loop-left.invariant.done i)) ∙ by_name-again (λ f. f.name) r rest d ∙ ap (by_name (λ f. f.name)) (sym cut);
      kept = c.in_ok-put_new.ensures.kept;
      within = omega (arith, c.loop-left.invariant.within);
    }
