use Rattle.std.proofs.lemmas.List.{drop_more}
use Rattle.std.proofs.Math.Seq.{drop-length}
use Rattle.std.proofs.Common.{◌≡◌, ◌+◌, ◌-◌, ◌<◌, ◌∙◌, ◌∷◌, map, drop, length, sym, ap, subst, arith}
use Rattle.fsl_order.specs.Names.{bytes_cmp, has}
use Rattle.fsl_order.specs.Rows.{by_name, AreDistinct}
use Rattle.fsl_name.proofs.RowsBuilt.{distinct-drop, by_name-again}
use Rattle.fsl_table.specs.Contents.{value_at, with_entry}
use Rattle.fsl_table.proofs.Facts.{absent-entry, absent_before, facts_with}
use Rattle.fsl_wiki.specs.Pages.{fact_name}
use Rattle.fsl_wiki.specs.Kept.{entry_of, fact_of, facts_of, rows_of}
use Rattle.fsl_wiki.proofs.Canonical.{kept_none, own, fact_again}
use Rattle.fsl_wiki.proofs.pages.fill.Goals as goal

pub loop-left-init : goal.loop-left-init
loop-left-init g c = record {
  done = ap facts_of c.requires.entries ∙ ap (by_name fact_name) (sym (drop-length c.args.facts.now));
  kept = kept_none (rows_of c.args.maps.now) c.requires.entries c.requires.spots c.requires.targets;
  within = omega arith;
}

pub put_new-requires-clause-absent : goal.put_new-requires-clause-absent
put_new-requires-clause-absent g c =
    let facts = c.args.facts.now in
    let j = c.loop-left.left - 1 in
    let r = c.index-facts-left.result in
    let rest = drop c.loop-left.left facts in
    let e : j + 1 ≡ c.loop-left.left = omega (arith, c.loop-left-test.true) in
    let less : j < length facts = omega (arith, c.loop-left-test.true, c.loop-left.invariant.within) in
    let cut : drop j facts ≡ r ∷ rest = drop_more facts j r less ∙ (λ i. (sym c.index-facts-left.is) i ∷ drop (e i) facts) in
    let d : AreDistinct (map fact_name (r ∷ rest)) = subst (λ l. AreDistinct (map fact_name l)) cut (distinct-drop fact_name j facts c.requires.distinct) in
    (λ i. value_at bytes_cmp (fact_name c.in_ok-fact.fact) (c.begin.ensures.rows i).facts.entries)
    ∙ absent-entry fact_of fact_name own c.loop-left.maps.facts.held.entries (fact_name c.in_ok-fact.fact)
    ((λ i. has (map fact_name (c.loop-left.invariant.done i)) (fact_name (c.in_ok-fact.ensures i))) ∙ absent_before fact_name r rest d)

pub loop-left-preserved : goal.loop-left-preserved
loop-left-preserved g c =
    let facts = c.args.facts.now in
    let j = c.loop-left.left - 1 in
    let r = c.index-facts-left.result in
    let rest = drop c.loop-left.left facts in
    let e : j + 1 ≡ c.loop-left.left = omega (arith, c.loop-left-test.true) in
    let less : j < length facts = omega (arith, c.loop-left-test.true, c.loop-left.invariant.within) in
    let cut : drop j facts ≡ r ∷ rest = drop_more facts j r less ∙ (λ i. (sym c.index-facts-left.is) i ∷ drop (e i) facts) in
    let d : AreDistinct (map fact_name (r ∷ rest)) = subst (λ l. AreDistinct (map fact_name l)) cut (distinct-drop fact_name j facts c.requires.distinct) in
    record {
      done = ap facts_of (c.in_ok-put_new.ensures.entries ∙ (λ i. with_entry bytes_cmp (fact_name (c.in_ok-fact.ensures i)) (entry_of (c.in_ok-fact.ensures i)) (c.begin.ensures.rows i).facts.entries))
          ∙ facts_with fact_of fact_name own (fact_name r) (entry_of r) c.loop-left.maps.facts.held.entries c.loop-left.invariant.kept.ordered
          ∙ (λ i. by_name fact_name (fact_again r i ∷ c.loop-left.invariant.done i)) ∙ by_name-again fact_name r rest d ∙ ap (by_name fact_name) (sym cut);
      kept = c.in_ok-put_new.ensures.kept;
      within = omega (arith, c.loop-left.invariant.within);
    }
