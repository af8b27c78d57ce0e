use Rattle.std.proofs.Common.{◌≡◌, ◌∙◌, ℕ, List, map, ap, sym, subst}
use Rattle.std.specs.List.Sorted.{IsStrictlySortedBy}
use Rattle.std.specs.Map.{keys_of}
use Rattle.fsl_order.specs.Names.{bytes_cmp, has}
use Rattle.fsl_order.specs.Rows.{by_name, AreDistinct}
use Rattle.fsl_table.proofs.Outcomes.{both_ok}
use Rattle.fsl_cluster.specs.declared.Fact.{Fact}
use Rattle.fsl_cluster.specs.declared.tables.Tables.{Tables}
use Rattle.fsl_cluster.specs.Clusters.{unclustered, missing}
use Rattle.fsl_cluster.specs.Kept.{AreLaid, IsKept, facts_of, is_in}
use Rattle.fsl_cluster.proofs.Canonical.{laid_none}
use Rattle.fsl_cluster.proofs.FactLemmas.{unclustered-by_name, missing-by_name}
use Rattle.fsl_cluster.proofs.Reading.{free_is, absent_is}
use Rattle.fsl_cluster.proofs.build.fill.Goals as goal

-- maps with the names of some facts and with their rows are kept
kept_of : (facts : List Fact) (t : Tables) → AreDistinct (map (λ f. f.name) facts) → facts_of t.facts.entries ≡ by_name (λ f. f.name) facts → AreLaid t
    → IsStrictlySortedBy bytes_cmp (keys_of t.unclustered.entries) → IsStrictlySortedBy bytes_cmp (keys_of t.missing.entries)
    → ((q : List ℕ) → is_in t.unclustered.entries q ≡ has (unclustered facts) q) → ((q : List ℕ) → is_in t.missing.entries q ≡ has (missing facts) q) → IsKept t
kept_of facts t distinct are laid unclustered_ordered missing_ordered free absent = record {
  laid = laid;
  unclustered_ordered = unclustered_ordered;
  missing_ordered = missing_ordered;
  unclustered = λ q. free q ∙ ap (λ l. has l q) (unclustered-by_name facts distinct ∙ ap unclustered (sym are)) ∙ free_is t.facts.entries laid.ordered q;
  missing = λ q. absent q ∙ ap (λ l. has l q) (missing-by_name facts distinct ∙ ap missing (sym are)) ∙ absent_is t.facts.entries q;
}

pub lay_in_order-requires-clause-laid : goal.lay_in_order-requires-clause-laid
lay_in_order-requires-clause-laid g c = laid_none _ c.requires.facts c.requires.members c.requires.refs

pub returns-clause-kept : goal.returns-clause-kept
returns-clause-kept g c =
    let facts : List Fact = c.args.facts in
    let set = c.lay_in_order.ensures.unclustered in
    let other = c.lay_in_order.ensures.missing in
    both_ok c.lay_in_order.result
    (λ are laid.
    kept_of facts c.lay_in_order.new.tables c.requires.distinct are laid
    (subst (λ s. IsStrictlySortedBy bytes_cmp (keys_of s.entries)) (sym set) c.in_ok-enter_unclustered.ensures.ordered)
    (subst (λ s. IsStrictlySortedBy bytes_cmp (keys_of s.entries)) (sym other) c.in_ok-enter_missing.ensures.ordered)
    (λ q. ap (λ s. is_in s.entries q) set ∙ c.in_ok-enter_unclustered.ensures.names q ∙ ap (λ l. has (unclustered l) q) c.items.ensures)
    (λ q. ap (λ s. is_in s.entries q) other ∙ c.in_ok-enter_missing.ensures.names q ∙ ap (λ l. has (missing l) q) c.items-2.ensures))
    c.lay_in_order.ensures.facts c.lay_in_order.ensures.laid
