-- The unclustered and the missing names, read off the entries.
use Rattle.std.proofs.Common.{◌≡◌, ◌≢◌, ℕ, List, [], ◌∷◌, Bool, true, false, cond, not, ◌||◌, ◌&&◌, Option, Some, None, is_some, filter, length, suc, refl, sym, ap, subst, ◌∙◌}
use mathlib.Core.Bool.{true≢false}
use Rattle.std.specs.Bool.{MatchBool}
use Rattle.std.specs.Str.{bytes_eq}
use Rattle.std.specs.List.{list_any, flat_map}
use Rattle.std.specs.List.Sorted.{IsStrictlySortedBy}
use Rattle.std.specs.Map.{keys_of}
use Rattle.std.specs.Cmp.Lexicographic.{texts_ties, bytes_decides}
use Rattle.fsl_order.specs.Names.{bytes_cmp, has}
use Rattle.fsl_order.specs.Rows.{ListsChanged}
use Rattle.fsl_order.proofs.Orders.{bytes_cmp-IsTotalOrder}
use Rattle.fsl_order.proofs.AscendingLemmas.{has-ascending}
use Rattle.fsl_order.proofs.SortedLemmas.{ascending-from, same_names}
use Rattle.fsl_table.specs.Contents.{value_at}
use Rattle.fsl_table.proofs.Entries.{none_above}
use Rattle.fsl_table.proofs.Facts.{has-facts}
use Rattle.fsl_cluster.specs.declared.Fact.{Fact}
use Rattle.fsl_cluster.specs.declared.entry.Entry.{Entry}
use Rattle.fsl_cluster.specs.declared.tables.Tables.{Tables}
use Rattle.fsl_cluster.specs.declared.tables.Flips.{Flips}
use Rattle.fsl_cluster.specs.Clusters.{names, unclustered, missing, clusters_row}
use Rattle.fsl_cluster.specs.Kept.{Entries, IsKept, AreFlipped, fact_of, facts_of, is_listed, is_public, is_in, is_free, is_absent, differs}
use Rattle.fsl_cluster.proofs.FactLemmas.{has-flat_map, has-filter}
use Rattle.fsl_cluster.proofs.Listing.{Sorted}

-- whether the fact of an entry passes a test
abbrev passes : (Fact → Bool) → List ℕ → Option Entry → Bool
passes test q None = false
passes test q (Some e) = test (fact_of (q, e))

has_passing : (test : Fact → Bool) (es : Entries) (q : List ℕ) → Sorted es → has (names (filter test (facts_of es))) q ≡ passes test q (value_at bytes_cmp q es)
unfolding IsStrictlySortedBy
has_passing test [] q h = refl
has_passing test (e ∷ es) q h =
    elim (bytes_eq q e.0) as (λ b. bytes_eq q e.0 ≡ b → has (names (filter test (facts_of (e ∷ es)))) q ≡ passes test q (cond b (Some e.1) (value_at bytes_cmp q es))) [
      | true ↦ λ t.
          let same : q ≡ e.0 = (bytes_decides q e.0).0 t in
          let none : value_at bytes_cmp q es ≡ None = ap (λ n. value_at bytes_cmp n es) same ∙ none_above bytes_cmp-IsTotalOrder e.0 es h.0 in
          let rest : has (names (filter test (facts_of es))) q ≡ false = has_passing test es q h.1 ∙ ap (passes test q) none in
          elim (test (fact_of e)) as (λ b. has (names (cond b (fact_of e ∷ filter test (facts_of es)) (filter test (facts_of es)))) q ≡ b) [
            | true ↦ ap (λ b. b || has (names (filter test (facts_of es))) q) t
            | false ↦ rest
          ]
          ∙ ap (λ n. test (fact_of (n, e.1))) (sym same)
      | false ↦ λ t.
          elim (test (fact_of e)) as (λ b. has (names (cond b (fact_of e ∷ filter test (facts_of es)) (filter test (facts_of es)))) q ≡ passes test q (value_at bytes_cmp q es)) [
            | true ↦ ap (λ b. b || has (names (filter test (facts_of es))) q) t ∙ has_passing test es q h.1
            | false ↦ has_passing test es q h.1
          ]
    ] refl
    ∙ ap (λ b. passes test q (cond b (Some e.1) (value_at bytes_cmp q es))) (texts_ties q e.0)

any_members : (es : Entries) (q : List ℕ) → list_any (λ f. has f.members q) (facts_of es) ≡ is_listed (λ e. e.members) es q
any_members [] q = refl
any_members (e ∷ es) q = ap (λ b. has e.1.members q || b) (any_members es q)

any_refs : (es : Entries) (q : List ℕ) → list_any (λ f. has f.refs q) (facts_of es) ≡ is_listed (λ e. e.refs) es q
any_refs [] q = refl
any_refs (e ∷ es) q = ap (λ b. has e.1.refs q || b) (any_refs es q)

-- a public fact whose name is in no list of members
abbrev is_unlisted : Entries → Fact → Bool
is_unlisted es f = not f.private && not (has (flat_map (λ g. g.members) (facts_of es)) f.name)

pub free_is : (es : Entries) → Sorted es → (q : List ℕ) → has (unclustered (facts_of es)) q ≡ is_free es q
free_is es h q = has-ascending (names (filter (is_unlisted es) (facts_of es))) q ∙ has_passing (is_unlisted es) es q h ∙ by (value_at bytes_cmp q es)
  where
    by : (o : Option Entry) → passes (is_unlisted es) q o ≡ (is_public o && not (is_listed (λ e. e.members) es q))
    by None = refl
    by (Some e) = ap (λ b. not e.private && not b) (has-flat_map (λ g. g.members) (facts_of es) q ∙ any_members es q)

pub absent_is : (es : Entries) (q : List ℕ) → has (missing (facts_of es)) q ≡ is_absent es q
absent_is es q =
    has-ascending (filter (λ name. not (has (names (facts_of es)) name)) (flat_map (λ f. f.refs) (facts_of es))) q
    ∙ has-filter (λ name. not (has (names (facts_of es)) name)) (flat_map (λ f. f.refs) (facts_of es)) q
    ∙ (λ i. (has-flat_map (λ f. f.refs) (facts_of es) q ∙ any_refs es q) i && not (has-facts fact_of (λ f. f.name) (λ e. refl) es q i))
    ∙ turned (is_listed (λ e. e.refs) es q) (not (is_some (value_at bytes_cmp q es)))
  where
    turned : (a b : Bool) → (a && b) ≡ (b && a)
    turned true true = refl
    turned true false = refl
    turned false true = refl
    turned false false = refl

-- ---- the sets that are kept

in_keys : (ns : List (List ℕ × Unit {0})) (q : List ℕ) → has (keys_of ns) q ≡ is_in ns q
in_keys ns q = ap (λ l. has l q) (sym (same_names (keys_of ns))) ∙ has-facts (λ e. e.0) (λ n. n) (λ e. refl) ns q

pub unclustered_are : (t : Tables) → IsKept t → keys_of t.unclustered.entries ≡ unclustered (facts_of t.facts.entries)
unclustered_are t k =
    ascending-from (names (filter (is_unlisted t.facts.entries) (facts_of t.facts.entries))) (keys_of t.unclustered.entries) k.unclustered_ordered
    (λ q. in_keys t.unclustered.entries q ∙ k.unclustered q ∙ sym (free_is t.facts.entries k.laid.ordered q) ∙ has-ascending (names (filter (is_unlisted t.facts.entries) (facts_of t.facts.entries))) q)

pub missing_are : (t : Tables) → IsKept t → keys_of t.missing.entries ≡ missing (facts_of t.facts.entries)
missing_are t k =
    ascending-from (filter (λ name. not (has (names (facts_of t.facts.entries)) name)) (flat_map (λ f. f.refs) (facts_of t.facts.entries))) (keys_of t.missing.entries) k.missing_ordered
    (λ q. in_keys t.missing.entries q ∙ k.missing q ∙ sym (absent_is t.facts.entries q)
    ∙ has-ascending (filter (λ name. not (has (names (facts_of t.facts.entries)) name)) (flat_map (λ f. f.refs) (facts_of t.facts.entries))) q)

keys_length : (ns : List (List ℕ × Unit {0})) → length ns ≡ length (keys_of ns)
keys_length [] = refl
keys_length (n ∷ ns) = ap suc (keys_length ns)

pub unclustered_length : (t : Tables) → IsKept t → length t.unclustered.entries ≡ length (unclustered (facts_of t.facts.entries))
unclustered_length t k = keys_length t.unclustered.entries ∙ ap length (unclustered_are t k)

pub missing_length : (t : Tables) → IsKept t → length t.missing.entries ≡ length (missing (facts_of t.facts.entries))
missing_length t k = keys_length t.missing.entries ∙ ap length (missing_are t k)

-- the row of a name
pub row_is : (t : Tables) → IsKept t → (q : List ℕ) → clusters_row (facts_of t.facts.entries) q ≡ (is_in t.unclustered.entries q, is_in t.missing.entries q)
row_is t k q i = ((free_is t.facts.entries k.laid.ordered q ∙ sym (k.unclustered q)) i, (absent_is t.facts.entries q ∙ sym (k.missing q)) i)

differ_or_same : (x y : Bool) → MatchBool (differs x y) (x ≢ y) (x ≡ y)
differ_or_same true true = refl
differ_or_same true false = true≢false
differ_or_same false true = λ e. true≢false (sym e)
differ_or_same false false = refl

-- the names that were turned over in one of the sets are those whose rows differ
pub lists_flipped : (r s : Tables) → IsKept r → IsKept s → (flips : Flips) → AreFlipped r flips s → (changed : List (List ℕ)) → IsStrictlySortedBy bytes_cmp changed
    → ((q : List ℕ) → has changed q ≡ (has flips.missing.keys q || has flips.unclustered.keys q))
    → ListsChanged (clusters_row (facts_of r.facts.entries)) (clusters_row (facts_of s.facts.entries)) changed
lists_flipped r s kr ks flips flipped changed rising both = record {
  rising = rising;
  differ = λ q.
      subst (λ b. MatchBool b (clusters_row (facts_of r.facts.entries) q ≢ clusters_row (facts_of s.facts.entries) q) (clusters_row (facts_of r.facts.entries) q ≡ clusters_row (facts_of s.facts.entries) q))
      (sym (both q ∙ (λ i. flipped.missing q i || flipped.unclustered q i)))
      (by _ _ (is_in r.unclustered.entries q) (is_in r.missing.entries q) (is_in s.unclustered.entries q) (is_in s.missing.entries q) (row_is r kr q) (row_is s ks q));
}
  where
    by : (o n : Bool × Bool) (a b c d : Bool) → o ≡ (a, b) → n ≡ (c, d) → MatchBool (differs b d || differs a c) (o ≢ n) (o ≡ n)
    by o n a b c d p q =
        elim (differs b d) as (λ k. MatchBool k (b ≢ d) (b ≡ d) → MatchBool (k || differs a c) (o ≢ n) (o ≡ n)) [
          | true ↦ λ h e. h (ap (λ x. x.1) (sym p ∙ e ∙ q))
          | false ↦ λ h.
              elim (differs a c) as (λ k. MatchBool k (a ≢ c) (a ≡ c) → MatchBool k (o ≢ n) (o ≡ n)) [
                | true ↦ λ k e. k (ap (λ x. x.0) (sym p ∙ e ∙ q))
                | false ↦ λ k. p ∙ (λ i. (k i, h i)) ∙ sym q
              ] (differ_or_same a c)
        ] (differ_or_same b d)
