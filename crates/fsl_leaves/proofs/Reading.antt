-- The leaves, read off the entries.
use Rattle.std.proofs.Common.{◌≡◌, ◌≢◌, ℕ, List, [], ◌∷◌, Bool, true, false, cond, not, ◌||◌, ◌&&◌, Option, Some, None, is_some, map, filter, refl, sym, ap, subst, ◌∙◌}
use mathlib.Core.Bool.{true≢false}
use Rattle.std.specs.Bool.{MatchBool}
use Rattle.std.specs.Str.{bytes_eq}
use Rattle.std.specs.List.{list_any}
use Rattle.std.specs.List.Sorted.{IsStrictlySortedBy}
use Rattle.std.specs.Map.{keys_of}
use Rattle.std.specs.Cmp.Lexicographic.{texts_ties, bytes_decides}
use Rattle.fsl_order.specs.Names.{bytes_cmp, has}
use Rattle.fsl_order.specs.Rows.{ListsChanged}
use Rattle.fsl_order.proofs.Orders.{bytes_cmp-IsTotalOrder}
use Rattle.fsl_order.proofs.AscendingLemmas.{has-ascending}
use Rattle.fsl_order.proofs.SortedLemmas.{ascending-from, same_names}
use Rattle.fsl_table.specs.Contents.{value_at}
use Rattle.fsl_table.proofs.Entries.{none_above}
use Rattle.fsl_table.proofs.Facts.{has-facts}
use Rattle.fsl_leaves.specs.declared.Fact.{Fact}
use Rattle.fsl_leaves.specs.declared.line.Line.{Line}
use Rattle.fsl_leaves.specs.Leaves.{continues, leaves, leaves_row}
use Rattle.fsl_leaves.specs.Kept.{Lines, Rows, IsKept, fact_of, facts_of, continued, ends, leaf, differs, AreFlipped}

-- whether the fact of an entry passes a test
abbrev passes : (Fact → Bool) → List ℕ → Option Line → Bool
passes test q None = false
passes test q (Some l) = test (fact_of (q, l))

has_passing : (test : Fact → Bool) (es : Lines) (q : List ℕ) → IsStrictlySortedBy bytes_cmp (keys_of es) → has (map (λ f. f.name) (filter test (facts_of es))) q ≡ passes test q (value_at bytes_cmp q es)
unfolding IsStrictlySortedBy
has_passing test [] q h = refl
has_passing test (e ∷ es) q h =
    elim (bytes_eq q e.0) as (λ b. bytes_eq q e.0 ≡ b → has (map (λ f. f.name) (filter test (facts_of (e ∷ es)))) q ≡ passes test q (cond b (Some e.1) (value_at bytes_cmp q es))) [
      | true ↦ λ t.
          let same : q ≡ e.0 = (bytes_decides q e.0).0 t in
          let none : value_at bytes_cmp q es ≡ None = ap (λ n. value_at bytes_cmp n es) same ∙ none_above bytes_cmp-IsTotalOrder e.0 es h.0 in
          let rest : has (map (λ f. f.name) (filter test (facts_of es))) q ≡ false = has_passing test es q h.1 ∙ ap (passes test q) none in
          elim (test (fact_of e)) as (λ b. has (map (λ f. f.name) (cond b (fact_of e ∷ filter test (facts_of es)) (filter test (facts_of es)))) q ≡ b) [
            | true ↦ ap (λ b. b || has (map (λ f. f.name) (filter test (facts_of es))) q) t
            | false ↦ rest
          ]
          ∙ ap (λ n. test (fact_of (n, e.1))) (sym same)
      | false ↦ λ t.
          elim (test (fact_of e)) as (λ b. has (map (λ f. f.name) (cond b (fact_of e ∷ filter test (facts_of es)) (filter test (facts_of es)))) q ≡ passes test q (value_at bytes_cmp q es)) [
            | true ↦ ap (λ b. b || has (map (λ f. f.name) (filter test (facts_of es))) q) t ∙ has_passing test es q h.1
            | false ↦ has_passing test es q h.1
          ]
    ] refl
    ∙ ap (λ b. passes test q (cond b (Some e.1) (value_at bytes_cmp q es))) (texts_ties q e.0)

any_continued : (es : Lines) (q : List ℕ) (l : Line) → list_any (continues (fact_of (q, l))) (facts_of es) ≡ continued es q l.branch
any_continued [] q l = refl
any_continued (e ∷ es) q l = ap (λ b. (has e.1.parents q && bytes_eq e.1.branch l.branch) || b) (any_continued es q l)

abbrev ending : Lines → List (List ℕ)
ending es = map (λ f. f.name) (filter (λ f. not (list_any (continues f) (facts_of es))) (facts_of es))

has_ending : (es : Lines) (q : List ℕ) → IsStrictlySortedBy bytes_cmp (keys_of es) → has (ending es) q ≡ leaf es q
has_ending es q h = has_passing (λ f. not (list_any (continues f) (facts_of es))) es q h ∙ by (value_at bytes_cmp q es)
  where
    by : (o : Option Line) → passes (λ f. not (list_any (continues f) (facts_of es))) q o ≡ ends es q o
    by None = refl
    by (Some l) = ap not (any_continued es q l)

-- the row of a name
pub row_is : (r : Rows) (q : List ℕ) → IsKept r → leaves_row (facts_of r.facts.entries) q ≡ is_some (value_at bytes_cmp q r.leaves.entries)
row_is r q k = has-ascending (ending r.facts.entries) q ∙ has_ending r.facts.entries q k.ordered ∙ sym (k.leaves q)

-- the names of the leaves
pub leaves_are : (r : Rows) → IsKept r → keys_of r.leaves.entries ≡ leaves (facts_of r.facts.entries)
leaves_are r k =
    ascending-from (ending r.facts.entries) (keys_of r.leaves.entries) k.leaves_ordered
    (λ q. ap (λ l. has l q) (sym (same_names (keys_of r.leaves.entries))) ∙ has-facts (λ e. e.0) (λ n. n) (λ e. refl) r.leaves.entries q ∙ k.leaves q ∙ sym (has_ending r.facts.entries q k.ordered))

-- the names that were flipped are those whose rows differ
pub lists_flipped : (r s : Rows) → IsKept r → IsKept s → (changed : List (List ℕ)) → IsStrictlySortedBy bytes_cmp changed → AreFlipped (λ q. is_some (value_at bytes_cmp q r.leaves.entries)) changed s.leaves.entries
    → ListsChanged (leaves_row (facts_of r.facts.entries)) (leaves_row (facts_of s.facts.entries)) changed
lists_flipped r s kr ks changed rising flipped = record {
  rising = rising;
  differ = λ q.
      subst (λ b. MatchBool b (leaves_row (facts_of r.facts.entries) q ≢ leaves_row (facts_of s.facts.entries) q) (leaves_row (facts_of r.facts.entries) q ≡ leaves_row (facts_of s.facts.entries) q)) (sym (flipped q))
      (by _ _ (is_some (value_at bytes_cmp q r.leaves.entries)) (is_some (value_at bytes_cmp q s.leaves.entries)) (row_is r q kr) (row_is s q ks));
}
  where
    by : (old new a b : Bool) → old ≡ a → new ≡ b → MatchBool (differs a b) (old ≢ new) (old ≡ new)
    by old new true true p q = p ∙ sym q
    by old new true false p q = λ e. true≢false (sym p ∙ e ∙ q)
    by old new false true p q = λ e. true≢false (sym q ∙ sym e ∙ p)
    by old new false false p q = p ∙ sym q
