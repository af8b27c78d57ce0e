-- The facts that the rows hold, with one more.
use Rattle.std.proofs.Common.{◌≡◌, ℕ, List, [], ◌∷◌, false, cond, Some, None, map, refl, sym, ap, ◌∙◌}
use Rattle.std.specs.Str.{bytes_eq}
use Rattle.std.specs.List.{AllByRecursion, IsDistinct}
use Rattle.fsl_tags.specs.Tags.{AreTagFacts}
use Rattle.std.specs.List.Sorted.{IsStrictlySortedBy}
use Rattle.std.specs.Map.{keys_of}
use Rattle.std.specs.BTreeMap.{insert_entry}
use Rattle.std.specs.Ordering.{match_ordering}
use Rattle.std.specs.declared.cmp.Ordering.TheVariants.{Less, Equal, Greater}
use Rattle.std.specs.Cmp.Lexicographic.{texts_ties}
use Rattle.std.specs.FinMap.{put}
use Rattle.std.specs.FinMap.Entries.{by_order}
use Rattle.fsl_order.specs.Names.{bytes_cmp}
use Rattle.fsl_order.specs.Rows.{keyed, by_name}
use Rattle.fsl_order.proofs.Orders.{bytes_cmp-IsAntisymmetric}
use Rattle.fsl_table.specs.Contents.{value_at, with_entry}
use Rattle.fsl_tags.specs.declared.Fact.{Fact}
use Rattle.fsl_tags.specs.Held.{fact_of, facts_of}
use Rattle.fsl_tags.specs.declared.node.Node.{Node}

abbrev lift : List (List ℕ × Node) → List (List ℕ × Fact)
lift [] = []
lift (e ∷ es) = (e.0, fact_of e) ∷ lift es

abbrev fact : List ℕ → Node → Fact
fact k ps = fact_of (k, ps)

put_lift : (k : List ℕ) (ps : Node) (es : List (List ℕ × Node)) → put bytes_cmp k (fact k ps) (lift es) ≡ lift (insert_entry bytes_cmp es k ps)
put_lift k ps [] = refl
put_lift k ps (e ∷ es) =
    elim (bytes_cmp k e.0) as (λ r. bytes_cmp k e.0 ≡ r → by_order r ((k, fact k ps) ∷ (e.0, fact_of e) ∷ lift es) ((e.0, fact k ps) ∷ lift es) ((e.0, fact_of e) ∷ put bytes_cmp k (fact k ps) (lift es)) ≡ lift (match_ordering r ((k, ps) ∷ e ∷ es) ((e.0, ps) ∷ es) (e ∷ insert_entry bytes_cmp es k ps))) [
      | Less ↦ λ _. refl
      | Equal ↦ λ h. λ i. (e.0, fact (bytes_cmp-IsAntisymmetric k e.0 h i) ps) ∷ lift es
      | Greater ↦ λ _. ap (λ l. (e.0, fact_of e) ∷ l) (put_lift k ps es)
    ] refl

keyed_lift : (es : List (List ℕ × Node)) → IsStrictlySortedBy bytes_cmp (keys_of es) → keyed bytes_cmp (λ f. f.name) (facts_of es) ≡ lift es
unfolding IsStrictlySortedBy
keyed_lift [] h = refl
keyed_lift (e ∷ es) h = ap (put bytes_cmp e.0 (fact_of e)) (keyed_lift es h.1) ∙ front es h.0
  where
    front : (es : List (List ℕ × Node)) → AllByRecursion (λ y. bytes_cmp e.0 y ≡ Less) (keys_of es) → put bytes_cmp e.0 (fact_of e) (lift es) ≡ (e.0, fact_of e) ∷ lift es
    front [] h = refl
    front (f ∷ fs) h = ap (λ r. by_order r ((e.0, fact_of e) ∷ (f.0, fact_of f) ∷ lift fs) ((f.0, fact_of e) ∷ lift fs) ((f.0, fact_of f) ∷ put bytes_cmp e.0 (fact_of e) (lift fs))) h.0

items_lift : (es : List (List ℕ × Node)) → map (λ e. e.1) (lift es) ≡ facts_of es
items_lift [] = refl
items_lift (e ∷ es) = ap (λ l. fact_of e ∷ l) (items_lift es)

-- the facts with one more, by name
pub facts_with : (k : List ℕ) (ps : Node) (es : List (List ℕ × Node)) → IsStrictlySortedBy bytes_cmp (keys_of es) → facts_of (with_entry bytes_cmp k ps es) ≡ by_name (λ f. f.name) (fact k ps ∷ facts_of es)
facts_with k ps es h =
    sym (items_lift (with_entry bytes_cmp k ps es))
    ∙ ap (map (λ e. e.1)) (sym (put_lift k ps es) ∙ ap (put bytes_cmp k (fact k ps)) (sym (keyed_lift es h)))

-- a fact that differs from all others isn't there
pub absent : (f : Fact) (es : List (List ℕ × Node)) → AreTagFacts (f ∷ facts_of es) → value_at bytes_cmp f.name es ≡ None
unfolding IsDistinct
absent f es ok = none es ok.differ.0
  where
    none : (es : List (List ℕ × Node)) → AllByRecursion (λ n. bytes_eq f.name n ≡ false) (map (λ f. f.name) (facts_of es)) → value_at bytes_cmp f.name es ≡ None
    none [] h = refl
    none (e ∷ es) h = ap (λ b. cond b (Some e.1) (value_at bytes_cmp f.name es)) (sym (texts_ties f.name e.0) ∙ h.0) ∙ none es h.1
