-- The pairs of a set, from those of the set without one item.
use Rattle.std.proofs.Common.{◌≡◌, ℕ, true, false, ◌&&◌, List, [], ◌∷◌, Bool, Option, Some, None, All, map, refl, sym, ap, ◌∙◌}
use Rattle.std.specs.Prelude.{◌||◌, filter_map, option_map, is_some, IfSome}
use Rattle.std.specs.List.{list_any, cons_option, AllByRecursion, IsDistinct}
use Rattle.std.specs.Option.{option_map_or}
use Rattle.std.specs.Str.{bytes_eq}
use Rattle.std.specs.Cmp.Lexicographic.{nat_list_eq_equiv}
use Rattle.std.proofs.lemmas.List.Sorted.{list_any-IsPermutation, All-permutation}
use Rattle.std.proofs.lemmas.List.Elements.{All-cons}
use Rattle.std.proofs.lemmas.Bool.{or_parts}
use Rattle.fsl_order.specs.Names.{has}
use Rattle.fsl_order.specs.Rows.{by_name, named, AreDistinct}
use Rattle.fsl_order.proofs.MovedLemmas.{IsPermutation-by_name}
use Rattle.fsl_table.specs.Contents.{value_at}
use Rattle.fsl_table.specs.Exact.{pair_cmp}
use Rattle.fsl_table.specs.Pairs.{is_name}
use Rattle.fsl_table.specs.declared.key.Pair.{Pair}
use Rattle.fsl_cross.specs.declared.Item.{Item}
use Rattle.fsl_cross.specs.Attached.{pair_of, pair_name, is_pair, is_pair_of, AreOrdered, ArePairs}
use Rattle.fsl_cross.specs.Tables.{IsItem, without}
use Rattle.fsl_cross.proofs.Moved.{item_name}
use Rattle.fsl_cross.proofs.FactLemmas.{Rise}
use Rattle.fsl_cross.proofs.Mapped.{by_name-given, distinct-given, distinct-rising}
use Rattle.fsl_cross.proofs.Added.{given-added, given-absent, rising-out}

all-apart : (q : List ℕ) (names : List (List ℕ)) → has names q ≡ false → AllByRecursion (λ n. bytes_eq q n ≡ false) names
all-apart q [] h = tt
all-apart q (n ∷ names) h = let parts = or_parts (bytes_eq q n) (has names q) h in (parts.0, all-apart q names parts.1)

-- whether a key is the pair, either way
pub pair-is : (k : Pair) (id : Option (List ℕ)) (name : List ℕ) → (is_name k.second name && is_name id k.first) ≡ is_pair_of k id name
pair-is k None name = and-false (is_name k.second name)
  where
    and-false : (b : Bool) → (b && false) ≡ false
    and-false true = refl
    and-false false = refl
pair-is k (Some p) name = ap (λ b. is_name k.second name && b) (nat_list_eq_equiv.symm p k.first)

-- a test over items by name, with one more
any-by_name : {F : Type 0} (name : F → List ℕ) (p : F → Bool) (f : F) (fs : List F) → AreDistinct (map name fs) → has (map name fs) (name f) ≡ false → list_any p (by_name name (f ∷ fs)) ≡ list_any p (f ∷ fs)
unfolding IsDistinct
any-by_name name p f fs d absent = sym (list_any-IsPermutation p (f ∷ fs) (by_name name (f ∷ fs)) (IsPermutation-by_name name (f ∷ fs) (all-apart (name f) (map name fs) absent, d)))

-- a test over what items give, with one more
pub any-with : {F : Type 0} (fact_name : F → List ℕ) (give : Item → Option F) → ((item : Item) → IfSome (give item) (λ f. fact_name f ≡ item.name)) → (p : F → Bool) (items : List Item) → Rise items
    → (x : Item) → named item_name items x.name ≡ Some x → list_any p (filter_map give items) ≡ (option_map_or p (give x) false || list_any p (filter_map give (without x.name items)))
any-with {F = F} fact_name give own p items rise x at =
    ap (list_any p) (given-added item_name fact_name give own items rise x at) ∙ by (give x) refl (own x)
  where
    by : (o : Option F) → give x ≡ o → IfSome o (λ f. fact_name f ≡ x.name) → list_any p (by_name fact_name (cons_option (give x) (filter_map give (without x.name items)))) ≡ (option_map_or p (give x) false || list_any p (filter_map give (without x.name items)))
    by None e named =
        ap (λ o. list_any p (by_name fact_name (cons_option o (filter_map give (without x.name items))))) e
        ∙ ap (list_any p) (by_name-given item_name fact_name give own (without x.name items) (rising-out item_name x.name items rise))
        ∙ sym (ap (λ o. option_map_or p o false || list_any p (filter_map give (without x.name items))) e)
    by (Some f) e named =
        ap (λ o. list_any p (by_name fact_name (cons_option o (filter_map give (without x.name items))))) e
        ∙ any-by_name fact_name p f (filter_map give (without x.name items)) (distinct-given item_name fact_name give own (without x.name items) (rising-out item_name x.name items rise))
        (ap (has (map fact_name (filter_map give (without x.name items)))) named ∙ given-absent item_name fact_name give own items rise x.name)
        ∙ sym (ap (λ o. option_map_or p o false || list_any p (filter_map give (without x.name items))) e)

module _ (items : List Item) (rise : Rise items) (x : Item) (at : named item_name items x.name ≡ Some x) (id_of : Item → Option (List ℕ)) where
  abbrev give : Item → Option Pair
  give item = option_map (pair_of item.name) (id_of item)

  own : (item : Item) → IfSome (give item) (λ p. pair_name p ≡ item.name)
  own item = elim (id_of item) as (λ o. IfSome (option_map (pair_of item.name) o) (λ p. pair_name p ≡ item.name)) [ None ↦ tt | Some id ↦ refl ]

  abbrev old : List Pair
  old = filter_map give (without x.name items)

  -- whether a pair is there, with the new item
  pub any-added : (k : Pair) → list_any (is_pair k) (filter_map give items) ≡ (is_pair_of k (id_of x) x.name || list_any (is_pair k) old)
  any-added k = ap (list_any (is_pair k)) (given-added item_name pair_name give own items rise x at) ∙ by (id_of x) refl
    where
      by : (o : Option (List ℕ)) → id_of x ≡ o → list_any (is_pair k) (by_name pair_name (cons_option (give x) old)) ≡ (is_pair_of k o x.name || list_any (is_pair k) old)
      by None e = ap (λ o. list_any (is_pair k) (by_name pair_name (cons_option (option_map (pair_of x.name) o) old))) e ∙ ap (list_any (is_pair k)) (by_name-given item_name pair_name give own (without x.name items) (rising-out item_name x.name items rise))
      by (Some p) e =
          ap (λ o. list_any (is_pair k) (by_name pair_name (cons_option (option_map (pair_of x.name) o) old))) e
          ∙ any-by_name pair_name (is_pair k) (pair_of x.name p) old (distinct-given item_name pair_name give own (without x.name items) (rising-out item_name x.name items rise)) (given-absent item_name pair_name give own items rise x.name)

  pub pairs-added : (es fs : List (Pair × Unit {0})) → ArePairs old es → ((k : Pair) → is_some (value_at pair_cmp k fs) ≡ (is_pair_of k (id_of x) x.name || is_some (value_at pair_cmp k es))) → (AreOrdered es → AreOrdered fs)
      → ArePairs (filter_map give items) fs
  pairs-added es fs are there ordered = record {
    ordered = ordered are.ordered;
    there = λ k. there k ∙ ap (λ b. is_pair_of k (id_of x) x.name || b) (are.there k) ∙ sym (any-added k);
  }

-- ---- the items with one more

distinct-with : (item : Item) (items : List Item) → Rise items → has (map item_name items) item.name ≡ false → AreDistinct (map item_name (item ∷ items))
unfolding IsDistinct
distinct-with item items rise absent = (all-apart item.name (map item_name items) absent, distinct-rising (map item_name items) rise)

pub kinds-with : (item : Item) (items : List Item) → Rise items → has (map item_name items) item.name ≡ false → IsItem item → All IsItem items → All IsItem (by_name item_name (item ∷ items))
kinds-with item items rise absent is all =
    All-permutation IsItem (item ∷ items) (by_name item_name (item ∷ items)) (IsPermutation-by_name item_name (item ∷ items) (distinct-with item items rise absent)) (All-cons IsItem item items is all)
