-- The current attachments of a target, as a map by file has them.
use Rattle.std.specs.Prelude.{◌≡◌, ◌&&◌, ◌||◌, ℕ, List, [], ◌∷◌, true, false, cond, Option, Some, None, is_some, map, filter, filter_map}
use Rattle.std.proofs.Common.{refl, sym, ap, ◌∙◌}
use Rattle.std.specs.Ordering.{eq_by_cmp, on}
use Rattle.std.specs.declared.cmp.Ordering.{Ordering}
use Rattle.std.specs.Cmp.{eq_by_cmp_equiv}
use Rattle.std.specs.Cmp.Lexicographic.{texts_ties, nat_list_eq_equiv}
use Rattle.std.specs.List.{IsDistinct, AllByRecursion, cons_option, list_any}
use Rattle.std.specs.List.Sorted.{IsStrictlySortedBy}
use Rattle.std.specs.Map.{keys_of, values_of}
use Rattle.std.specs.Str.{bytes_eq}
use Rattle.std.proofs.lemmas.Map.Made.{is_some-lookup}
use Rattle.std.proofs.lemmas.Map.Keys.{IsDistinct-from_sorted}
use Rattle.fsl_order.specs.Names.{bytes_cmp, dated_cmp, has}
use Rattle.fsl_order.specs.Rows.{greater, greatest, ascending}
use Rattle.fsl_order.proofs.Orders.{bytes_cmp-IsTotalOrder}
use Rattle.fsl_order.proofs.SortedLemmas.{ascending-from}
use Rattle.fsl_wiki.specs.declared.Attached.{Attached}
use Rattle.fsl_wiki.specs.declared.Fact.{Fact}
use Rattle.fsl_wiki.specs.Pages.{as_attached, current, attached}
use Rattle.fsl_order.specs.Maps.{value_at}

module _ {X : Type 0} where
  -- ---- what look-ups of the keys give

  filter_map-same : (f g : List ℕ → Option X) (keys : List (List ℕ)) → AllByRecursion (λ q. f q ≡ g q) keys → filter_map f keys ≡ filter_map g keys
  filter_map-same f g [] same = refl
  filter_map-same f g (q ∷ keys) same = λ i. cons_option (same.0 i) (filter_map-same f g keys same.1 i)

  elsewhere : (e : List ℕ × X) (es : List (List ℕ × X)) (keys : List (List ℕ)) → AllByRecursion (λ q. eq_by_cmp bytes_cmp e.0 q ≡ false) keys → AllByRecursion (λ q. value_at (e ∷ es) q ≡ value_at es q) keys
  elsewhere e es [] apart = tt
  elsewhere e es (q ∷ keys) apart =
      (ap (λ b. cond b (Some e.1) (value_at es q)) ((eq_by_cmp_equiv bytes_cmp-IsTotalOrder).symm q e.0 ∙ apart.0), elsewhere e es keys apart.1)

  found_each : (es : List (List ℕ × X)) → IsDistinct (eq_by_cmp bytes_cmp) (keys_of es) → filter_map (value_at es) (keys_of es) ≡ values_of es
  unfolding IsDistinct
  found_each [] d = refl
  found_each (e ∷ es) d =
      ap (λ b. cons_option (cond b (Some e.1) (value_at es e.0)) (filter_map (value_at (e ∷ es)) (keys_of es))) ((eq_by_cmp_equiv bytes_cmp-IsTotalOrder).refl e.0)
      ∙ ap (λ l. e.1 ∷ l) (filter_map-same (value_at (e ∷ es)) (value_at es) (keys_of es) (elsewhere e es (keys_of es) d.0) ∙ found_each es d.1)

  has-keys : (es : List (List ℕ × X)) (q : List ℕ) → has (keys_of es) q ≡ is_some (value_at es q)
  has-keys es q = (λ i. list_any (λ k. texts_ties q k i) (keys_of es)) ∙ sym (is_some-lookup (eq_by_cmp bytes_cmp q) es)

-- ---- which files have an attachment

abbrev attached_cmp : Attached → Attached → Ordering
attached_cmp = on (λ a. (a.date, a.name)) dated_cmp

some-greater : (a : Attached) (p : Option Attached) → is_some (greater attached_cmp (Some a) p) ≡ true
some-greater a None = refl
some-greater a (Some b) = refl

module _ (target file : List ℕ) where
  there : (items : List Attached) → is_some (greatest attached_cmp (filter (λ a. bytes_eq a.target target && bytes_eq a.file file) items)) ≡ has (map (λ a. a.file) (filter (λ a. bytes_eq a.target target) items)) file
  there [] = refl
  there (a ∷ items) =
      elim (bytes_eq a.target target) as (λ t. is_some (greatest attached_cmp (cond (t && bytes_eq a.file file) (a ∷ filter (λ a. bytes_eq a.target target && bytes_eq a.file file) items) (filter (λ a. bytes_eq a.target target && bytes_eq a.file file) items)))
      ≡ has (map (λ (a : Attached). a.file) (cond t (a ∷ filter (λ a. bytes_eq a.target target) items) (filter (λ a. bytes_eq a.target target) items))) file) [
        | false ↦ there items
        | true ↦ elim (bytes_eq a.file file) as (λ f. is_some (greatest attached_cmp (cond f (a ∷ filter (λ a. bytes_eq a.target target && bytes_eq a.file file) items) (filter (λ a. bytes_eq a.target target && bytes_eq a.file file) items)))
            ≡ (f || has (map (λ (a : Attached). a.file) (filter (λ a. bytes_eq a.target target) items)) file)) [
              | true ↦ some-greater a (greatest attached_cmp (filter (λ a. bytes_eq a.target target && bytes_eq a.file file) items))
              | false ↦ there items
            ] ∙ ap (λ f. f || has (map (λ (a : Attached). a.file) (filter (λ a. bytes_eq a.target target) items)) file) (nat_list_eq_equiv.symm a.file file)
      ]

-- a map whose files have their current attachments has those of the target, by file
pub listed : (facts : List Fact) (target : List ℕ) (es : List (List ℕ × Attached)) → IsStrictlySortedBy bytes_cmp (keys_of es) → ((file : List ℕ) → value_at es file ≡ current facts target file)
    → values_of es ≡ attached facts target
listed facts target es rising is =
    sym (found_each es (IsDistinct-from_sorted bytes_cmp (keys_of es) rising))
    ∙ (λ i. filter_map (λ file. is file i) (files i))
  where
    files : keys_of es ≡ ascending (map (λ (a : Attached). a.file) (filter (λ a. bytes_eq a.target target) (filter_map as_attached facts)))
    files =
        ascending-from (map (λ (a : Attached). a.file) (filter (λ a. bytes_eq a.target target) (filter_map as_attached facts))) (keys_of es) rising
        (λ q. has-keys es q ∙ ap is_some (is q) ∙ there target q (filter_map as_attached facts))
