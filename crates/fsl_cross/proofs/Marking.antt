-- One item taken out of an ordered map, and one that is made private or public.
use Rattle.std.proofs.Common.{◌≡◌, ℕ, true, false, cond, List, [], ◌∷◌, Bool, Some, None, map, refl, sym, ap, ◌∙◌, subst}
use Rattle.std.specs.Prelude.{filter, not}
use Rattle.std.specs.List.{AllByRecursion}
use Rattle.std.specs.List.Sorted.{IsStrictlySortedBy}
use Rattle.std.specs.Map.{keys_of, values_of, remove_entry, lookup, set_value}
use Rattle.std.specs.Ordering.{is_eq}
use Rattle.std.specs.declared.cmp.Ordering.TheVariants.{Less}
use Rattle.std.specs.BTreeMap.{is_at}
use Rattle.std.specs.Str.{bytes_eq}
use Rattle.std.specs.Cmp.Lexicographic.{texts_ties, nat_list_eq_equiv, bytes_decides}
use Rattle.fsl_order.specs.Names.{bytes_cmp}
use Rattle.fsl_order.proofs.Orders.{bytes_cmp-IsTotalOrder}
use Rattle.fsl_name.specs.RowsKept.{IsKept}
use Rattle.fsl_name.proofs.RowsKeeping.{lookup-kept, names-kept}
use Rattle.fsl_name.proofs.Rising.{rising-filter}
use Rattle.fsl_table.specs.Contents.{without_key}
use Rattle.fsl_table.proofs.Entries.{sorted-remove_entry}
use Rattle.fsl_table.proofs.Finding.{value-without}
use Rattle.fsl_cross.specs.declared.Item.{Item}
use Rattle.fsl_cross.specs.Marks.{private_at, entry_at}
use Rattle.fsl_cross.proofs.Sets.{rising-found, named-out}

module _ {X : Type 0} (name : X → List ℕ) where
  own-remove : (test : List ℕ → Bool) (es : List (List ℕ × X)) → AllByRecursion (λ e. e.0 ≡ name e.1) es → AllByRecursion (λ e. e.0 ≡ name e.1) (remove_entry test es)
  own-remove test [] own = own
  own-remove test (e ∷ es) own = elim (test e.0) as (λ b. AllByRecursion (λ e. e.0 ≡ name e.1) (cond b es (e ∷ remove_entry test es))) [ true ↦ own.1 | false ↦ (own.0, own-remove test es own.1) ]

  pub kept-remove : (k : List ℕ) (es : List (List ℕ × X)) → IsKept name es → IsKept name (without_key bytes_cmp k es)
  kept-remove k es kept = record {
    rising = sorted-remove_entry bytes_cmp-IsTotalOrder (is_at (bytes_cmp k)) es kept.rising;
    named = own-remove (is_at (bytes_cmp k)) es kept.named;
  }

  -- the items without that of the name
  pub values-remove : (k : List ℕ) (es : List (List ℕ × X)) → IsKept name es → values_of (without_key bytes_cmp k es) ≡ filter (λ x. not (bytes_eq (name x) k)) (values_of es)
  values-remove k es kept =
      let left = kept-remove k es kept in
      let rising : IsStrictlySortedBy bytes_cmp (map name (values_of es)) = subst (IsStrictlySortedBy bytes_cmp) (names-kept name es kept.named) kept.rising in
      rising-found name (values_of (without_key bytes_cmp k es)) (filter (λ x. not (bytes_eq (name x) k)) (values_of es))
      (subst (IsStrictlySortedBy bytes_cmp) (names-kept name (without_key bytes_cmp k es) left.named) left.rising)
      (rising-filter name (λ x. not (bytes_eq (name x) k)) (values_of es) rising)
      (λ q. sym (lookup-kept name q (without_key bytes_cmp k es) left.named) ∙ value-without k es kept.rising q
      ∙ (λ i. cond (nat_list_eq_equiv.symm q k i) None (lookup-kept name q es kept.named i)) ∙ sym (named-out name k q (values_of es)))

-- ---- an item that is marked

pub values-marked : (k : List ℕ) (private : Bool) (es : List (List ℕ × Item)) → AllByRecursion (λ e. e.0 ≡ e.1.name) es → values_of (map (entry_at k private) es) ≡ map (private_at k private) (values_of es)
values-marked k private [] own = refl
values-marked k private (e ∷ es) own = λ i. cond (bytes_eq (own.0 i) k) (record e.1 { private = private }) e.1 ∷ values-marked k private es own.1 i

keys-marked : (k : List ℕ) (private : Bool) (es : List (List ℕ × Item)) → keys_of (map (entry_at k private) es) ≡ keys_of es
keys-marked k private [] = refl
keys-marked k private (e ∷ es) = ap (λ ks. e.0 ∷ ks) (keys-marked k private es)

own-marked : (k : List ℕ) (private : Bool) (es : List (List ℕ × Item)) → AllByRecursion (λ e. e.0 ≡ e.1.name) es → AllByRecursion (λ e. e.0 ≡ e.1.name) (map (entry_at k private) es)
own-marked k private [] own = own
own-marked k private (e ∷ es) own =
    (elim (bytes_eq e.0 k) as (λ b. e.0 ≡ (cond b (record e.1 { private = private }) e.1).name) [ true ↦ own.0 | false ↦ own.0 ], own-marked k private es own.1)

pub kept-marked : (k : List ℕ) (private : Bool) (es : List (List ℕ × Item)) → IsKept (λ (i : Item). i.name) es → IsKept (λ (i : Item). i.name) (map (entry_at k private) es)
kept-marked k private es kept = record {
  rising = subst (IsStrictlySortedBy bytes_cmp) (sym (keys-marked k private es)) kept.rising;
  named = own-marked k private es kept.named;
}

untouched : (k : List ℕ) (private : Bool) (es : List (List ℕ × Item)) → AllByRecursion (λ n. bytes_eq n k ≡ false) (keys_of es) → map (entry_at k private) es ≡ es
untouched k private [] out = refl
untouched k private (e ∷ es) out = λ i. (e.0, cond (out.0 i) (record e.1 { private = private }) e.1) ∷ untouched k private es out.1 i

later-others : (a k : List ℕ) (names : List (List ℕ)) → bytes_eq a k ≡ true → AllByRecursion (λ n. bytes_cmp a n ≡ Less) names → AllByRecursion (λ n. bytes_eq n k ≡ false) names
later-others a k [] same all = tt
later-others a k (n ∷ names) same all =
    (subst (λ p. bytes_eq n p ≡ false) ((bytes_decides a k).0 same) (nat_list_eq_equiv.symm n a ∙ texts_ties a n ∙ ap is_eq all.0), later-others a k names same all.1)

-- the value at the name is set, where it is there
pub marked-set : (k : List ℕ) (private : Bool) (es : List (List ℕ × Item)) (x : Item) → IsStrictlySortedBy bytes_cmp (keys_of es) → lookup (is_at (bytes_cmp k)) es ≡ Some x
    → set_value (is_at (bytes_cmp k)) es (record x { private = private }) ≡ map (entry_at k private) es
unfolding IsStrictlySortedBy
marked-set k private [] x sorted found = cc
marked-set k private (e ∷ es) x sorted found =
    let test : is_eq (bytes_cmp k e.0) ≡ bytes_eq e.0 k = sym (texts_ties k e.0) ∙ nat_list_eq_equiv.symm k e.0 in
    ap (λ b. cond b ((e.0, record x { private = private }) ∷ es) (e ∷ set_value (is_at (bytes_cmp k)) es (record x { private = private }))) test
    ∙ elim (bytes_eq e.0 k) as (λ b. bytes_eq e.0 k ≡ b → cond b (Some e.1) (lookup (is_at (bytes_cmp k)) es) ≡ Some x
    → cond b ((e.0, record x { private = private }) ∷ es) (e ∷ set_value (is_at (bytes_cmp k)) es (record x { private = private })) ≡ (e.0, cond b (record e.1 { private = private }) e.1) ∷ map (entry_at k private) es) [
      | true ↦ λ t r. let same : e.1 ≡ x = inside e.1 x r in λ i. (e.0, record (sym same i) { private = private }) ∷ sym (untouched k private es (later-others e.0 k (keys_of es) t sorted.0)) i
      | false ↦ λ t r. ap (λ l. e ∷ l) (marked-set k private es x sorted.1 r)
    ] refl (sym (ap (λ b. cond b (Some e.1) (lookup (is_at (bytes_cmp k)) es)) test) ∙ found)
  where
    inside : (a b : Item) → Some a ≡ Some b → a ≡ b
    inside a b r = cc

-- .. and nothing is, where it isn't
pub marked-none : (k : List ℕ) (private : Bool) (es : List (List ℕ × Item)) → lookup (is_at (bytes_cmp k)) es ≡ None → es ≡ map (entry_at k private) es
marked-none k private [] none = refl
marked-none k private (e ∷ es) none =
    let test : is_eq (bytes_cmp k e.0) ≡ bytes_eq e.0 k = sym (texts_ties k e.0) ∙ nat_list_eq_equiv.symm k e.0 in
    elim (bytes_eq e.0 k) as (λ b. cond b (Some e.1) (lookup (is_at (bytes_cmp k)) es) ≡ None → e ∷ es ≡ (e.0, cond b (record e.1 { private = private }) e.1) ∷ map (entry_at k private) es) [
      | true ↦ λ r. cc
      | false ↦ λ r. ap (λ l. e ∷ l) (marked-none k private es r)
    ] (sym (ap (λ b. cond b (Some e.1) (lookup (is_at (bytes_cmp k)) es)) test) ∙ none)
