-- What is found at a key where an entry more or one less stands, and that entries in order are those that are found.
use mathlib.Core.Bool.{true≢false}
use Rattle.std.specs.Prelude.{is_some, ◌≡◌, ℕ, List, [], ◌∷◌, true, false, cond, Option, Some, None}
use Rattle.std.proofs.Common.{Bool, ◌&&◌, T, refl, sym, ap, ◌∙◌, subst}
use Rattle.std.specs.Str.{bytes_eq}
use Rattle.std.specs.List.Sorted.{IsStrictlySortedBy}
use Rattle.std.specs.Map.{keys_of, lookup, remove_entry}
use Rattle.std.specs.BTreeMap.{is_at}
use Rattle.std.specs.Ordering.{is_eq, is_lt}
use Rattle.std.specs.Cmp.Lexicographic.{texts_ties, bytes_decides}
use Rattle.std.specs.declared.cmp.Ordering.{Ordering}
use Rattle.std.specs.declared.cmp.Ordering.TheVariants.{Less, Equal, Greater}
use Rattle.std.specs.Cmp.{IsTotalOrder}
use Rattle.std.specs.List.{AllByRecursion}
use Rattle.std.specs.FinMap.{find, is_sorted}
use Rattle.std.specs.FinMap.Entries.{below_all, same_entries}
use Rattle.fsl_order.specs.Names.{bytes_cmp}
use Rattle.fsl_order.proofs.Orders.{bytes_cmp-IsTotalOrder}
use Rattle.fsl_table.specs.Contents.{value_at, with_entry, without_key}
use Rattle.fsl_table.proofs.Entries.{lookup-insert_entry, none_above}

module _ {X : Type 0} where
  pub value-with : (k : List ℕ) (v : X) (es : List (List ℕ × X)) (q : List ℕ) → value_at bytes_cmp q (with_entry bytes_cmp k v es) ≡ cond (bytes_eq q k) (Some v) (value_at bytes_cmp q es)
  value-with k v es q = lookup-insert_entry bytes_cmp-IsTotalOrder q k v es ∙ ap (λ b. cond b (Some v) (value_at bytes_cmp q es)) (sym (texts_ties q k))

  pub value-without : (k : List ℕ) (es : List (List ℕ × X)) → IsStrictlySortedBy bytes_cmp (keys_of es) → (q : List ℕ) → value_at bytes_cmp q (without_key bytes_cmp k es) ≡ cond (bytes_eq q k) None (value_at bytes_cmp q es)
  unfolding IsStrictlySortedBy
  value-without k [] sorted q = let none : Option X = None in elim (bytes_eq q k) as (λ b. none ≡ cond b none none) [ true ↦ refl | false ↦ refl ]
  value-without k (e ∷ es) sorted q =
      ap (λ b. value_at bytes_cmp q (cond b es (e ∷ without_key bytes_cmp k es))) (sym (texts_ties k e.0))
      ∙ elim (bytes_eq k e.0) as (λ b. bytes_eq k e.0 ≡ b → value_at bytes_cmp q (cond b es (e ∷ without_key bytes_cmp k es)) ≡ cond (bytes_eq q k) None (value_at bytes_cmp q (e ∷ es))) [
        | true ↦ λ h.
            let same : k ≡ e.0 = (bytes_decides k e.0).0 h in
            elim (bytes_eq q k) as (λ b. bytes_eq q k ≡ b → value_at bytes_cmp q es ≡ cond b None (value_at bytes_cmp q (e ∷ es))) [
              | true ↦ λ s. ap (λ x. value_at bytes_cmp x es) ((bytes_decides q k).0 s ∙ same) ∙ none_above bytes_cmp-IsTotalOrder e.0 es sorted.0
              | false ↦ λ s. sym (ap (λ b. cond b (Some e.1) (value_at bytes_cmp q es)) (sym (texts_ties q e.0) ∙ ap (bytes_eq q) (sym same) ∙ s))
            ] refl
        | false ↦ λ h.
            ap (λ r. cond (is_eq (bytes_cmp q e.0)) (Some e.1) r) (value-without k es sorted.1 q)
            ∙ elim (bytes_eq q k) as (λ b. bytes_eq q k ≡ b → cond (is_eq (bytes_cmp q e.0)) (Some e.1) (cond b None (value_at bytes_cmp q es)) ≡ cond b None (cond (is_eq (bytes_cmp q e.0)) (Some e.1) (value_at bytes_cmp q es))) [
              | true ↦ λ s. ap (λ b. cond b (Some e.1) None) (sym (texts_ties q e.0) ∙ ap (λ x. bytes_eq x e.0) ((bytes_decides q k).0 s) ∙ h)
              | false ↦ λ s. refl
            ] refl
      ] refl

-- ---- a key less, in any order

module _ {K : Type 0} {R : K → K → Ordering} (o : IsTotalOrder R) (exact : (x y : K) → R x y ≡ Equal → x ≡ y) where
  is_equal : (r : Ordering) → is_eq r ≡ true → r ≡ Equal
  is_equal Less h = absurd (true≢false (sym h))
  is_equal Equal h = refl
  is_equal Greater h = absurd (true≢false (sym h))

  module _ {X : Type 0} where
    pub lookup-without : (k : K) (es : List (K × X)) → IsStrictlySortedBy R (keys_of es) → (q : K) → lookup (is_at (R q)) (remove_entry (is_at (R k)) es) ≡ cond (is_eq (R q k)) None (lookup (is_at (R q)) es)
    unfolding IsStrictlySortedBy
    lookup-without k [] sorted q = let none : Option X = None in elim (is_eq (R q k)) as (λ b. none ≡ cond b none none) [ true ↦ refl | false ↦ refl ]
    lookup-without k (e ∷ es) sorted q =
        elim (is_eq (R k e.0)) as (λ b. is_eq (R k e.0) ≡ b → lookup (is_at (R q)) (cond b es (e ∷ remove_entry (is_at (R k)) es)) ≡ cond (is_eq (R q k)) None (lookup (is_at (R q)) (e ∷ es))) [
          | true ↦ λ h.
              let same : k ≡ e.0 = exact k e.0 (is_equal (R k e.0) h) in
              elim (is_eq (R q k)) as (λ b. is_eq (R q k) ≡ b → lookup (is_at (R q)) es ≡ cond b None (lookup (is_at (R q)) (e ∷ es))) [
                | true ↦ λ s. ap (λ x. lookup (is_at (R x)) es) (exact q k (is_equal (R q k) s) ∙ same) ∙ none_above o e.0 es sorted.0
                | false ↦ λ s. sym (ap (λ b. cond b (Some e.1) (lookup (is_at (R q)) es)) (ap (λ x. is_eq (R q x)) (sym same) ∙ s))
              ] refl
          | false ↦ λ h.
              ap (λ r. cond (is_eq (R q e.0)) (Some e.1) r) (lookup-without k es sorted.1 q)
              ∙ elim (is_eq (R q k)) as (λ b. is_eq (R q k) ≡ b → cond (is_eq (R q e.0)) (Some e.1) (cond b None (lookup (is_at (R q)) es)) ≡ cond b None (cond (is_eq (R q e.0)) (Some e.1) (lookup (is_at (R q)) es))) [
                | true ↦ λ s. ap (λ b. cond b (Some e.1) None) (ap (λ x. is_eq (R x e.0)) (exact q k (is_equal (R q k) s)) ∙ h)
                | false ↦ λ s. refl
              ] refl
        ] refl

pub none_from : {X : Type 0} (o : Option X) → is_some o ≡ false → o ≡ None
none_from None h = refl
none_from (Some x) h = absurd (true≢false h)

-- ---- entries in order in which the same is found

module _ {K X : Type 0} (R : K → K → Ordering) where
  below_is : (x : K) (es : List (K × X)) → AllByRecursion (λ y. R x y ≡ Less) (keys_of es) → T (below_all R x es)
  below_is x [] h = tt
  below_is x (e ∷ es) h = subst (λ r. T (is_lt r && below_all R x es)) (sym h.0) (below_is x es h.1)

  pub sorted_is : (es : List (K × X)) → IsStrictlySortedBy R (keys_of es) → T (is_sorted R es)
  unfolding IsStrictlySortedBy
  sorted_is [] h = tt
  sorted_is (e ∷ es) h = both (below_all R e.0 es) (is_sorted R es) (below_is e.0 es h.0) (sorted_is es h.1)
    where
      both : (a b : Bool) → T a → T b → T (a && b)
      both true b p q = q
      both false b p q = p

  pub find_is : (q : K) (es : List (K × X)) → find R q es ≡ value_at R q es
  find_is q [] = refl
  find_is q (e ∷ es) = λ i. cond (is_eq (R q e.0)) (Some e.1) (find_is q es i)

  pub same_found : IsTotalOrder R → ((x y : K) → R x y ≡ Equal → x ≡ y) → (es fs : List (K × X)) → IsStrictlySortedBy R (keys_of es) → IsStrictlySortedBy R (keys_of fs)
      → ((q : K) → value_at R q es ≡ value_at R q fs) → es ≡ fs
  same_found o exact es fs up rise h =
      same_entries R o exact es fs (sorted_is es up) (sorted_is fs rise) (λ q. find_is q es ∙ h q ∙ sym (find_is q fs))

-- what is there without a value is the same where both are there
pub same_units : (r s : Option (Unit {0})) → is_some r ≡ is_some s → r ≡ s
same_units None None h = refl
same_units (Some r) (Some s) h = refl
same_units None (Some s) h = cc
same_units (Some r) None h = cc
