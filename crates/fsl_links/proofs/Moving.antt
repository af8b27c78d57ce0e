-- Which rows other parents of a check-in change.
use Rattle.std.proofs.Common.{◌≡◌, ◌≢◌, ℕ, List, Bool, true, false, cond, not, ◌||◌, ◌&&◌, Option, Some, None, option_map, slice_get, refl, sym, ap, subst, ◌∙◌}
use mathlib.Core.Bool.{true≢false}
use Rattle.std.specs.Bool.{MatchBool}
use Rattle.std.specs.Str.{bytes_eq}
use Rattle.std.specs.List.Sorted.{IsStrictlySortedBy}
use Rattle.std.specs.Map.{keys_of}
use Rattle.std.specs.Cmp.Lexicographic.{bytes_decides, nat_list_eq_equiv}
use Rattle.fsl_order.specs.Names.{bytes_cmp, has}
use Rattle.fsl_order.specs.Rows.{ListsChanged}
use Rattle.fsl_order.proofs.Orders.{bytes_cmp-IsTotalOrder}
use Rattle.fsl_table.specs.Contents.{value_at, with_entry}
use Rattle.fsl_table.proofs.Entries.{sorted-insert_entry}
use Rattle.fsl_table.proofs.Finding.{value-with}
use Rattle.fsl_links.specs.Links.{primary, children, links_row}
use Rattle.fsl_links.specs.Kept.{facts_of, lists, leader, same_name, moves}
use Rattle.fsl_links.proofs.Reading.{Es, first_of_parents, primary-is, has-children, children-same}

same_true : (a b : Option (List ℕ)) → same_name a b ≡ true → a ≡ b
same_true None None h = refl
same_true None (Some b) h = absurd (true≢false (sym h))
same_true (Some a) None h = absurd (true≢false (sym h))
same_true (Some a) (Some b) h = ap Some ((bytes_decides a b).0 h)

same_itself : (a : Option (List ℕ)) → same_name a a ≡ true
same_itself None = refl
same_itself (Some a) = nat_list_eq_equiv.refl a

same_false : (a b : Option (List ℕ)) → same_name a b ≡ false → a ≢ b
same_false a b h e = true≢false (sym (same_itself b) ∙ ap (λ x. same_name x b) (sym e) ∙ h)

module _ (es : Es) (name : List ℕ) (olds parents : List (List ℕ)) (sorted : IsStrictlySortedBy bytes_cmp (keys_of es)) (there : value_at bytes_cmp name es ≡ Some olds) where
  abbrev new : Es
  new = with_entry bytes_cmp name parents es

  new_sorted : IsStrictlySortedBy bytes_cmp (keys_of new)
  new_sorted = sorted-insert_entry bytes_cmp-IsTotalOrder name parents es sorted

  new_at : (q : List ℕ) → value_at bytes_cmp q new ≡ cond (bytes_eq q name) (Some parents) (value_at bytes_cmp q es)
  new_at q = value-with name parents es q

  new_at_name : value_at bytes_cmp name new ≡ Some parents
  new_at_name = new_at name ∙ ap (λ b. cond b (Some parents) (value_at bytes_cmp name es)) (nat_list_eq_equiv.refl name)

  -- who was there is there
  leader_stays : (s : Option (List ℕ)) → leader new s ≡ leader es s
  leader_stays None = refl
  leader_stays (Some p) =
      ap (option_map (λ _. p)) (new_at p)
      ∙ elim (bytes_eq p name) as (λ b. bytes_eq p name ≡ b → option_map (λ _. p) (cond b (Some parents) (value_at bytes_cmp p es)) ≡ option_map (λ _. p) (value_at bytes_cmp p es)) [
        | true ↦ λ h. sym (ap (option_map (λ _. p)) (ap (λ n. value_at bytes_cmp n es) ((bytes_decides p name).0 h) ∙ there))
        | false ↦ λ h. refl
      ] refl

  own_old : primary (facts_of es) name ≡ leader es (slice_get olds 0)
  own_old = primary-is es name ∙ ap (λ r. leader es (first_of_parents r)) there

  own_new : primary (facts_of new) name ≡ leader es (slice_get parents 0)
  own_new = primary-is new name ∙ ap (λ r. leader new (first_of_parents r)) new_at_name ∙ leader_stays (slice_get parents 0)

  other_primary : (q : List ℕ) → bytes_eq q name ≡ false → primary (facts_of es) q ≡ primary (facts_of new) q
  other_primary q h =
      primary-is es q ∙ sym (leader_stays (first_of_parents (value_at bytes_cmp q es)))
      ∙ ap (λ r. leader new (first_of_parents r)) (sym (new_at q ∙ ap (λ b. cond b (Some parents) (value_at bytes_cmp q es)) h))
      ∙ sym (primary-is new q)

  in_old : (q : List ℕ) → has (children (facts_of es) q) name ≡ has olds q
  in_old q = has-children es q name sorted ∙ ap (λ r. lists r q) there

  in_new : (q : List ℕ) → has (children (facts_of new) q) name ≡ has parents q
  in_new q = has-children new q name new_sorted ∙ ap (λ r. lists r q) new_at_name

  children_differ : (q : List ℕ) → (has olds q ≡ has parents q → ⊥) → links_row (facts_of es) q ≢ links_row (facts_of new) q
  children_differ q apart e = apart (sym (in_old q) ∙ ap (λ r. has r.1 name) e ∙ in_new q)

  children_stay : (q : List ℕ) → has olds q ≡ has parents q → children (facts_of es) q ≡ children (facts_of new) q
  children_stay q same = children-same es new q sorted new_sorted (λ c.
      elim (bytes_eq c name) as (λ b. bytes_eq c name ≡ b → lists (value_at bytes_cmp c es) q ≡ lists (cond b (Some parents) (value_at bytes_cmp c es)) q) [
        | true ↦ λ t. ap (λ r. lists r q) (ap (λ n. value_at bytes_cmp n es) ((bytes_decides c name).0 t) ∙ there) ∙ same
        | false ↦ λ t. refl
      ] refl ∙ ap (λ r. lists r q) (sym (new_at c)))

  abbrev Differ : List ℕ → Bool → Type 0
  Differ q b = MatchBool b (links_row (facts_of es) q ≢ links_row (facts_of new) q) (links_row (facts_of es) q ≡ links_row (facts_of new) q)

  -- the row of a name whose children stay
  by_primary : (q : List ℕ) → has olds q ≡ has parents q → (s e : Bool) → same_name (leader es (slice_get olds 0)) (leader es (slice_get parents 0)) ≡ s → bytes_eq q name ≡ e → Differ q ((not s && e) || false)
  by_primary q p true true s e =
      let is : q ≡ name = (bytes_decides q name).0 e in
      let stays : primary (facts_of es) q ≡ primary (facts_of new) q = ap (primary (facts_of es)) is ∙ own_old ∙ same_true _ _ s ∙ sym own_new ∙ ap (primary (facts_of new)) (sym is) in
      λ i. (stays i, children_stay q p i)
  by_primary q p true false s e = λ i. (other_primary q e i, children_stay q p i)
  by_primary q p false true s e =
      let is : q ≡ name = (bytes_decides q name).0 e in
      λ same. same_false _ _ s (sym own_old ∙ ap (primary (facts_of es)) (sym is) ∙ ap (λ r. r.0) same ∙ ap (primary (facts_of new)) is ∙ own_new)
  by_primary q p false false s e = λ i. (other_primary q e i, children_stay q p i)

  or-true : (a : Bool) → (a || true) ≡ true
  or-true true = refl
  or-true false = refl

  row_differs : (q : List ℕ) → Differ q (moves es name olds parents q)
  row_differs q = by (has olds q) (has parents q) refl refl
    where
      by : (o p : Bool) → has olds q ≡ o → has parents q ≡ p → Differ q ((not (same_name (leader es (slice_get olds 0)) (leader es (slice_get parents 0))) && bytes_eq q name) || ((p && not o) || (o && not p)))
      by true true o p = by_primary q (o ∙ sym p) (same_name (leader es (slice_get olds 0)) (leader es (slice_get parents 0))) (bytes_eq q name) refl refl
      by false false o p = by_primary q (o ∙ sym p) (same_name (leader es (slice_get olds 0)) (leader es (slice_get parents 0))) (bytes_eq q name) refl refl
      by true false o p = subst (Differ q) (sym (or-true (not (same_name (leader es (slice_get olds 0)) (leader es (slice_get parents 0))) && bytes_eq q name))) (children_differ q (λ e. true≢false (sym o ∙ e ∙ p)))
      by false true o p = subst (Differ q) (sym (or-true (not (same_name (leader es (slice_get olds 0)) (leader es (slice_get parents 0))) && bytes_eq q name))) (children_differ q (λ e. true≢false (sym p ∙ sym e ∙ o)))

  pub lists_moved : (changed : List (List ℕ)) → IsStrictlySortedBy bytes_cmp changed → ((q : List ℕ) → has changed q ≡ moves es name olds parents q) → ListsChanged (links_row (facts_of es)) (links_row (facts_of new)) changed
  lists_moved changed rising same = record {
    rising = rising;
    differ = λ q. subst (Differ q) (sym (same q)) (row_differs q);
  }
