-- Which rows one fact more changes.
use Rattle.std.proofs.Common.{◌≡◌, ◌≢◌, ℕ, List, Bool, true, false, cond, ◌||◌, ◌&&◌, Option, Some, None, is_some, option_and_then, option_map, slice_get, refl, sym, ap, subst, ◌∙◌}
use mathlib.Core.Bool.{true≢false}
use Rattle.std.specs.Bool.{MatchBool}
use Rattle.std.specs.Str.{bytes_eq}
use Rattle.std.specs.List.Sorted.{IsStrictlySortedBy}
use Rattle.std.specs.Map.{keys_of}
use Rattle.std.specs.Cmp.Lexicographic.{texts_ties, bytes_decides, nat_list_eq_equiv}
use Rattle.fsl_order.specs.Names.{bytes_cmp, has}
use Rattle.fsl_order.specs.Rows.{ListsChanged}
use Rattle.fsl_order.proofs.Orders.{bytes_cmp-IsTotalOrder}
use Rattle.fsl_table.specs.Contents.{value_at, with_entry}
use Rattle.fsl_table.proofs.Entries.{lookup-insert_entry, sorted-insert_entry}
use Rattle.fsl_links.specs.Links.{primary, children, links_row}
use Rattle.fsl_table.specs.Pairs.{is_name}
use Rattle.fsl_links.specs.Kept.{facts_of, lists, leader, waits, leads, changes}
use Rattle.fsl_links.proofs.Reading.{Es, first_of_parents, primary-is, has-children, children-same}

module _ (es : Es) (name : List ℕ) (parents : List (List ℕ)) (sorted : IsStrictlySortedBy bytes_cmp (keys_of es)) (absent : value_at bytes_cmp name es ≡ None) where
  abbrev new : Es
  new = with_entry bytes_cmp name parents es

  new_sorted : IsStrictlySortedBy bytes_cmp (keys_of new)
  new_sorted = sorted-insert_entry bytes_cmp-IsTotalOrder name parents es sorted

  new_at : (q : List ℕ) → value_at bytes_cmp q new ≡ cond (bytes_eq q name) (Some parents) (value_at bytes_cmp q es)
  new_at q = lookup-insert_entry bytes_cmp-IsTotalOrder q name parents es ∙ (λ i. cond (sym (texts_ties q name) i) (Some parents) (value_at bytes_cmp q es))

  self_eq : bytes_eq name name ≡ true
  self_eq = nat_list_eq_equiv.refl name

  new_at_name : value_at bytes_cmp name new ≡ Some parents
  new_at_name = new_at name ∙ ap (λ b. cond b (Some parents) (value_at bytes_cmp name es)) self_eq

  -- a parent has a child more
  parent_differs : (q : List ℕ) → has parents q ≡ true → links_row (facts_of es) q ≢ links_row (facts_of new) q
  parent_differs q h e =
      true≢false (sym h ∙ sym (ap (λ r. lists r q) new_at_name) ∙ sym (has-children new q name new_sorted) ∙ ap (λ r. has r.1 name) (sym e) ∙ has-children es q name sorted ∙ ap (λ r. lists r q) absent)

  -- no other has
  other_children : (q : List ℕ) → has parents q ≡ false → children (facts_of es) q ≡ children (facts_of new) q
  other_children q h = children-same es new q sorted new_sorted (λ c.
      elim (bytes_eq c name) as (λ b. bytes_eq c name ≡ b → lists (value_at bytes_cmp c es) q ≡ lists (cond b (Some parents) (value_at bytes_cmp c es)) q) [
        | true ↦ λ t. ap (λ r. lists r q) (ap (λ n. value_at bytes_cmp n es) ((bytes_decides c name).0 t) ∙ absent) ∙ sym h
        | false ↦ λ t. refl
      ] refl ∙ ap (λ r. lists r q) (sym (new_at c)))

  -- the check-in itself
  own_old : primary (facts_of es) name ≡ None
  own_old = primary-is es name ∙ ap (λ r. leader es (first_of_parents r)) absent

  own_new : is_some (primary (facts_of new) name) ≡ leads es name parents
  own_new = ap is_some (primary-is new name ∙ ap (λ r. leader new (first_of_parents r)) new_at_name) ∙ there (slice_get parents 0)
    where
      there : (s : Option (List ℕ)) → is_some (leader new s) ≡ is_some (option_and_then (λ p. value_at bytes_cmp p new) s)
      there None = refl
      there (Some p) = mapped p (value_at bytes_cmp p new)
        where
          mapped : (p : List ℕ) (r : Option (List (List ℕ))) → is_some (option_map (λ _. p) r) ≡ is_some r
          mapped p None = refl
          mapped p (Some v) = refl

  -- another: its first parent came, or it stays
  waiting_old : (q : List ℕ) → waits es name q ≡ true → primary (facts_of es) q ≡ None
  waiting_old q h = primary-is es q ∙ by (first_of_parents (value_at bytes_cmp q es)) h
    where
      by : (s : Option (List ℕ)) → is_name s name ≡ true → leader es s ≡ None
      by None h = refl
      by (Some p) h = ap (λ n. option_map (λ _. p) (value_at bytes_cmp n es)) ((bytes_decides p name).0 h) ∙ ap (option_map (λ _. p)) absent

  other_at : (q : List ℕ) → bytes_eq q name ≡ false → primary (facts_of new) q ≡ leader new (first_of_parents (value_at bytes_cmp q es))
  other_at q h = primary-is new q ∙ ap (λ r. leader new (first_of_parents r)) (new_at q ∙ ap (λ b. cond b (Some parents) (value_at bytes_cmp q es)) h)

  waiting_new : (q : List ℕ) → bytes_eq q name ≡ false → waits es name q ≡ true → is_some (primary (facts_of new) q) ≡ true
  waiting_new q n h = ap is_some (other_at q n) ∙ by (first_of_parents (value_at bytes_cmp q es)) h
    where
      by : (s : Option (List ℕ)) → is_name s name ≡ true → is_some (leader new s) ≡ true
      by None h = cc
      by (Some p) h = ap (λ r. is_some (option_map (λ _. p) r)) (ap (λ n. value_at bytes_cmp n new) ((bytes_decides p name).0 h) ∙ new_at_name)

  other_primary : (q : List ℕ) → bytes_eq q name ≡ false → waits es name q ≡ false → primary (facts_of es) q ≡ primary (facts_of new) q
  other_primary q n h = primary-is es q ∙ by (first_of_parents (value_at bytes_cmp q es)) h ∙ sym (other_at q n)
    where
      by : (s : Option (List ℕ)) → is_name s name ≡ false → leader es s ≡ leader new s
      by None h = refl
      by (Some p) h = ap (option_map (λ _. p)) (sym (new_at p ∙ ap (λ b. cond b (Some parents) (value_at bytes_cmp p es)) h))

  came : (q : List ℕ) → primary (facts_of es) q ≡ None → is_some (primary (facts_of new) q) ≡ true → links_row (facts_of es) q ≢ links_row (facts_of new) q
  came q o n e = true≢false (sym n ∙ ap is_some (sym (ap (λ r. r.0) e) ∙ o))

  not_waiting : (q : List ℕ) → bytes_eq q name ≡ true → waits es name q ≡ false
  not_waiting q t = ap (λ r. is_name (first_of_parents r) name) (ap (λ n. value_at bytes_cmp n es) ((bytes_decides q name).0 t) ∙ absent)

  none_is : (r : Option (List ℕ)) → is_some r ≡ false → r ≡ None
  none_is None h = refl
  none_is (Some v) h = cc

  abbrev Differ : List ℕ → Bool → Type 0
  Differ q b = MatchBool b (links_row (facts_of es) q ≢ links_row (facts_of new) q) (links_row (facts_of es) q ≡ links_row (facts_of new) q)

  -- the row of a name whose children stay
  by_primary : (q : List ℕ) → has parents q ≡ false → (w e : Bool) → waits es name q ≡ w → bytes_eq q name ≡ e → Differ q (w || ((leads es name parents && e) || false))
  by_primary q p true true w e = absurd (true≢false (sym w ∙ not_waiting q e))
  by_primary q p true false w e = came q (waiting_old q w) (waiting_new q e w)
  by_primary q p false true w e =
      let same : q ≡ name = (bytes_decides q name).0 e in
      elim (leads es name parents) as (λ b. leads es name parents ≡ b → Differ q ((b && true) || false)) [
        | true ↦ λ l. came q (ap (primary (facts_of es)) same ∙ own_old) (ap (λ n. is_some (primary (facts_of new) n)) same ∙ own_new ∙ l)
        | false ↦ λ l. λ i. ((ap (primary (facts_of es)) same ∙ own_old ∙ sym (none_is (primary (facts_of new) q) (ap (λ n. is_some (primary (facts_of new) n)) same ∙ own_new ∙ l))) i, other_children q p i)
      ] refl
  by_primary q p false false w e =
      elim (leads es name parents) as (λ b. Differ q ((b && false) || false)) [
        | true ↦ λ i. (other_primary q e w i, other_children q p i)
        | false ↦ λ i. (other_primary q e w i, other_children q p i)
      ]

  or-true : (a b : Bool) → (a || (b || true)) ≡ true
  or-true true b = refl
  or-true false true = refl
  or-true false false = refl

  row_differs : (q : List ℕ) → Differ q (changes es name parents q)
  row_differs q =
      elim (has parents q) as (λ b. has parents q ≡ b → Differ q (waits es name q || ((leads es name parents && bytes_eq q name) || b))) [
        | true ↦ λ h. subst (Differ q) (sym (or-true (waits es name q) (leads es name parents && bytes_eq q name))) (parent_differs q h)
        | false ↦ λ h. by_primary q h (waits es name q) (bytes_eq q name) refl refl
      ] refl

  pub lists_changed : (changed : List (List ℕ)) → IsStrictlySortedBy bytes_cmp changed → ((q : List ℕ) → has changed q ≡ changes es name parents q) → ListsChanged (links_row (facts_of es)) (links_row (facts_of new)) changed
  lists_changed changed rising same = record {
    rising = rising;
    differ = λ q. subst (Differ q) (sym (same q)) (row_differs q);
  }
