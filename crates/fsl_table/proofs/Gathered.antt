-- The items at the places of a group, in their order, are those of the group.
use Rattle.std.proofs.Common.{◌≡◌, ℕ, List, [], ◌∷◌, Bool, true, false, cond, ◌&&◌, Option, Some, None, is_some, option_map, filter, refl, sym, ap, ◌∙◌}
use mathlib.Core.Bool.{true≢false}
use Rattle.std.specs.Option.{option_and_then}
use Rattle.std.specs.Str.{bytes_eq}
use Rattle.std.specs.Ordering.{is_eq, eq_by_cmp}
use Rattle.std.specs.List.{AllByRecursion, filter_map, cons_option}
use Rattle.std.specs.List.Sorted.{IsStrictlySortedBy}
use Rattle.std.specs.Map.{keys_of, values_of, lookup}
use Rattle.std.specs.FinMap.Entries.{same_entries}
use Rattle.std.specs.Cmp.{IsTotalOrder}
use Rattle.std.specs.Cmp.Lexicographic.{texts_ties, bytes_decides}
use Rattle.std.specs.declared.cmp.Ordering.{Ordering}
use Rattle.std.specs.declared.cmp.Ordering.TheVariants.{Less, Equal, Greater}
use Rattle.fsl_order.specs.Names.{bytes_cmp}
use Rattle.fsl_order.specs.Rows.{keyed, in_order}
use Rattle.fsl_order.proofs.Orders.{bytes_cmp-IsTotalOrder}
use Rattle.fsl_order.proofs.RowLemmas.{pairs, is_sorted-keyed, find-keyed}
use Rattle.fsl_order.proofs.Booleans.{and_false}
use Rattle.fsl_table.specs.Contents.{value_at}
use Rattle.fsl_table.specs.Placed.{ArePlaced, is_key, put_item, item_at, items_at, key_of}
use Rattle.fsl_table.specs.Within.{within, within_cmp}
use Rattle.fsl_table.specs.declared.within.Within.{Within}
use Rattle.fsl_table.proofs.Belonging.{within_sorted, value-within}
use Rattle.fsl_table.proofs.Entries.{none_above}
use Rattle.fsl_table.proofs.Finding.{sorted_is, find_is}

equal : (r : Ordering) → is_eq r ≡ true → r ≡ Equal
equal Less h = absurd (true≢false (sym h))
equal Equal h = refl
equal Greater h = absurd (true≢false (sym h))

-- an item, where it is there
abbrev item_if : {Y : Type 0} → Bool → Option Y → Option Y
item_if true o = o
item_if false o = None

-- a pair in front, where the item is there
abbrev put_pair : {B Y : Type 0} → B → Option Y → List (B × Y) → List (B × Y)
put_pair k None ws = ws
put_pair k (Some y) ws = (k, y) ∷ ws

module _ {A B E Y : Type 0} (RA : A → A → Ordering) (RB : B → B → Ordering) (oa : IsTotalOrder RA) (ob : IsTotalOrder RB)
    (exact_a : (x y : A) → RA x y ≡ Equal → x ≡ y) (exact_b : (x y : B) → RB x y ≡ Equal → x ≡ y)
    (name_in : B → List ℕ) (item_of : List ℕ × E → Option Y) (group : Y → A) (place : Y → B) (own : (e : List ℕ × E) (y : Y) → item_of e ≡ Some y → name_in (place y) ≡ e.0) where
  abbrev Lines : Type 0
  Lines = List (List ℕ × E)

  abbrev Spots : Type 0
  Spots = List (B × Unit {0})

  abbrev Pairs : Type 0
  Pairs = List (B × Y)

  abbrev at : Lines → List ℕ → Option Y
  at es name = item_at item_of es name

  -- the items beside their places
  abbrev attached : Lines → Spots → Pairs
  attached es [] = []
  attached es (p ∷ ps) = put_pair p.0 (at es (name_in p.0)) (attached es ps)

  values-attached : (es : Lines) (ps : Spots) → values_of (attached es ps) ≡ items_at name_in item_of es ps
  values-attached es [] = refl
  values-attached es (p ∷ ps) = by (at es (name_in p.0)) ∙ ap (put_item (at es (name_in p.0))) (values-attached es ps)
    where
      by : (o : Option Y) → values_of (put_pair p.0 o (attached es ps)) ≡ put_item o (values_of (attached es ps))
      by None = refl
      by (Some y) = refl

  above : (es : Lines) (x : B) (ps : Spots) → AllByRecursion (λ y. RB x y ≡ Less) (keys_of ps) → AllByRecursion (λ y. RB x y ≡ Less) (keys_of (attached es ps))
  above es x [] h = tt
  above es x (p ∷ ps) h = by (above es x ps h.1) (at es (name_in p.0))
    where
      by : AllByRecursion (λ y. RB x y ≡ Less) (keys_of (attached es ps)) → (o : Option Y) → AllByRecursion (λ y. RB x y ≡ Less) (keys_of (put_pair p.0 o (attached es ps)))
      by rest None = rest
      by rest (Some y) = (h.0, rest)

  sorted-attached : (es : Lines) (ps : Spots) → IsStrictlySortedBy RB (keys_of ps) → IsStrictlySortedBy RB (keys_of (attached es ps))
  unfolding IsStrictlySortedBy
  sorted-attached es [] h = tt
  sorted-attached es (p ∷ ps) h = by (sorted-attached es ps h.1) (at es (name_in p.0))
    where
      by : IsStrictlySortedBy RB (keys_of (attached es ps)) → (o : Option Y) → IsStrictlySortedBy RB (keys_of (put_pair p.0 o (attached es ps)))
      by rest None = rest
      by rest (Some y) = (above es p.0 ps h.0, rest)

  miss : (k q : B) (o : Option Y) (ws : Pairs) (r : Option Y) → is_eq (RB q k) ≡ false → value_at RB q ws ≡ r → value_at RB q (put_pair k o ws) ≡ r
  miss k q None ws r t h = h
  miss k q (Some y) ws r t h = ap (λ b. cond b (Some y) (value_at RB q ws)) t ∙ h

  hit : (k q : B) (o : Option Y) (ws : Pairs) → is_eq (RB q k) ≡ true → value_at RB q ws ≡ None → value_at RB q (put_pair k o ws) ≡ o
  hit k q None ws t h = h
  hit k q (Some y) ws t h = ap (λ b. cond b (Some y) (value_at RB q ws)) t

  found : (es : Lines) (q : B) (ps : Spots) → IsStrictlySortedBy RB (keys_of ps) → value_at RB q (attached es ps) ≡ item_if (is_some (value_at RB q ps)) (at es (name_in q))
  unfolding IsStrictlySortedBy
  found es q [] sorted = refl
  found es q (p ∷ ps) sorted =
      elim (is_eq (RB q p.0)) as (λ b. is_eq (RB q p.0) ≡ b → value_at RB q (put_pair p.0 (at es (name_in p.0)) (attached es ps)) ≡ item_if (is_some (cond b (Some p.1) (value_at RB q ps))) (at es (name_in q))) [
        | true ↦ λ t.
            let same : q ≡ p.0 = exact_b q p.0 (equal (RB q p.0) t) in
            let none : value_at RB q ps ≡ None = ap (λ x. value_at RB x ps) same ∙ none_above ob p.0 ps sorted.0 in
            hit p.0 q (at es (name_in p.0)) (attached es ps) t (found es q ps sorted.1 ∙ ap (λ o. item_if (is_some o) (at es (name_in q))) none)
            ∙ ap (λ x. at es (name_in x)) (sym same)
        | false ↦ λ t. miss p.0 q (at es (name_in p.0)) (attached es ps) _ t (found es q ps sorted.1)
      ] refl

  -- the item, where it is of a group and at a place
  abbrev if_here : A → B → Option Y → Option Y
  if_here a q None = None
  if_here a q (Some y) = item_if (is_eq (RA a (group y)) && is_eq (RB q (place y))) (Some y)

  -- the item of the entry that may be there
  abbrev here_at : A → B → Option E → Option Y
  here_at a q None = None
  here_at a q (Some e) = if_here a q (item_of (name_in q, e))

  abbrev of_group : A → Lines → List Y
  of_group a es = filter (λ y. is_eq (RA a (group y))) (filter_map item_of es)

  kept_at : (es : Lines) (a : A) (q : B) → IsStrictlySortedBy bytes_cmp (keys_of es) → lookup (eq_by_cmp RB q) (pairs place (of_group a es)) ≡ here_at a q (value_at bytes_cmp (name_in q) es)
  unfolding IsStrictlySortedBy
  kept_at [] a q sorted = refl
  kept_at (e ∷ es) a q sorted =
      passed (item_of e)
      ∙ elim (bytes_eq (name_in q) e.0) as (λ b. bytes_eq (name_in q) e.0 ≡ b → behind (item_of e) ≡ here_at a q (cond b (Some e.1) (value_at bytes_cmp (name_in q) es))) [
        | true ↦ λ h.
            let same : name_in q ≡ e.0 = (bytes_decides (name_in q) e.0).0 h in
            let none : value_at bytes_cmp (name_in q) es ≡ None = ap (λ n. value_at bytes_cmp n es) same ∙ none_above bytes_cmp-IsTotalOrder e.0 es sorted.0 in
            alone (item_of e) (kept_at es a q sorted.1 ∙ ap (here_at a q) none) ∙ ap (λ n. if_here a q (item_of (n, e.1))) (sym same)
        | false ↦ λ h. other (item_of e) refl h ∙ kept_at es a q sorted.1
      ] refl
      ∙ ap (λ b. here_at a q (cond b (Some e.1) (value_at bytes_cmp (name_in q) es))) (texts_ties (name_in q) e.0)
    where
      behind : Option Y → Option Y
      behind None = lookup (eq_by_cmp RB q) (pairs place (of_group a es))
      behind (Some y) = cond (is_eq (RA a (group y)) && is_eq (RB q (place y))) (Some y) (lookup (eq_by_cmp RB q) (pairs place (of_group a es)))

      passed : (o : Option Y) → lookup (eq_by_cmp RB q) (pairs place (filter (λ y. is_eq (RA a (group y))) (cons_option o (filter_map item_of es)))) ≡ behind o
      passed None = refl
      passed (Some y) =
          elim (is_eq (RA a (group y))) as (λ b. lookup (eq_by_cmp RB q) (pairs place (cond b (y ∷ of_group a es) (of_group a es))) ≡ cond (b && is_eq (RB q (place y))) (Some y) (lookup (eq_by_cmp RB q) (pairs place (of_group a es)))) [ true ↦ refl | false ↦ refl ]

      alone : (o : Option Y) → lookup (eq_by_cmp RB q) (pairs place (of_group a es)) ≡ None → behind o ≡ if_here a q o
      alone None h = h
      alone (Some y) h =
          ap (λ r. cond (is_eq (RA a (group y)) && is_eq (RB q (place y))) (Some y) r) h
          ∙ elim (is_eq (RA a (group y)) && is_eq (RB q (place y))) as (λ b. let none : Option Y = None in cond b (Some y) none ≡ item_if b (Some y)) [ true ↦ refl | false ↦ refl ]

      other : (o : Option Y) → item_of e ≡ o → bytes_eq (name_in q) e.0 ≡ false → behind o ≡ lookup (eq_by_cmp RB q) (pairs place (of_group a es))
      other None is h = refl
      other (Some y) is h =
          let apart : is_eq (RB q (place y)) ≡ false =
          elim (is_eq (RB q (place y))) as (λ b. is_eq (RB q (place y)) ≡ b → b ≡ false) [
            | true ↦ λ t. sym ((bytes_decides (name_in q) e.0).1 (ap name_in (exact_b q (place y) (equal (RB q (place y)) t)) ∙ own e y is)) ∙ h
            | false ↦ λ t. refl
          ] refl in
          ap (λ b. cond b (Some y) (lookup (eq_by_cmp RB q) (pairs place (of_group a es)))) (ap (λ b. is_eq (RA a (group y)) && b) apart ∙ and_false (is_eq (RA a (group y))))

  here : (a : A) (q : B) (o : Option E) → item_if (is_key RA RB name_in (key_of item_of group place) (option_and_then (λ e. key_of item_of group place (name_in q, e)) o) a q) (option_and_then (λ e. item_of (name_in q, e)) o) ≡ here_at a q o
  here a q None = refl
  here a q (Some e) = by (item_of (name_in q, e))
    where
      by : (o : Option Y) → item_if (is_key RA RB name_in (key_of item_of group place) (option_map (λ y. (group y, place y)) o) a q) o ≡ if_here a q o
      by None = refl
      by (Some y) = refl

  pub items_are : (es : Lines) (ss : List (Within A B × Unit {0})) → IsStrictlySortedBy bytes_cmp (keys_of es) → IsStrictlySortedBy (within_cmp RA RB) (keys_of ss)
      → ArePlaced RA RB name_in (key_of item_of group place) es ss → (a : A) → items_at name_in item_of es (within RA a ss) ≡ in_order RB place (of_group a es)
  items_are es ss sorted rising placed a =
      let ws = within RA a ss in
      let up : IsStrictlySortedBy RB (keys_of ws) = within_sorted RA RB oa exact_a a ss rising in
      sym (values-attached es ws)
      ∙ ap values_of (same_entries RB ob exact_b (attached es ws) (keyed RB place (of_group a es))
      (sorted_is RB (attached es ws) (sorted-attached es ws up)) (is_sorted-keyed ob place (of_group a es))
      (λ q. find_is RB q (attached es ws) ∙ found es q ws up
      ∙ ap (λ b. item_if b (at es (name_in q))) (ap is_some (value-within RA RB a q ss) ∙ placed (record { first = a; second = Some q })) ∙ here a q (value_at bytes_cmp (name_in q) es)
      ∙ sym (find-keyed ob place q (of_group a es) ∙ kept_at es a q sorted)))
