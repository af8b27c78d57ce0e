-- The rows at the places, in their order, are the timeline.
use Rattle.std.proofs.Common.{zero, suc, take, arith, ◌-◌, ◌<◌, ◌≡◌, ℕ, List, [], ◌∷◌, Bool, true, false, cond, ◌&&◌, Option, Some, None, is_some, refl, sym, ap, ◌∙◌}
use Rattle.std.specs.Option.{option_map}
use Rattle.std.specs.Str.{bytes_eq}
use Rattle.std.specs.Ordering.{is_eq, nat_cmp, eq_by_cmp}
use Rattle.std.specs.List.{AllByRecursion}
use Rattle.std.specs.List.Sorted.{IsStrictlySortedBy}
use Rattle.std.specs.Map.{keys_of, values_of, lookup}
use Rattle.std.specs.FinMap.Entries.{same_entries}
use Rattle.std.specs.Cmp.Lexicographic.{texts_ties, bytes_decides}
use Rattle.std.specs.Cmp.{Equal-is}
use Rattle.std.specs.declared.cmp.Ordering.TheVariants.{Less}
use Rattle.fsl_order.specs.Names.{bytes_cmp, latest_first}
use Rattle.fsl_order.specs.Rows.{keyed}
use Rattle.fsl_order.proofs.Orders.{bytes_cmp-IsTotalOrder, latest_first-IsTotalOrder, latest_first-IsAntisymmetric}
use Rattle.fsl_order.proofs.RowLemmas.{pairs, is_sorted-keyed, find-keyed}
use Rattle.fsl_table.specs.Contents.{value_at}
use Rattle.fsl_table.proofs.Entries.{none_above}
use Rattle.fsl_table.proofs.Finding.{sorted_is, find_is}
use Rattle.fsl_timeline.specs.declared.entry.Entry.{Entry}
use Rattle.fsl_timeline.specs.declared.Row.{Row}
use Rattle.fsl_timeline.specs.Timeline.{timeline}
use Rattle.fsl_timeline.specs.Kept.{Lines, Places, Rows, IsKept, row_of, rows_of, is_time, row_at, put_before, rows_at}
use Rattle.fsl_timeline.proofs.Placing.{place_eq}

abbrev Placed : Type 0
Placed = List ((ℕ × List ℕ) × Row)

abbrev put_pair : ℕ × List ℕ → Option Row → Placed → Placed
put_pair k None ws = ws
put_pair k (Some row) ws = (k, row) ∷ ws

-- the rows beside their places
abbrev attached : Lines → Places → Placed
attached es [] = []
attached es (p ∷ ps) = put_pair p.0 (row_at es p.0.1) (attached es ps)

values-attached : (es : Lines) (ps : Places) → values_of (attached es ps) ≡ rows_at es ps
values-attached es [] = refl
values-attached es (p ∷ ps) = by (row_at es p.0.1) ∙ ap (put_before (row_at es p.0.1)) (values-attached es ps)
  where
    by : (o : Option Row) → values_of (put_pair p.0 o (attached es ps)) ≡ put_before o (values_of (attached es ps))
    by None = refl
    by (Some row) = refl

above : (es : Lines) (x : ℕ × List ℕ) (ps : Places) → AllByRecursion (λ y. latest_first x y ≡ Less) (keys_of ps) → AllByRecursion (λ y. latest_first x y ≡ Less) (keys_of (attached es ps))
above es x [] h = tt
above es x (p ∷ ps) h = by (above es x ps h.1) (row_at es p.0.1)
  where
    by : AllByRecursion (λ y. latest_first x y ≡ Less) (keys_of (attached es ps)) → (o : Option Row) → AllByRecursion (λ y. latest_first x y ≡ Less) (keys_of (put_pair p.0 o (attached es ps)))
    by rest None = rest
    by rest (Some row) = (h.0, rest)

sorted-attached : (es : Lines) (ps : Places) → IsStrictlySortedBy latest_first (keys_of ps) → IsStrictlySortedBy latest_first (keys_of (attached es ps))
unfolding IsStrictlySortedBy
sorted-attached es [] h = tt
sorted-attached es (p ∷ ps) h = by (sorted-attached es ps h.1) (row_at es p.0.1)
  where
    by : IsStrictlySortedBy latest_first (keys_of (attached es ps)) → (o : Option Row) → IsStrictlySortedBy latest_first (keys_of (put_pair p.0 o (attached es ps)))
    by rest None = rest
    by rest (Some row) = (above es p.0 ps h.0, rest)

-- the row at a place, where its name is there
abbrev row_if : Bool → Option Row → Option Row
row_if true o = o
row_if false o = None

miss : (k q : ℕ × List ℕ) (o : Option Row) (ws : Placed) (r : Option Row) → is_eq (latest_first q k) ≡ false → value_at latest_first q ws ≡ r → value_at latest_first q (put_pair k o ws) ≡ r
miss k q None ws r t h = h
miss k q (Some row) ws r t h = ap (λ b. cond b (Some row) (value_at latest_first q ws)) t ∙ h

hit : (k q : ℕ × List ℕ) (o : Option Row) (ws : Placed) → is_eq (latest_first q k) ≡ true → value_at latest_first q ws ≡ None → value_at latest_first q (put_pair k o ws) ≡ o
hit k q None ws t h = h
hit k q (Some row) ws t h = ap (λ b. cond b (Some row) (value_at latest_first q ws)) t

found : (es : Lines) (q : ℕ × List ℕ) (ps : Places) → IsStrictlySortedBy latest_first (keys_of ps) → value_at latest_first q (attached es ps) ≡ row_if (is_some (value_at latest_first q ps)) (row_at es q.1)
unfolding IsStrictlySortedBy
found es q [] sorted = refl
found es q (p ∷ ps) sorted =
    elim (is_eq (latest_first q p.0)) as (λ b. is_eq (latest_first q p.0) ≡ b → value_at latest_first q (put_pair p.0 (row_at es p.0.1) (attached es ps)) ≡ row_if (is_some (cond b (Some p.1) (value_at latest_first q ps))) (row_at es q.1)) [
      | true ↦ λ t.
          let same : q ≡ p.0 = latest_first-IsAntisymmetric q p.0 ((Equal-is (latest_first q p.0)).0 t) in
          let none : value_at latest_first q ps ≡ None = ap (λ x. value_at latest_first x ps) same ∙ none_above latest_first-IsTotalOrder p.0 ps sorted.0 in
          hit p.0 q (row_at es p.0.1) (attached es ps) t (found es q ps sorted.1 ∙ ap (λ o. row_if (is_some o) (row_at es q.1)) none)
          ∙ ap (λ x. row_at es x.1) (sym same)
      | false ↦ λ t. miss p.0 q (row_at es p.0.1) (attached es ps) _ t (found es q ps sorted.1)
    ] refl

-- the row of a name, where it is there at a time
abbrev at_time : ℕ × List ℕ → Option Entry → Option Row
at_time q None = None
at_time q (Some e) = row_if (is_eq (nat_cmp e.time q.0)) (Some (row_of (q.1, e)))

abbrev place : Row → ℕ × List ℕ
place r = (r.time, r.name)

kept_at : (es : Lines) (q : ℕ × List ℕ) → IsStrictlySortedBy bytes_cmp (keys_of es) → lookup (eq_by_cmp latest_first q) (pairs place (rows_of es)) ≡ at_time q (value_at bytes_cmp q.1 es)
unfolding IsStrictlySortedBy
kept_at [] q sorted = refl
kept_at (e ∷ es) q sorted =
    ap (λ b. cond b (Some (row_of e)) (lookup (eq_by_cmp latest_first q) (pairs place (rows_of es)))) (place_eq q e.1.time e.0)
    ∙ elim (bytes_eq q.1 e.0) as (λ b. bytes_eq q.1 e.0 ≡ b → cond (b && is_eq (nat_cmp e.1.time q.0)) (Some (row_of e)) (lookup (eq_by_cmp latest_first q) (pairs place (rows_of es))) ≡ at_time q (cond b (Some e.1) (value_at bytes_cmp q.1 es))) [
      | true ↦ λ h.
          let same : q.1 ≡ e.0 = (bytes_decides q.1 e.0).0 h in
          let none : value_at bytes_cmp q.1 es ≡ None = ap (λ n. value_at bytes_cmp n es) same ∙ none_above bytes_cmp-IsTotalOrder e.0 es sorted.0 in
          ap (λ o. cond (is_eq (nat_cmp e.1.time q.0)) (Some (row_of e)) o) (kept_at es q sorted.1 ∙ ap (at_time q) none)
          ∙ pick (is_eq (nat_cmp e.1.time q.0)) (row_of e) (row_of (q.1, e.1)) (ap (λ n. row_of (n, e.1)) (sym same))
      | false ↦ λ h. kept_at es q sorted.1
    ] refl
    ∙ ap (λ b. at_time q (cond b (Some e.1) (value_at bytes_cmp q.1 es))) (texts_ties q.1 e.0)
  where
    pick : (b : Bool) (x y : Row) → x ≡ y → cond b (Some x) None ≡ row_if b (Some y)
    pick true x y h = ap Some h
    pick false x y h = refl

here : (q : ℕ × List ℕ) (o : Option Entry) → row_if (is_time o q.0) (option_map (λ e. row_of (q.1, e)) o) ≡ at_time q o
here q None = refl
here q (Some e) = refl

pub timeline_is : (r : Rows) → IsKept r → rows_at r.rows.entries r.places.entries ≡ timeline (rows_of r.rows.entries)
timeline_is r k =
    let es = r.rows.entries in
    let ps = r.places.entries in
    sym (values-attached es ps)
    ∙ ap values_of (same_entries latest_first latest_first-IsTotalOrder latest_first-IsAntisymmetric (attached es ps) (keyed latest_first place (rows_of es))
    (sorted_is latest_first (attached es ps) (sorted-attached es ps k.places_ordered)) (is_sorted-keyed latest_first-IsTotalOrder place (rows_of es))
    (λ q. find_is latest_first q (attached es ps) ∙ found es q ps k.places_ordered ∙ ap (λ b. row_if b (row_at es q.1)) (k.places q) ∙ here q (value_at bytes_cmp q.1 es)
    ∙ sym (find-keyed latest_first-IsTotalOrder place q (rows_of es) ∙ kept_at es q k.ordered)))

pub take_more : (n : ℕ) (row : Row) (rows : List Row) → 0 < n → take n (row ∷ rows) ≡ row ∷ take (n - 1) rows
take_more zero row rows h = absurd (omega (arith, h))
take_more (suc n) row rows h = let same : n ≡ suc n - 1 = omega arith in ap (λ m. row ∷ take m rows) same
