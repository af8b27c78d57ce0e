-- Whether the row of a ticket differs with one change more.
use Rattle.std.proofs.Common.{◌≡◌, ℕ, List, [], ◌∷◌, Bool, true, false, cond, not, ◌&&◌, ◌||◌, if◌then◌else◌, Option, Some, None, is_some, map, refl, sym, ap, subst, ◌∙◌}
use mathlib.Core.Bool.{true≢false}
use Rattle.std.specs.List.{list_any, AllByRecursion, cons_option}
use Rattle.std.specs.Str.{bytes_eq}
use Rattle.std.specs.Ordering.{is_eq, is_lt, match_ordering, ordering_reverse, ordering_then}
use Rattle.std.specs.Cmp.{tied_itself}
use Rattle.std.specs.List.Sorted.{IsStrictlySortedBy}
use Rattle.std.specs.Map.{keys_of}
use Rattle.std.specs.Cmp.Lexicographic.{pointwise, bytes_decides, nat_list_eq_equiv}
use Rattle.std.specs.declared.cmp.Ordering.TheVariants.{Less, Equal, Greater}
use Rattle.fsl_order.specs.Names.{bytes_cmp}
use Rattle.fsl_order.proofs.Orders.{bytes_cmp-IsTotalOrder}
use Rattle.fsl_table.specs.Contents.{value_at, with_entry, entries_after}
use Rattle.fsl_table.specs.Within.{within}
use Rattle.fsl_table.proofs.Belonging.{value-within}
use Rattle.fsl_table.proofs.Entries.{sorted-insert_entry, lookup-insert_entry}
use Rattle.fsl_table.proofs.Finding.{value-with, same_found}
use Rattle.fsl_ticket.specs.declared.entry.Entry.{Entry}
use Rattle.fsl_ticket.specs.Tickets.{fields, tickets_row}
use Rattle.fsl_order.specs.Rows.{ListsChanged}
use Rattle.fsl_order.proofs.Booleans.{or_false}
use Rattle.fsl_ticket.proofs.Changing.{lists_others}
use Rattle.fsl_ticket.specs.Newest.{newest_cmp}
use Rattle.fsl_ticket.specs.NewestOrder.{newest_cmp-IsTotalOrder, newest_cmp-IsAntisymmetric}
use Rattle.fsl_ticket.specs.Kept.{Lines, Laid, IsLaid, spot, spot_cmp, facts_of, is_id, is_same, is_set, is_set_at}
use Rattle.fsl_ticket.specs.Walked.{Down, made, made_at, names_of, value_down, is_masked, value_below, is_other, is_row_other}
use Rattle.fsl_ticket.proofs.Canonical.{spot_cmp-IsTotalOrder}
use Rattle.fsl_ticket.proofs.Placing.{spots_with}
use Rattle.fsl_ticket.proofs.Folding.{made_set, made_appended, same_end}
use Rattle.fsl_ticket.proofs.Walking.{sorted_within, all_there, row_down, row_is}

after_all : (p : ℕ × List ℕ) (ws : Down) → AllByRecursion (λ y. newest_cmp p y ≡ Less) (keys_of ws) → entries_after newest_cmp p ws ≡ ws
after_all p [] h = refl
after_all p (w ∷ ws) h = λ i. cond (is_lt (h.0 i)) (w ∷ after_all p ws h.1 i) (after_all p ws h.1 i)

chain : (p x : ℕ × List ℕ) (ws : Down) → newest_cmp p x ≡ Less → AllByRecursion (λ y. newest_cmp x y ≡ Less) (keys_of ws) → AllByRecursion (λ y. newest_cmp p y ≡ Less) (keys_of ws)
chain p x [] h all = tt
chain p x (w ∷ ws) h all = (newest_cmp-IsTotalOrder.trans p x w.0 h all.0, chain p x ws h all.1)

-- a change that stands above leaves apart what is apart, unless it replaces the field
step : (q : List ℕ) (o : Option Entry) (m x : Bool) (a b : List ℕ) → not (bytes_eq a b) ≡ (not m && x) → not (bytes_eq (made_at o q a) (made_at o q b)) ≡ (not (is_set_at o q || m) && x)
step q None m x a b h = h
step q (Some e) m x a b h =
    elim (is_set e.changes q) as (λ s. is_set e.changes q ≡ s → not (bytes_eq (made e.changes q a) (made e.changes q b)) ≡ (not (s || m) && x)) [
      | true ↦ λ s. ap (λ l. not (bytes_eq (made e.changes q a) l)) (made_set e.changes q b a s) ∙ ap not (nat_list_eq_equiv.refl (made e.changes q a))
      | false ↦ λ s. (λ i. not (bytes_eq (made_appended e.changes q a s i) (made_appended e.changes q b s i))) ∙ ap not (same_end a b (made e.changes q [])) ∙ h
    ] refl

module _ (es : Lines) (name : List ℕ) (e : Entry) where
  abbrev after : Lines
  after = with_entry bytes_cmp name e es

  abbrev p : ℕ × List ℕ
  p = (e.date, name)

  abbrev Apart : Down → Type 0
  Apart ws = AllByRecursion (λ w. bytes_eq w.0.1 name ≡ false) ws

  here : value_at bytes_cmp name after ≡ Some e
  here = value-with name e es name ∙ ap (λ b. cond b (Some e) (value_at bytes_cmp name es)) (nat_list_eq_equiv.refl name)

  there : (n : List ℕ) → bytes_eq n name ≡ false → value_at bytes_cmp n after ≡ value_at bytes_cmp n es
  there n h = value-with name e es n ∙ ap (λ b. cond b (Some e) (value_at bytes_cmp n es)) h

  same_down : (q : List ℕ) (ws : Down) → Apart ws → value_down after (names_of ws) q ≡ value_down es (names_of ws) q
  same_down q [] h = refl
  same_down q (w ∷ ws) h = λ i. made_at (there w.0.1 h.0 i) q (same_down q ws h.1 i)

  -- the values differ where the change makes another one, and no newer change replaces it
  value_other : (q : List ℕ) (ws : Down) → IsStrictlySortedBy newest_cmp (keys_of ws) → Apart ws
      → not (bytes_eq (value_down es (names_of ws) q) (value_down after (names_of (with_entry newest_cmp p tt ws)) q)) ≡ is_other es e.changes p ws q
  unfolding IsStrictlySortedBy
  value_other q [] sorted apart = ap (λ o. not (bytes_eq [] (made_at o q []))) here
  value_other q (w ∷ ws) sorted apart =
      elim (newest_cmp p w.0) as (λ r. newest_cmp p w.0 ≡ r
      → not (bytes_eq (value_down es (names_of (w ∷ ws)) q) (value_down after (names_of (match_ordering r ((p, tt) ∷ w ∷ ws) ((w.0, tt) ∷ ws) (w ∷ with_entry newest_cmp p tt ws))) q)) ≡ is_other es e.changes p (w ∷ ws) q) [
        | Less ↦ λ h.
            let below : entries_after newest_cmp p (w ∷ ws) ≡ w ∷ ws = after_all p (w ∷ ws) (h, chain p w.0 ws h sorted.0) in
            let seen : is_lt (newest_cmp w.0 p) ≡ false = ap is_lt (newest_cmp-IsTotalOrder.antisymm w.0 p ∙ ap ordering_reverse h) in
            (λ i. not (bytes_eq (value_down es (names_of (w ∷ ws)) q) (made_at (here i) q (same_down q (w ∷ ws) apart i))))
            ∙ ap (λ l. not (bytes_eq (value_down es (names_of l) q) (made e.changes q (value_down es (names_of l) q)))) (sym below)
            ∙ ap (λ b. not (if b then (is_set_at (value_at bytes_cmp w.0.1 es) q || is_masked es p q ws) else false) && not (bytes_eq (value_below es p q (w ∷ ws)) (made e.changes q (value_below es p q (w ∷ ws))))) (sym seen)
        | Equal ↦ λ h.
            absurd (true≢false (sym (nat_list_eq_equiv.refl name) ∙ ap (λ x. bytes_eq x.1 name) (newest_cmp-IsAntisymmetric p w.0 h) ∙ apart.0))
        | Greater ↦ λ h.
            let seen : is_lt (newest_cmp w.0 p) ≡ true = ap is_lt (newest_cmp-IsTotalOrder.antisymm w.0 p ∙ ap ordering_reverse h) in
            let o = value_at bytes_cmp w.0.1 es in
            let low : List ℕ → Bool = λ v. not (bytes_eq v (made e.changes q v)) in
            ap (λ o'. not (bytes_eq (made_at o q (value_down es (names_of ws) q)) (made_at o' q (value_down after (names_of (with_entry newest_cmp p tt ws)) q)))) (there w.0.1 apart.0)
            ∙ step q o (is_masked es p q ws) (low (value_below es p q ws)) (value_down es (names_of ws) q) (value_down after (names_of (with_entry newest_cmp p tt ws)) q) (value_other q ws sorted.1 apart.1)
            ∙ (λ i. not (if sym seen i then (is_set_at o q || is_masked es p q ws) else false) && low (value_down es (names_of (cond (is_lt (sym h i)) (w ∷ entries_after newest_cmp p ws) (entries_after newest_cmp p ws))) q))
      ] refl

  abbrev Ts : Type 0
  Ts = List (List ℕ)

  any_differs : (f g : List ℕ → List ℕ) (qs : Ts) → not (pointwise bytes_eq (map f qs) (map g qs)) ≡ list_any (λ q. not (bytes_eq (f q) (g q))) qs
  any_differs f g [] = refl
  any_differs f g (q ∷ qs) = by (bytes_eq (f q) (g q)) (pointwise bytes_eq (map f qs) (map g qs)) ∙ ap (λ b. not (bytes_eq (f q) (g q)) || b) (any_differs f g qs)
    where
      by : (a b : Bool) → not (a && b) ≡ (not a || not b)
      by true b = refl
      by false b = refl

  more_down : (configured : Ts) (ws : Down) → row_down configured after (with_entry newest_cmp p tt ws) ≡ Some (map (value_down after (names_of (with_entry newest_cmp p tt ws))) configured)
  more_down configured [] = refl
  more_down configured (w ∷ ws) =
      elim (newest_cmp p w.0) as (λ r. row_down configured after (match_ordering r ((p, tt) ∷ w ∷ ws) ((w.0, tt) ∷ ws) (w ∷ with_entry newest_cmp p tt ws))
      ≡ Some (map (value_down after (names_of (match_ordering r ((p, tt) ∷ w ∷ ws) ((w.0, tt) ∷ ws) (w ∷ with_entry newest_cmp p tt ws)))) configured)) [ Less ↦ refl | Equal ↦ refl | Greater ↦ refl ]

  row_other : (configured : Ts) (ws : Down) → IsStrictlySortedBy newest_cmp (keys_of ws) → Apart ws
      → is_row_other configured es e.changes p ws ≡ not (is_same (row_down configured es ws) (row_down configured after (with_entry newest_cmp p tt ws)))
  row_other configured [] sorted apart = refl
  row_other configured (w ∷ ws) sorted apart =
      (λ i. list_any (λ q. sym (value_other q (w ∷ ws) sorted apart) i) configured)
      ∙ sym (any_differs (value_down es (names_of (w ∷ ws))) (value_down after (names_of (with_entry newest_cmp p tt (w ∷ ws)))) configured)
      ∙ ap (λ row. not (is_same (row_down configured es (w ∷ ws)) row)) (sym (more_down configured (w ∷ ws)))

-- a key more of a ticket
within_more : (r s : Laid) (k : IsLaid r) (l : IsLaid s) (id : List ℕ) (at : ℕ × List ℕ) → s.spots.entries ≡ with_entry spot_cmp (spot id at.0 at.1) tt r.spots.entries
    → within bytes_cmp id s.spots.entries ≡ with_entry newest_cmp at tt (within bytes_cmp id r.spots.entries)
within_more r s k l id at is =
    same_found newest_cmp newest_cmp-IsTotalOrder newest_cmp-IsAntisymmetric (within bytes_cmp id s.spots.entries) (with_entry newest_cmp at tt (within bytes_cmp id r.spots.entries))
    (sorted_within s l id) (sorted-insert_entry newest_cmp-IsTotalOrder at tt (within bytes_cmp id r.spots.entries) (sorted_within r k id))
    (λ c. value-within bytes_cmp newest_cmp id c s.spots.entries
    ∙ ap (value_at spot_cmp (spot id c.0 c.1)) is
    ∙ lookup-insert_entry spot_cmp-IsTotalOrder (spot id c.0 c.1) (spot id at.0 at.1) tt r.spots.entries
    ∙ (λ i. cond (tie c i) (Some tt) (sym (value-within bytes_cmp newest_cmp id c r.spots.entries) i))
    ∙ sym (lookup-insert_entry newest_cmp-IsTotalOrder c at tt (within bytes_cmp id r.spots.entries)))
  where
    tie : (c : ℕ × List ℕ) → is_eq (spot_cmp (spot id c.0 c.1) (spot id at.0 at.1)) ≡ is_eq (newest_cmp c at)
    tie c = ap (λ r. is_eq (ordering_then r (newest_cmp c at))) (tied_itself bytes_cmp-IsTotalOrder id)

apart_from : (es : Lines) (name : List ℕ) → value_at bytes_cmp name es ≡ None → (ws : Down) → AllByRecursion (λ w. is_some (value_at bytes_cmp w.0.1 es) ≡ true) ws → AllByRecursion (λ w. bytes_eq w.0.1 name ≡ false) ws
apart_from es name none [] h = tt
apart_from es name none (w ∷ ws) h = (
  elim (bytes_eq w.0.1 name) as (λ b. bytes_eq w.0.1 name ≡ b → b ≡ false) [
    | true ↦ λ e. absurd (true≢false (sym h.0 ∙ ap is_some (ap (λ n. value_at bytes_cmp n es) ((bytes_decides w.0.1 name).0 e) ∙ none)))
    | false ↦ λ e. refl
  ] refl,
  apart_from es name none ws h.1,
)

-- the row of the ticket of a new change differs where that makes another one
pub row_differs : (r s : Laid) (k : IsLaid r) (l : IsLaid s) (configured : List (List ℕ)) (name : List ℕ) (e : Entry) → value_at bytes_cmp name r.facts.entries ≡ None
    → s.facts.entries ≡ with_entry bytes_cmp name e r.facts.entries → s.spots.entries ≡ with_entry spot_cmp (spot e.id e.date name) tt r.spots.entries
    → is_row_other configured r.facts.entries e.changes (e.date, name) (within bytes_cmp e.id r.spots.entries)
    ≡ not (is_same (fields configured (facts_of r.facts.entries) e.id) (fields configured (facts_of (with_entry bytes_cmp name e r.facts.entries)) e.id))
row_differs r s k l configured name e none put spotted =
    let ws = within bytes_cmp e.id r.spots.entries in
    row_other r.facts.entries name e configured ws (sorted_within r k e.id) (apart_from r.facts.entries name none ws (all_there r k e.id))
    ∙ (λ i. not (is_same (sym (row_is r k configured e.id) i) (after i)))
  where
    after : row_down configured (with_entry bytes_cmp name e r.facts.entries) (with_entry newest_cmp (e.date, name) tt (within bytes_cmp e.id r.spots.entries)) ≡ fields configured (facts_of (with_entry bytes_cmp name e r.facts.entries)) e.id
    after =
        (λ i. row_down configured (sym put i) (sym (within_more r s k l e.id (e.date, name) spotted) i))
        ∙ sym (row_is s l configured e.id)
        ∙ ap (λ es. fields configured (facts_of es) e.id) put

kept_with : (r : Laid) → IsLaid r → (name : List ℕ) (e : Entry) → value_at bytes_cmp name r.facts.entries ≡ None
    → IsLaid (record { facts = record { entries = with_entry bytes_cmp name e r.facts.entries; spare = 0 }; spots = record { entries = with_entry spot_cmp (spot e.id e.date name) tt r.spots.entries; spare = 0 } })
kept_with r k name e none = record {
  ordered = sorted-insert_entry bytes_cmp-IsTotalOrder name e r.facts.entries k.ordered;
  spots_ordered = sorted-insert_entry spot_cmp-IsTotalOrder (spot e.id e.date name) tt r.spots.entries k.spots_ordered;
  spots = λ q. spots_with r.facts.entries r.spots.entries k.spots name e none q;
}

-- of a new change the ticket is listed, where its row differs
pub lists_new : (r : Laid) → IsLaid r → (configured : List (List ℕ)) (name : List ℕ) (e : Entry) → value_at bytes_cmp name r.facts.entries ≡ None
    → (d : Bool) → d ≡ is_row_other configured r.facts.entries e.changes (e.date, name) (within bytes_cmp e.id r.spots.entries)
    → ListsChanged (tickets_row configured (facts_of r.facts.entries)) (tickets_row configured (facts_of (with_entry bytes_cmp name e r.facts.entries))) (if d then e.id ∷ [] else [])
unfolding IsStrictlySortedBy
lists_new r k configured name e none d is =
    let es = r.facts.entries in
    let other = is_same (fields configured (facts_of es) e.id) (fields configured (facts_of (with_entry bytes_cmp name e es)) e.id) in
    let s : Laid = record { facts = record { entries = with_entry bytes_cmp name e es; spare = 0 }; spots = record { entries = with_entry spot_cmp (spot e.id e.date name) tt r.spots.entries; spare = 0 } } in
    subst (ListsChanged (tickets_row configured (facts_of es)) (tickets_row configured (facts_of (with_entry bytes_cmp name e es))))
    (single other ∙ ap (λ b. if b then e.id ∷ [] else []) (sym (is ∙ row_differs r s k (kept_with r k name e none) configured name e none refl refl)))
    (lists_others configured es name e (e.id ∷ []) (tt, tt) (λ q. or_false (bytes_eq q e.id) ∙ ap (λ o. is_id o q || bytes_eq q e.id) (sym none)))
  where
    single : (b : Bool) → cons_option (if b then None else Some e.id) [] ≡ (if not b then e.id ∷ [] else [])
    single true = refl
    single false = refl
