-- The changes at the keys of a ticket, in their order, are those of the ticket; and the fields that they give.
use Rattle.std.proofs.Common.{◌≡◌, ℕ, List, [], ◌∷◌, Bool, true, false, cond, if◌then◌else◌, Option, Some, None, is_some, ◌++◌, map, filter, refl, sym, ap, ◌∙◌, ◌||◌}
use mathlib.Core.Bool.{true≢false}
use Rattle.std.specs.Option.{option_map, option_and_then}
use Rattle.std.specs.Str.{bytes_eq}
use Rattle.std.specs.Ordering.{is_eq}
use Rattle.std.specs.List.{list_any, filter_map, AllByRecursion}
use Rattle.std.specs.List.Sorted.{IsStrictlySortedBy}
use Rattle.std.specs.Map.{keys_of}
use Rattle.std.specs.FinMap.{put}
use Rattle.std.specs.FinMap.Entries.{by_order}
use Rattle.std.specs.Cmp.{IsTotalOrder, tied_itself}
use Rattle.std.specs.declared.cmp.Ordering.{Ordering}
use Rattle.std.specs.Cmp.Lexicographic.{texts_ties, nat_list_eq_equiv}
use Rattle.std.specs.declared.cmp.Ordering.TheVariants.{Less, Equal, Greater}
use Rattle.std.proofs.lemmas.Map.Lookups.{exact_bytes}
use Rattle.fsl_order.specs.Names.{bytes_cmp, dated_cmp}
use Rattle.fsl_order.specs.Rows.{keyed, in_order}
use Rattle.fsl_order.proofs.Orders.{bytes_cmp-IsTotalOrder}
use Rattle.fsl_table.specs.Contents.{value_at}
use Rattle.fsl_table.specs.Placed.{put_item, items_at}
use Rattle.fsl_table.specs.Within.{within}
use Rattle.fsl_table.proofs.Belonging.{within_sorted, value-within}
use Rattle.fsl_table.proofs.Gathered.{items_are}
use Rattle.fsl_ticket.specs.declared.entry.Entry.{Entry}
use Rattle.fsl_ticket.specs.declared.Fact.{Fact}
use Rattle.fsl_ticket.specs.Tickets.{changes, value, fields}
use Rattle.fsl_ticket.specs.Seen.{value_from}
use Rattle.fsl_ticket.specs.Kept.{Lines, Laid, IsLaid, spot, fact_of, facts_of, is_of, is_spot, change_at, put_before, changes_at, if_any}
use Rattle.fsl_ticket.specs.Newest.{newest_cmp}
use Rattle.fsl_ticket.specs.NewestOrder.{newest_cmp-IsTotalOrder, newest_cmp-IsAntisymmetric}
use Rattle.fsl_ticket.specs.Walked.{Down, names_of, value_down}
use Rattle.fsl_ticket.proofs.Backward.{backward, in_order-backward}
use Rattle.fsl_ticket.proofs.Folding.{value_backward}
use Rattle.fsl_ticket.proofs.Placing.{place, item, own, placed}

abbrev Spots : Type 0
Spots = List ((ℕ × List ℕ) × Unit {0})

items_are_changes : (es : Lines) (ws : Spots) → items_at (λ p. p.1) item es ws ≡ changes_at es ws
items_are_changes es [] = refl
items_are_changes es (w ∷ ws) = by (value_at bytes_cmp w.0.1 es) ∙ ap (put_before (change_at es w.0.1)) (items_are_changes es ws)
  where
    by : (o : Option Entry) → put_item (option_and_then (λ e. item (w.0.1, e)) o) (items_at (λ p. p.1) item es ws) ≡ put_before (option_map (λ e. fact_of (w.0.1, e)) o) (items_at (λ p. p.1) item es ws)
    by None = refl
    by (Some e) = refl

own_group : (es : Lines) (id : List ℕ) → filter (λ f. is_eq (bytes_cmp id f.id)) (filter_map item es) ≡ filter (λ f. bytes_eq f.id id) (facts_of es)
own_group [] id = refl
own_group (e ∷ es) id =
    (λ i. cond (sym (texts_ties id e.1.id) i) (fact_of e ∷ own_group es id i) (own_group es id i))
    ∙ ap (λ b. cond b (fact_of e ∷ filter (λ f. bytes_eq f.id id) (facts_of es)) (filter (λ f. bytes_eq f.id id) (facts_of es))) (nat_list_eq_equiv.symm id e.1.id)

-- what holds of each key that is found holds of all
members : {K X : Type 0} {R : K → K → Ordering} → IsTotalOrder R → (P : K → Type 0) (ws : List (K × X)) → ((p : K) → is_some (value_at R p ws) ≡ true → P p) → AllByRecursion (λ w. P w.0) ws
members o P [] h = tt
members {R = R} o P (w ∷ ws) h = (
  h w.0 (ap (λ r. is_some (cond (is_eq r) (Some w.1) (value_at R w.0 ws))) (tied_itself o w.0)),
  members o P ws (λ p s. h p (elim (is_eq (R p w.0)) as (λ b. is_some (cond b (Some w.1) (value_at R p ws)) ≡ true) [ true ↦ refl | false ↦ s ])),
)

module _ (r : Laid) (k : IsLaid r) (id : List ℕ) where
  pub sorted_within : IsStrictlySortedBy newest_cmp (keys_of (within bytes_cmp id r.spots.entries))
  sorted_within = within_sorted bytes_cmp newest_cmp bytes_cmp-IsTotalOrder exact_bytes id r.spots.entries k.spots_ordered

  changes_down : changes_at r.facts.entries (within bytes_cmp id r.spots.entries) ≡ in_order newest_cmp place (filter (λ f. bytes_eq f.id id) (facts_of r.facts.entries))
  changes_down =
      let es = r.facts.entries in
      sym (items_are_changes es (within bytes_cmp id r.spots.entries))
      ∙ items_are bytes_cmp newest_cmp bytes_cmp-IsTotalOrder newest_cmp-IsTotalOrder exact_bytes newest_cmp-IsAntisymmetric (λ p. p.1) item (λ f. f.id) place own
      es r.spots.entries k.ordered k.spots_ordered (placed es r.spots.entries k.spots) id
      ∙ ap (in_order newest_cmp place) (own_group es id)

  -- from the last on, they are in the order of the definition
  changes_are : changes (facts_of r.facts.entries) id ≡ backward (changes_at r.facts.entries (within bytes_cmp id r.spots.entries))
  changes_are = in_order-backward newest_cmp-IsTotalOrder place (filter (λ f. bytes_eq f.id id) (facts_of r.facts.entries)) ∙ ap backward (sym changes_down)

  pub at_spot : (p : ℕ × List ℕ) → is_some (value_at newest_cmp p (within bytes_cmp id r.spots.entries)) ≡ is_spot r.facts.entries id (Some p)
  at_spot p = ap is_some (value-within bytes_cmp newest_cmp id p r.spots.entries) ∙ k.spots (spot id p.0 p.1)

  -- each key has its change
  pub all_there : AllByRecursion (λ w. is_some (value_at bytes_cmp w.0.1 r.facts.entries) ≡ true) (within bytes_cmp id r.spots.entries)
  all_there = members newest_cmp-IsTotalOrder (λ p. is_some (value_at bytes_cmp p.1 r.facts.entries) ≡ true) (within bytes_cmp id r.spots.entries)
      (λ p h. some_of (value_at bytes_cmp p.1 r.facts.entries) p.0 (sym (at_spot p) ∙ h))
    where
      some_of : (o : Option Entry) (date : ℕ) → is_of o id date ≡ true → is_some o ≡ true
      some_of None date h = h
      some_of (Some e) date h = refl

-- ---- the fields of a ticket

some_put : (k : ℕ × List ℕ) (f : Fact) (es : List ((ℕ × List ℕ) × Fact)) → is_some (if_any (map (λ e. e.1) (put dated_cmp k f es))) ≡ true
some_put k f [] = refl
some_put k f (e ∷ es) =
    elim (dated_cmp k e.0) as (λ r. is_some (if_any (map (λ e. e.1) (by_order r ((k, f) ∷ e ∷ es) ((e.0, f) ∷ es) (e ∷ put dated_cmp k f es)))) ≡ true) [ Less ↦ refl | Equal ↦ refl | Greater ↦ refl ]

some_ordered : (facts : List Fact) → is_some (if_any facts) ≡ is_some (if_any (in_order dated_cmp place facts))
some_ordered [] = refl
some_ordered (f ∷ facts) = sym (some_put (place f) f (keyed dated_cmp place facts))

some_filtered : (p : Fact → Bool) (facts : List Fact) → list_any p facts ≡ is_some (if_any (filter p facts))
some_filtered p [] = refl
some_filtered p (f ∷ facts) =
    elim (p f) as (λ b. (b || list_any p facts) ≡ is_some (if_any (cond b (f ∷ filter p facts) (filter p facts)))) [ true ↦ refl | false ↦ some_filtered p facts ]

where_any : (facts : List Fact) (g : List Fact → List (List ℕ)) → (if is_some (if_any facts) then Some (g facts) else None) ≡ option_map g (if_any facts)
where_any [] g = refl
where_any (f ∷ facts) g = refl

-- the answer is that of the changes of the ticket, where there are any
pub fields_any : (configured : List (List ℕ)) (facts : List Fact) (id : List ℕ) → fields configured facts id ≡ option_map (λ list. map (value_from list) configured) (if_any (changes facts id))
fields_any configured facts id =
    ap (λ b. if b then Some (map (value facts id) configured) else None) (some_filtered (λ f. bytes_eq f.id id) facts ∙ some_ordered (filter (λ f. bytes_eq f.id id) facts))
    ∙ where_any (changes facts id) (λ list. map (value_from list) configured)

-- the row that changes give, from the newest down
abbrev pub row_down : List (List ℕ) → Lines → Down → Option (List (List ℕ))
row_down configured es [] = None
row_down configured es (w ∷ ws) = Some (map (value_down es (names_of (w ∷ ws))) configured)

any_last : (fs : List Fact) (f : Fact) → if_any (fs ++ f ∷ []) ≡ Some (fs ++ f ∷ [])
any_last [] f = refl
any_last (g ∷ fs) f = refl

backward_any : (es : Lines) (ws : Down) (n : List ℕ) (o : Option Entry) → is_some o ≡ true
    → if_any (backward (put_before (option_map (λ e. fact_of (n, e)) o) (changes_at es ws))) ≡ Some (backward (put_before (option_map (λ e. fact_of (n, e)) o) (changes_at es ws)))
backward_any es ws n None h = absurd (true≢false (sym h))
backward_any es ws n (Some e) h = any_last (backward (changes_at es ws)) (fact_of (n, e))

row_backward : (configured : List (List ℕ)) (es : Lines) (ws : Down) → AllByRecursion (λ w. is_some (value_at bytes_cmp w.0.1 es) ≡ true) ws
    → option_map (λ list. map (value_from list) configured) (if_any (backward (changes_at es ws))) ≡ row_down configured es ws
row_backward configured es [] h = refl
row_backward configured es (w ∷ ws) h =
    ap (option_map (λ list. map (value_from list) configured)) (backward_any es ws w.0.1 (value_at bytes_cmp w.0.1 es) h.0)
    ∙ (λ i. Some (map (λ q. value_backward es (w ∷ ws) q i) configured))

-- the fields of a ticket are what its changes give, from the newest down
pub row_is : (r : Laid) (k : IsLaid r) (configured : List (List ℕ)) (id : List ℕ) → fields configured (facts_of r.facts.entries) id ≡ row_down configured r.facts.entries (within bytes_cmp id r.spots.entries)
row_is r k configured id =
    fields_any configured (facts_of r.facts.entries) id
    ∙ ap (λ list. option_map (λ list. map (value_from list) configured) (if_any list)) (changes_are r k id)
    ∙ row_backward configured r.facts.entries (within bytes_cmp id r.spots.entries) (all_there r k id)
