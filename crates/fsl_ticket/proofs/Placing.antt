-- The keys of one change more, and of one less.
use Rattle.std.proofs.Common.{◌≡◌, ℕ, List, true, false, cond, ◌&&◌, Option, Some, None, is_some, refl, sym, ap, ◌∙◌}
use Rattle.std.specs.Option.{option_and_then}
use Rattle.std.specs.Str.{bytes_eq}
use Rattle.std.specs.Ordering.{is_eq, nat_cmp, ordering_then, ordering_reverse}
use Rattle.std.proofs.lemmas.Cmp.{nat_cmp_total}
use Rattle.std.specs.Cmp.Lexicographic.{texts_ties, bytes_decides, nat_list_eq_equiv}
use Rattle.std.specs.List.Sorted.{IsStrictlySortedBy}
use Rattle.std.specs.Map.{keys_of}
use Rattle.std.specs.declared.cmp.Ordering.{Ordering}
use Rattle.std.specs.declared.cmp.Ordering.TheVariants.{Less, Equal, Greater}
use Rattle.std.proofs.lemmas.Map.Lookups.{exact_bytes}
use Rattle.fsl_order.specs.Names.{bytes_cmp}
use Rattle.fsl_order.proofs.Orders.{bytes_cmp-IsTotalOrder}
use Rattle.fsl_table.specs.Contents.{value_at, with_entry, without_key}
use Rattle.fsl_table.specs.Placed.{ArePlaced, is_key, is_placed, key_of}
use Rattle.fsl_table.proofs.Finding.{value-without}
use Rattle.fsl_table.proofs.Placed.{placed_with, placed_without}
use Rattle.fsl_ticket.specs.declared.Fact.{Fact}
use Rattle.fsl_ticket.specs.declared.entry.Entry.{Entry}
use Rattle.fsl_ticket.specs.Newest.{newest_cmp}
use Rattle.fsl_ticket.specs.NewestOrder.{newest_cmp-IsTotalOrder, newest_cmp-IsAntisymmetric}
use Rattle.fsl_ticket.specs.Kept.{Lines, Spot, Spots, spot, spot_cmp, fact_of, is_of, is_spot}

-- dates and names tie where both parts do
pub place_eq : (p : ℕ × List ℕ) (t : ℕ) (name : List ℕ) → is_eq (newest_cmp p (t, name)) ≡ (bytes_eq name p.1 && is_eq (nat_cmp t p.0))
place_eq p t name = parts (nat_cmp t p.0) (bytes_cmp name p.1) ∙ ap (λ b. b && is_eq (nat_cmp t p.0)) (sym (texts_ties name p.1))
  where
    parts : (r s : Ordering) → is_eq (ordering_then r s) ≡ (is_eq s && is_eq r)
    parts Less Less = refl
    parts Less Equal = refl
    parts Less Greater = refl
    parts Equal Less = refl
    parts Equal Equal = refl
    parts Equal Greater = refl
    parts Greater Less = refl
    parts Greater Equal = refl
    parts Greater Greater = refl

-- numbers tie in both directions
turned : (m n : ℕ) → is_eq (nat_cmp m n) ≡ is_eq (nat_cmp n m)
turned m n = ap is_eq (nat_cmp_total.antisymm m n) ∙ by (nat_cmp n m)
  where
    by : (r : Ordering) → is_eq (ordering_reverse r) ≡ is_eq r
    by Less = refl
    by Equal = refl
    by Greater = refl

pub same_place : (p : ℕ × List ℕ) (t : ℕ) (name : List ℕ) → is_eq (newest_cmp p (t, name)) ≡ (bytes_eq p.1 name && is_eq (nat_cmp p.0 t))
same_place p t name = place_eq p t name ∙ (λ i. nat_list_eq_equiv.symm name p.1 i && turned t p.0 i)

abbrev pub place : Fact → ℕ × List ℕ
place f = (f.date, f.name)

-- the change of an entry
abbrev pub item : List ℕ × Entry → Option Fact
item e = Some (fact_of e)

abbrev key : List ℕ × Entry → Option (List ℕ × (ℕ × List ℕ))
key = key_of item (λ f. f.id) place

pub own : (e : List ℕ × Entry) (f : Fact) → Some (fact_of e) ≡ Some f → f.name ≡ e.0
own e f h = let same : fact_of e ≡ f = cc in ap (λ f. f.name) (sym same)

own_key : (e : List ℕ × Entry) (k : List ℕ × (ℕ × List ℕ)) → key e ≡ Some k → k.1.1 ≡ e.0
own_key e k h = let same : (e.1.id, (e.1.date, e.0)) ≡ k = cc in ap (λ k. k.1.1) (sym same)

pub same_spot : (es : Lines) (id : List ℕ) (s : Option (ℕ × List ℕ)) → is_spot es id s ≡ is_placed bytes_cmp newest_cmp (λ p. p.1) key es id s
same_spot es id None = refl
same_spot es id (Some p) = by (value_at bytes_cmp p.1 es)
  where
    date_eq : (date : ℕ) → is_eq (nat_cmp p.0 date) ≡ is_eq (newest_cmp p (date, p.1))
    date_eq date = turned p.0 date ∙ sym (place_eq p date p.1 ∙ ap (λ b. b && is_eq (nat_cmp date p.0)) (nat_list_eq_equiv.refl p.1))

    by : (o : Option Entry) → is_of o id p.0 ≡ is_key bytes_cmp newest_cmp (λ p. p.1) key (option_and_then (λ e. key (p.1, e)) o) id p
    by None = refl
    by (Some e) = λ i. texts_ties id e.id i && date_eq e.date i

module _ (es : Lines) (ss : Spots) (spots : (k : Spot) → is_some (value_at spot_cmp k ss) ≡ is_spot es k.first k.second) where
  pub placed : ArePlaced bytes_cmp newest_cmp (λ p. p.1) key es ss
  placed q = spots q ∙ same_spot es q.first q.second

  pub spots_with : (name : List ℕ) (e : Entry) → value_at bytes_cmp name es ≡ None
      → (k : Spot) → is_some (value_at spot_cmp k (with_entry spot_cmp (spot e.id e.date name) tt ss)) ≡ is_spot (with_entry bytes_cmp name e es) k.first k.second
  spots_with name e none k =
      placed_with bytes_cmp newest_cmp bytes_cmp-IsTotalOrder newest_cmp-IsTotalOrder exact_bytes newest_cmp-IsAntisymmetric (λ p. p.1) key own_key es ss name e placed none (Some (e.id, (e.date, name))) refl k
      ∙ sym (same_spot (with_entry bytes_cmp name e es) k.first k.second)

  pub spots_without : (name : List ℕ) (e : Entry) → IsStrictlySortedBy bytes_cmp (keys_of es) → IsStrictlySortedBy spot_cmp (keys_of ss) → value_at bytes_cmp name es ≡ Some e
      → (k : Spot) → is_some (value_at spot_cmp k (without_key spot_cmp (spot e.id e.date name) ss)) ≡ is_spot (without_key bytes_cmp name es) k.first k.second
  spots_without name e sorted rising here k =
      placed_without bytes_cmp newest_cmp bytes_cmp-IsTotalOrder newest_cmp-IsTotalOrder exact_bytes newest_cmp-IsAntisymmetric (λ p. p.1) key own_key es ss name e sorted rising placed here (Some (e.id, (e.date, name))) refl k
      ∙ sym (same_spot (without_key bytes_cmp name es) k.first k.second)

-- where the change isn't there, its keys stay
pub spots_stay : (es : Lines) (name : List ℕ) → IsStrictlySortedBy bytes_cmp (keys_of es) → value_at bytes_cmp name es ≡ None → (id : List ℕ) (s : Option (ℕ × List ℕ)) → is_spot es id s ≡ is_spot (without_key bytes_cmp name es) id s
spots_stay es name sorted none id None = refl
spots_stay es name sorted none id (Some p) =
    elim (bytes_eq p.1 name) as (λ b. bytes_eq p.1 name ≡ b → is_of (value_at bytes_cmp p.1 es) id p.0 ≡ is_of (cond b None (value_at bytes_cmp p.1 es)) id p.0) [
      | true ↦ λ h. ap (λ o. is_of o id p.0) (ap (λ n. value_at bytes_cmp n es) ((bytes_decides p.1 name).0 h) ∙ none)
      | false ↦ λ h. refl
    ] refl
    ∙ ap (λ o. is_of o id p.0) (sym (value-without name es sorted p.1))
