-- The first key of what a fact is a version of is that of the latest version.
use Rattle.std.proofs.Common.{◌≡◌, ℕ, List, [], ◌∷◌, true, false, cond, Option, Some, None, is_some, map, filter, refl, sym, ap, ◌∙◌}
use mathlib.Core.Bool.{true≢false}
use Rattle.std.specs.List.{filter_map, IsDistinct, AllByRecursion}
use Rattle.std.specs.Option.{option_map, option_and_then}
use Rattle.std.specs.Ordering.{is_eq, on}
use Rattle.std.specs.Cmp.{tied_itself}
use Rattle.std.specs.Str.{bytes_eq}
use Rattle.std.specs.Cmp.Lexicographic.{bytes_decides, nat_list_eq_equiv}
use Rattle.std.specs.declared.cmp.Ordering.{Ordering}
use Rattle.std.specs.declared.cmp.Ordering.TheVariants.{Less, Equal, Greater}
use Rattle.fsl_order.specs.Names.{bytes_cmp, dated_cmp}
use Rattle.fsl_order.specs.Rows.{in_order, keyed, greatest, AreDistinct}
use Rattle.fsl_order.proofs.Gathered.{distinct-filter}
use Rattle.fsl_order.proofs.Orders.{dated_cmp-IsTotalOrder, dated_cmp-IsAntisymmetric}
use Rattle.fsl_order.proofs.Booleans.{second_holds}
use Rattle.fsl_table.specs.Contents.{value_at, first_of}
use Rattle.fsl_table.specs.Placed.{is_key, key_of, items_at, put_item}
use Rattle.fsl_table.specs.Within.{within}
use Rattle.fsl_table.proofs.Belonging.{value-within}
use Rattle.fsl_table.proofs.Gathered.{items_are}
use Rattle.fsl_table.proofs.Greatest.{AreApart, first_greatest}
use Rattle.fsl_wiki.specs.declared.Note.{Note}
use Rattle.fsl_wiki.specs.declared.Fact.{Fact}
use Rattle.fsl_wiki.specs.declared.Fact.TheVariants as fact
use Rattle.fsl_wiki.specs.declared.entry.Entry.{Entry}
use Rattle.fsl_wiki.specs.declared.entry.Entry.TheVariants as entry
use Rattle.fsl_wiki.specs.declared.group.Group.{Group}
use Rattle.fsl_wiki.specs.Exact.{exact_group}
use Rattle.fsl_wiki.specs.Groups.{group_cmp, note_group, file_group}
use Rattle.fsl_wiki.specs.Late.{late_cmp, late_cmp-IsTotalOrder, late_cmp-exact}
use Rattle.fsl_wiki.specs.Pages.{fact_name, note, current_note}
use Rattle.fsl_wiki.specs.Kept.{Lines, Rows, IsKept, fact_of, fact_at, facts_of, group_of, place_of, item, name_in, latest, is_called, leads, is_placed, top, race_in, row_by, row_in, before_all}
use Rattle.fsl_wiki.proofs.Canonical.{group_cmp-IsTotalOrder, own_item}
use Rattle.fsl_wiki.proofs.Standing.{distinct_facts, latest_note}

-- ---- the first in the order of the latest is the greatest by date and name

module _ {Y : Type 0} (place : Y → ℕ × List ℕ) (name : Y → List ℕ) (own : (y : Y) → (place y).1 ≡ name y) where
  apart : (y : Y) (ys : List Y) → AllByRecursion (λ n. bytes_eq (name y) n ≡ false) (map name ys) → AllByRecursion (λ z. dated_cmp (place y) (place z) ≡ Equal → ⊥) ys
  apart y [] h = tt
  apart y (z ∷ ys) h =
      (λ tied. true≢false (sym ((bytes_decides (name y) (name z)).1 (sym (own y) ∙ ap (λ p. p.1) (dated_cmp-IsAntisymmetric (place y) (place z) tied) ∙ own z)) ∙ h.0), apart y ys h.1)

  all_apart : (ys : List Y) → AreDistinct (map name ys) → AreApart dated_cmp dated_cmp-IsTotalOrder place ys
  unfolding IsDistinct
  all_apart [] d = tt
  all_apart (y ∷ ys) d = (apart y ys d.0, all_apart ys d.1)

  first_item : (es : List ((ℕ × List ℕ) × Y)) → first_of (map (λ e. e.1) es) ≡ option_map (λ e. e.1) (first_of es)
  first_item [] = refl
  first_item (e ∷ es) = refl

  pub first_in_order : (ys : List Y) → AreDistinct (map name ys) → first_of (in_order late_cmp place ys) ≡ greatest (on place dated_cmp) ys
  first_in_order ys d =
      first_item (keyed late_cmp place ys) ∙ ap (option_map (λ e. e.1)) (first_greatest dated_cmp dated_cmp-IsTotalOrder place ys (all_apart ys d)) ∙ by (greatest (on place dated_cmp) ys)
    where
      by : (o : Option Y) → option_map (λ e. e.1) (Rattle.fsl_table.proofs.Greatest.entry dated_cmp dated_cmp-IsTotalOrder place o) ≡ o
      by None = refl
      by (Some y) = refl

-- ---- the first key

equal : (r : Ordering) → is_eq r ≡ true → r ≡ Equal
equal Less h = absurd (true≢false (sym h))
equal Equal h = refl
equal Greater h = absurd (true≢false (sym h))

all_items : (es : Lines) → filter_map item es ≡ facts_of es
all_items [] = refl
all_items (e ∷ es) = ap (λ l. fact_of e ∷ l) (all_items es)

module _ (r : Rows) (k : IsKept r) (g : Group) where
  abbrev es : Lines
  es = r.facts.entries

  abbrev versions : List Fact
  versions = filter (λ f. is_eq (group_cmp g (group_of f))) (facts_of es)

  pub items_of : items_at name_in item es (within group_cmp g r.spots.entries) ≡ in_order late_cmp place_of versions
  items_of =
      items_are group_cmp late_cmp group_cmp-IsTotalOrder late_cmp-IsTotalOrder exact_group late_cmp-exact name_in item group_of place_of own_item es r.spots.entries k.ordered k.spots_ordered k.spots g
      ∙ ap (λ l. in_order late_cmp place_of (filter (λ f. is_eq (group_cmp g (group_of f))) l)) (all_items es)

  pub distinct_versions : AreDistinct (map fact_name versions)
  distinct_versions = distinct-filter (λ f. is_eq (group_cmp g (group_of f))) fact_name (facts_of es) (distinct_facts es k.ordered)

  held : (p : ℕ × List ℕ) (rest : List Fact) (o : Option Entry) → is_key group_cmp late_cmp name_in (key_of item group_of place_of) (option_and_then (λ e. key_of item group_of place_of (p.1, e)) o) g p ≡ true
      → option_map place_of (first_of (put_item (option_and_then (λ e. item (p.1, e)) o) rest)) ≡ Some p
  held p rest None h = absurd (true≢false (sym h))
  held p rest (Some e) h =
      let f = fact_at p.1 e in
      ap Some (sym (late_cmp-exact p (place_of f) (equal (late_cmp p (place_of f)) (second_holds (is_eq (group_cmp g (group_of f))) (is_eq (late_cmp p (place_of f))) h))))

  first_place : (ws : List ((ℕ × List ℕ) × Unit {0})) → within group_cmp g r.spots.entries ≡ ws → option_map place_of (first_of (items_at name_in item es ws)) ≡ option_map (λ e. e.0) (first_of ws)
  first_place [] is = refl
  first_place (p ∷ ws) is =
      held p.0 (items_at name_in item es ws) (value_at bytes_cmp p.0.1 es)
      (sym (k.spots (record { first = g; second = Some p.0 }))
      ∙ ap is_some (sym (value-within group_cmp late_cmp g p.0 r.spots.entries) ∙ ap (value_at late_cmp p.0) is)
      ∙ ap (λ b. is_some (cond b (Some p.1) (value_at late_cmp p.0 ws))) (ap is_eq (tied_itself late_cmp-IsTotalOrder p.0)))

  pub first_latest : option_map (λ e. e.0) (first_of (within group_cmp g r.spots.entries)) ≡ option_map place_of (latest (facts_of es) g)
  first_latest =
      sym (first_place (within group_cmp g r.spots.entries) refl)
      ∙ ap (λ l. option_map place_of (first_of l)) items_of
      ∙ ap (option_map place_of) (first_in_order place_of fact_name (λ f. refl) versions distinct_versions)

called_is : (q : List ℕ) (o : Option Fact) → is_placed q (option_map place_of o) ≡ is_called q o
called_is q None = refl
called_is q (Some f) = nat_list_eq_equiv.symm q (fact_name f)

-- whether the first one has a name, by what may be there
module _ (r : Rows) (k : IsKept r) (q : List ℕ) where
  of_group : (g : Group) → is_placed q (option_map (λ e. e.0) (first_of (within group_cmp g r.spots.entries))) ≡ is_called q (latest (facts_of r.facts.entries) g)
  of_group g = ap (is_placed q) (first_latest r k g) ∙ called_is q (latest (facts_of r.facts.entries) g)

  pub leads_entry : (e : Entry) → is_placed q (top r.spots.entries (race_in e)) ≡ leads r.facts.entries q (race_in e)
  leads_entry (entry.Page e) = refl
  leads_entry (entry.Note e) = of_group (note_group e.id)
  leads_entry (entry.Attached e) = of_group (file_group e.target e.file)

  pub leads_if : (o : Option Entry) → is_placed q (top r.spots.entries (option_and_then race_in o)) ≡ leads r.facts.entries q (option_and_then race_in o)
  leads_if None = refl
  leads_if (Some e) = leads_entry e

  pub row_told : (o : Option Entry) → row_by o (λ race. is_placed q (top r.spots.entries race)) ≡ row_by o (leads r.facts.entries q)
  row_told None = refl
  row_told (Some e) = ap (row_in e) (leads_entry e)

-- the name of the first technote of an id is that of the current one
pub note_is : (r : Rows) → IsKept r → (id : List ℕ) → option_map (λ p. p.1) (top r.spots.entries (Some (before_all (note_group id)))) ≡ note (facts_of r.facts.entries) id
note_is r k id =
    ap (option_map (λ p. p.1)) (first_latest r k (note_group id) ∙ ap (option_map place_of) (latest_note (facts_of r.facts.entries) id)) ∙ by (current_note (facts_of r.facts.entries) id)
  where
    by : (o : Option Note) → option_map (λ p. p.1) (option_map place_of (option_map fact.Note o)) ≡ option_map (λ n. n.name) o
    by None = refl
    by (Some n) = refl
