-- The facts determine the keys, so rows of the same facts are as good where they have no less to spare.
use Rattle.std.proofs.Common.{◌≡◌, ℕ, List, [], false, Option, Some, None, is_some, refl, sym, ap, subst, ◌∙◌}
use Rattle.std.specs.List.Sorted.{IsStrictlySortedBy}
use Rattle.std.specs.Map.{keys_of}
use Rattle.std.specs.Cmp.{IsTotalOrder, then_total, on_total}
use Rattle.std.specs.Cmp.Lexicographic.{nat_list_cmp_total, options_total}
use Rattle.std.proofs.lemmas.Map.Lookups.{exact_bytes}
use Rattle.fsl_order.specs.Names.{bytes_cmp}
use Rattle.fsl_order.specs.TableState.{IsAsBefore}
use Rattle.fsl_order.proofs.Orders.{bytes_cmp-IsTotalOrder}
use Rattle.fsl_table.specs.Contents.{value_at}
use Rattle.fsl_table.specs.Placed.{is_placed, key_of}
use Rattle.fsl_table.proofs.Belonging.{within-IsTotalOrder}
use Rattle.fsl_table.proofs.Facts.{same_facts}
use Rattle.fsl_table.proofs.Placed.{same_placed}
use Rattle.fsl_wiki.specs.declared.Attached.{Attached}
use Rattle.fsl_wiki.specs.declared.Fact.{Fact}
use Rattle.fsl_wiki.specs.declared.Fact.TheVariants as fact
use Rattle.fsl_wiki.specs.declared.entry.Entry.{Entry}
use Rattle.fsl_wiki.specs.declared.entry.Entry.TheVariants as entry
use Rattle.fsl_wiki.specs.Exact.{exact_group}
use Rattle.fsl_wiki.specs.Groups.{group_cmp}
use Rattle.fsl_wiki.specs.Late.{late_cmp, late_cmp-IsTotalOrder, late_cmp-exact}
use Rattle.fsl_wiki.specs.Pages.{fact_name}
use Rattle.fsl_wiki.specs.Kept.{Lines, Spot, spot_cmp, Target, target_cmp, Rows, AreAsGood, IsKept, held_of, fact_at, fact_of, facts_of, entry_of, group_of, group_in, date_of, date_in, place_of, item, file_item, file_place, name_in, AreSpots, AreTargets}
use Rattle.fsl_wiki.proofs.Moved.{attached_name}

pub group_cmp-IsTotalOrder : IsTotalOrder group_cmp
group_cmp-IsTotalOrder =
    then_total (on_total (λ g. g.id) (options_total nat_list_cmp_total))
    (then_total (on_total (λ g. g.first) (options_total nat_list_cmp_total)) (on_total (λ g. g.second) (options_total nat_list_cmp_total)))

pub spot_cmp-IsTotalOrder : IsTotalOrder spot_cmp
spot_cmp-IsTotalOrder = within-IsTotalOrder group_cmp late_cmp group_cmp-IsTotalOrder late_cmp-IsTotalOrder

pub target_cmp-IsTotalOrder : IsTotalOrder target_cmp
target_cmp-IsTotalOrder = within-IsTotalOrder bytes_cmp late_cmp bytes_cmp-IsTotalOrder late_cmp-IsTotalOrder

-- ---- facts and entries

own_name : (name : List ℕ) (e : Entry) → fact_name (fact_at name e) ≡ name
own_name name (entry.Page e) = refl
own_name name (entry.Note e) = refl
own_name name (entry.Attached e) = refl

pub own : (e : List ℕ × Entry) → fact_name (fact_of e) ≡ e.0
own e = own_name e.0 e.1

back_entry : (name : List ℕ) (e : Entry) → entry_of (fact_at name e) ≡ e
back_entry name (entry.Page e) = refl
back_entry name (entry.Note e) = refl
back_entry name (entry.Attached e) = refl

pub fact_again : (f : Fact) → fact_at (fact_name f) (entry_of f) ≡ f
fact_again (fact.Page p) = refl
fact_again (fact.Note n) = refl
fact_again (fact.Attached a) = refl

pub group_is : (name : List ℕ) (e : Entry) → group_of (fact_at name e) ≡ group_in e
group_is name (entry.Page e) = refl
group_is name (entry.Note e) = refl
group_is name (entry.Attached e) = refl

date_is : (name : List ℕ) (e : Entry) → date_of (fact_at name e) ≡ date_in e
date_is name (entry.Page e) = refl
date_is name (entry.Note e) = refl
date_is name (entry.Attached e) = refl

pub place_is : (name : List ℕ) (e : Entry) → place_of (fact_at name e) ≡ (date_in e, name)
place_is name e = λ i. (date_is name e i, own_name name e i)

pub own_item : (e : List ℕ × Entry) (f : Fact) → item e ≡ Some f → name_in (place_of f) ≡ e.0
own_item e f h = let same : fact_of e ≡ f = cc in ap fact_name (sym same) ∙ own e

pub own_file : (e : List ℕ × Entry) (a : Attached) → file_item e ≡ Some a → name_in (file_place a) ≡ e.0
own_file e a h = attached_name (fact_of e) a h ∙ own e

module _ {A Y : Type 0} (item_of : List ℕ × Entry → Option Y) (group : Y → A) (place : Y → ℕ × List ℕ) (of_item : (e : List ℕ × Entry) (y : Y) → item_of e ≡ Some y → name_in (place y) ≡ e.0) where
  pub own_key : (e : List ℕ × Entry) (k : A × (ℕ × List ℕ)) → key_of item_of group place e ≡ Some k → name_in k.1 ≡ e.0
  own_key e k h = by (item_of e) refl h
    where
      by : (o : Option Y) → item_of e ≡ o → Rattle.std.specs.Option.option_map (λ y. (group y, place y)) o ≡ Some k → name_in k.1 ≡ e.0
      by None is h = cc
      by (Some y) is h = let same : (group y, place y) ≡ k = cc in ap (λ k. name_in k.1) (sym same) ∙ of_item e y is

-- ---- what a state is, its facts tell

same_lines : (es fs : Lines) → facts_of es ≡ facts_of fs → es ≡ fs
same_lines es fs h = same_facts fact_of fact_name own entry_of (λ e. back_entry e.0 e.1) es fs h

same_spots : (r s : Rows) → IsKept r → IsKept s → r.facts.entries ≡ s.facts.entries → r.spots.entries ≡ s.spots.entries
same_spots r s k l e =
    same_placed group_cmp late_cmp group_cmp-IsTotalOrder late_cmp-IsTotalOrder exact_group late_cmp-exact name_in (key_of item group_of place_of) (own_key item group_of place_of own_item)
    s.facts.entries r.spots.entries s.spots.entries k.spots_ordered l.spots_ordered (subst (λ es. AreSpots es r.spots.entries) e k.spots) l.spots

same_targets : (r s : Rows) → IsKept r → IsKept s → r.facts.entries ≡ s.facts.entries → r.targets.entries ≡ s.targets.entries
same_targets r s k l e =
    same_placed bytes_cmp late_cmp bytes_cmp-IsTotalOrder late_cmp-IsTotalOrder exact_bytes late_cmp-exact name_in (key_of file_item (λ a. a.target) file_place) (own_key file_item (λ a. a.target) file_place own_file)
    s.facts.entries r.targets.entries s.targets.entries k.targets_ordered l.targets_ordered (subst (λ es. AreTargets es r.targets.entries) e k.targets) l.targets

kept_as : (r s : Rows) → s.facts.entries ≡ r.facts.entries → s.spots.entries ≡ r.spots.entries → s.targets.entries ≡ r.targets.entries → IsKept r → IsKept s
kept_as r s p q t k = record {
  ordered = subst (λ es. IsStrictlySortedBy bytes_cmp (keys_of es)) (sym p) k.ordered;
  spots_ordered = subst (λ es. IsStrictlySortedBy spot_cmp (keys_of es)) (sym q) k.spots_ordered;
  spots = λ key. ap (λ es. is_some (value_at spot_cmp key es)) q ∙ k.spots key ∙ ap (λ es. is_placed group_cmp late_cmp name_in (key_of item group_of place_of) es key.first key.second) (sym p);
  targets_ordered = subst (λ es. IsStrictlySortedBy target_cmp (keys_of es)) (sym t) k.targets_ordered;
  targets = λ key. ap (λ es. is_some (value_at target_cmp key es)) t ∙ k.targets key ∙ ap (λ es. is_placed bytes_cmp late_cmp name_in (key_of file_item (λ a. a.target) file_place) es key.first key.second) (sym p);
}

-- rows of the same facts, with no less to spare, are as good
pub good_as : (before now : Rows) → IsKept before → IsKept now → IsAsBefore (held_of before) (held_of now) → AreAsGood before now
good_as before now kb kn same =
    let fe : now.facts.entries ≡ before.facts.entries = same_lines now.facts.entries before.facts.entries same.facts in
    record {
      facts = record { entries = fe; spare = same.spare.0 };
      spots = record { entries = same_spots now before kn kb fe; spare = same.spare.1.0 };
      targets = record { entries = same_targets now before kn kb fe; spare = same.spare.1.1.0 };
    }

-- and rows that are as good hold the same
pub kept_good : (before now : Rows) → AreAsGood before now → IsKept before → IsKept now
kept_good before now g k = kept_as before now g.facts.entries g.spots.entries g.targets.entries k

pub as_good : (before now : Rows) → AreAsGood before now → IsAsBefore (held_of before) (held_of now)
as_good before now g = record { facts = ap facts_of g.facts.entries; spare = (g.facts.spare, (g.spots.spare, (g.targets.spare, tt))) }

pub kept_none : (r : Rows) → r.facts.entries ≡ [] → r.spots.entries ≡ [] → r.targets.entries ≡ [] → IsKept r
unfolding IsStrictlySortedBy
kept_none r p q t =
    kept_as (record { facts = record { entries = []; spare = 0 }; spots = record { entries = []; spare = 0 }; targets = record { entries = []; spare = 0 } }) r p q t
    (record { ordered = tt; spots_ordered = tt; spots = λ k. no_spot k k.second; targets_ordered = tt; targets = λ k. no_target k k.second })
  where
    no_spot : (k : Spot) (s : Option (ℕ × List ℕ)) → false ≡ is_placed group_cmp late_cmp name_in (key_of item group_of place_of) [] k.first s
    no_spot k None = refl
    no_spot k (Some p) = refl

    no_target : (k : Target) (s : Option (ℕ × List ℕ)) → false ≡ is_placed bytes_cmp late_cmp name_in (key_of file_item (λ a. a.target) file_place) [] k.first s
    no_target k None = refl
    no_target k (Some p) = refl
