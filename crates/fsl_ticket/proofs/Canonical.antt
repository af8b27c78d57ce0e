-- The facts determine the keys, so rows of the same facts are as good where they have no less to spare.
use Rattle.std.proofs.Common.{◌≡◌, ℕ, List, [], false, Option, Some, None, is_some, refl, sym, ap, subst, ◌∙◌, arith}
use Rattle.std.specs.List.Sorted.{IsStrictlySortedBy}
use Rattle.std.specs.Map.{keys_of}
use Rattle.std.specs.Cmp.{IsTotalOrder, then_total, on_total}
use Rattle.std.specs.declared.cmp.Ordering.TheVariants.{Equal}
use Rattle.std.proofs.lemmas.Map.Lookups.{exact_bytes}
use Rattle.fsl_order.specs.Names.{bytes_cmp}
use Rattle.fsl_order.proofs.Orders.{bytes_cmp-IsTotalOrder}
use Rattle.fsl_table.specs.Contents.{value_at}
use Rattle.fsl_table.specs.ExactWithin.{exact_within}
use Rattle.fsl_table.proofs.Belonging.{within-IsTotalOrder}
use Rattle.fsl_table.proofs.Facts.{same_facts}
use Rattle.fsl_table.proofs.Finding.{same_found, same_units}
use Rattle.fsl_ticket.specs.declared.field.TicketField.{TicketField}
use Rattle.fsl_ticket.specs.Seen.{IsAsBefore}
use Rattle.fsl_ticket.specs.Newest.{newest_cmp}
use Rattle.fsl_ticket.specs.NewestOrder.{newest_cmp-IsTotalOrder, newest_cmp-IsAntisymmetric}
use Rattle.fsl_ticket.specs.FieldOrder.{field_cmp, exact_field}
use Rattle.fsl_ticket.specs.Kept.{Lines, Rows, Spot, spot_cmp, Setting, setting_cmp, IsLaid, AreSets, IsKept, AreAsGood, seen_of, fact_of, facts_of, entry_of, is_spot, is_setting}

pub spot_cmp-IsTotalOrder : IsTotalOrder spot_cmp
spot_cmp-IsTotalOrder = within-IsTotalOrder bytes_cmp newest_cmp bytes_cmp-IsTotalOrder newest_cmp-IsTotalOrder

pub spot_cmp-exact : (x y : Spot) → spot_cmp x y ≡ Equal → x ≡ y
spot_cmp-exact = exact_within bytes_cmp newest_cmp exact_bytes newest_cmp-IsAntisymmetric

pub field_cmp-IsTotalOrder : IsTotalOrder field_cmp
field_cmp-IsTotalOrder = then_total (on_total (λ f. f.id) bytes_cmp-IsTotalOrder) (on_total (λ f. f.field) bytes_cmp-IsTotalOrder)

pub setting_cmp-IsTotalOrder : IsTotalOrder setting_cmp
setting_cmp-IsTotalOrder = within-IsTotalOrder field_cmp newest_cmp field_cmp-IsTotalOrder newest_cmp-IsTotalOrder

pub setting_cmp-exact : (x y : Setting) → setting_cmp x y ≡ Equal → x ≡ y
setting_cmp-exact = exact_within field_cmp newest_cmp exact_field newest_cmp-IsAntisymmetric

same_lines : (es fs : Lines) → facts_of es ≡ facts_of fs → es ≡ fs
same_lines es fs h = same_facts fact_of (λ f. f.name) (λ e. refl) entry_of (λ e. refl) es fs h

same_spots : (m n : Rows) → IsKept m → IsKept n → m.facts.entries ≡ n.facts.entries → m.spots.entries ≡ n.spots.entries
same_spots m n k l e =
    same_found spot_cmp spot_cmp-IsTotalOrder spot_cmp-exact m.spots.entries n.spots.entries k.laid.spots_ordered l.laid.spots_ordered
    (λ q. same_units (value_at spot_cmp q m.spots.entries) (value_at spot_cmp q n.spots.entries)
    (k.laid.spots q ∙ ap (λ es. is_spot es q.first q.second) e ∙ sym (l.laid.spots q)))

same_sets : (m n : Rows) → IsKept m → IsKept n → m.facts.entries ≡ n.facts.entries → m.sets.entries ≡ n.sets.entries
same_sets m n k l e =
    same_found setting_cmp setting_cmp-IsTotalOrder setting_cmp-exact m.sets.entries n.sets.entries k.sets.ordered l.sets.ordered
    (λ q. same_units (value_at setting_cmp q m.sets.entries) (value_at setting_cmp q n.sets.entries)
    (k.sets.are q ∙ ap (λ es. is_setting es q.first q.second) e ∙ sym (l.sets.are q)))

-- rows that are as good hold the same
pub kept_good : (m n : Rows) → AreAsGood m n → IsKept m → IsKept n
kept_good m n g k =
    let p = g.facts.entries in
    let q = g.spots.entries in
    let r = g.sets.entries in
    record {
      laid = record {
        ordered = subst (λ es. IsStrictlySortedBy bytes_cmp (keys_of es)) (sym p) k.laid.ordered;
        spots_ordered = subst (λ es. IsStrictlySortedBy spot_cmp (keys_of es)) (sym q) k.laid.spots_ordered;
        spots = λ key. ap (λ es. is_some (value_at spot_cmp key es)) q ∙ k.laid.spots key ∙ ap (λ es. is_spot es key.first key.second) (sym p);
      };
      sets = record {
        ordered = subst (λ es. IsStrictlySortedBy setting_cmp (keys_of es)) (sym r) k.sets.ordered;
        are = λ key. ap (λ es. is_some (value_at setting_cmp key es)) r ∙ k.sets.are key ∙ ap (λ es. is_setting es key.first key.second) (sym p);
      };
    }

-- rows of the same facts, with no less to spare, are as good
pub good_as : (fields others : List (List ℕ)) (before now : Rows) → IsKept before → IsKept now → IsAsBefore (seen_of fields before) (seen_of others now) → AreAsGood before now
good_as fields others before now kb kn same =
    let fe : now.facts.entries ≡ before.facts.entries = same_lines now.facts.entries before.facts.entries same.facts in
    record {
      facts = record { entries = fe; spare = same.spare.0 };
      spots = record { entries = same_spots now before kn kb fe; spare = same.spare.1.0 };
      sets = record { entries = same_sets now before kn kb fe; spare = same.spare.1.1.0 };
    }

pub as_good : (fields others : List (List ℕ)) (before now : Rows) → others ≡ fields → AreAsGood before now → IsAsBefore (seen_of fields before) (seen_of others now)
as_good fields others before now same g = record { fields = same; facts = ap facts_of g.facts.entries; spare = (g.facts.spare, (g.spots.spare, (g.sets.spare, tt))) }

laid_none : IsLaid (record { facts = record { entries = []; spare = 0 }; spots = record { entries = []; spare = 0 } })
unfolding IsStrictlySortedBy
laid_none = record { ordered = tt; spots_ordered = tt; spots = λ k. none k.second }
  where
    none : (p : Option (ℕ × List ℕ)) → false ≡ is_spot [] [] p
    none None = refl
    none (Some p) = refl

sets_none : AreSets [] []
unfolding IsStrictlySortedBy
sets_none = record { ordered = tt; are = λ k. none k.first k.second }
  where
    none : (f : TicketField) (p : Option (ℕ × List ℕ)) → false ≡ is_setting [] f p
    none f None = refl
    none f (Some p) = refl

pub kept_none : (r : Rows) → r.facts.entries ≡ [] → r.spots.entries ≡ [] → r.sets.entries ≡ [] → IsKept r
kept_none r p q t =
    let none : Rows = record { facts = record { entries = []; spare = 0 }; spots = record { entries = []; spare = 0 }; sets = record { entries = []; spare = 0 } } in
    kept_good none r (record { facts = record { entries = p; spare = omega arith }; spots = record { entries = q; spare = omega arith }; sets = record { entries = t; spare = omega arith } })
    (record { laid = laid_none; sets = sets_none })
