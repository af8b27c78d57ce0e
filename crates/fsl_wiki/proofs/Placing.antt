-- The keys of one fact more, and of one less.
use Rattle.std.proofs.Common.{◌≡◌, ℕ, List, true, false, cond, Option, Some, None, option_map, refl, sym, ap, subst, ◌∙◌}
use Rattle.std.proofs.Math.Path.{transport}
use Rattle.std.specs.Option.{option_and_then}
use Rattle.std.specs.Str.{bytes_eq}
use Rattle.std.specs.BTreeMap.{is_at}
use Rattle.std.specs.List.Sorted.{IsStrictlySortedBy}
use Rattle.std.specs.Map.{keys_of}
use Rattle.std.proofs.lemmas.Map.Lookups.{exact_bytes}
use Rattle.std.specs.Cmp.Lexicographic.{bytes_decides}
use Rattle.fsl_order.specs.Names.{bytes_cmp}
use Rattle.fsl_order.proofs.Orders.{bytes_cmp-IsTotalOrder}
use Rattle.fsl_table.specs.Contents.{value_at, with_entry, without_key}
use Rattle.fsl_table.specs.Placed.{key_of, with_place, without_place}
use Rattle.fsl_table.proofs.Entries.{sorted-insert_entry, sorted-remove_entry}
use Rattle.fsl_table.proofs.Finding.{same_found, value-without}
use Rattle.fsl_table.proofs.Placed.{placed_with, placed_without}
use Rattle.fsl_wiki.specs.declared.entry.Entry.{Entry}
use Rattle.fsl_wiki.specs.declared.entry.Entry.TheVariants as entry
use Rattle.fsl_wiki.specs.Exact.{exact_group}
use Rattle.fsl_wiki.specs.Groups.{group_cmp}
use Rattle.fsl_wiki.specs.Late.{late_cmp, late_cmp-IsTotalOrder, late_cmp-exact}
use Rattle.fsl_wiki.specs.Kept.{Lines, spot_cmp, Target, Targets, target_cmp, Rows, IsKept, group_of, place_of, fact_at, item, file_item, file_place, name_in, AreSpots, AreTargets, spot_of, target_of, with_target, without_target, without_spot}
use Rattle.fsl_wiki.proofs.Canonical.{spot_cmp-IsTotalOrder, target_cmp-IsTotalOrder, group_cmp-IsTotalOrder, group_is, place_is, own_item, own_file, own_key}

spot_is : (name : List ℕ) (e : Entry) → record { first = group_of (fact_at name e); second = Some (place_of (fact_at name e)) } ≡ spot_of name e
spot_is name e = λ i. record { first = group_is name e i; second = Some (place_is name e i) }

abbrev file_key : List ℕ → Entry → Option (List ℕ × (ℕ × List ℕ))
file_key name e = key_of file_item (λ a. a.target) file_place (name, e)

target_with : (name : List ℕ) (e : Entry) (ts : Targets) → with_place bytes_cmp late_cmp name_in (key_of file_item (λ a. a.target) file_place) (file_key name e) ts ≡ with_target (target_of name e) ts
target_with name (entry.Page e) ts = refl
target_with name (entry.Note e) ts = refl
target_with name (entry.Attached e) ts = refl

target_without : (name : List ℕ) (e : Entry) (ts : Targets) → without_place bytes_cmp late_cmp name_in (key_of file_item (λ a. a.target) file_place) (file_key name e) ts ≡ without_target (target_of name e) ts
target_without name (entry.Page e) ts = refl
target_without name (entry.Note e) ts = refl
target_without name (entry.Attached e) ts = refl

sorted_target : (o : Option Target) (ts : Targets) → IsStrictlySortedBy target_cmp (keys_of ts) → IsStrictlySortedBy target_cmp (keys_of (with_target o ts))
sorted_target None ts h = h
sorted_target (Some k) ts h = sorted-insert_entry target_cmp-IsTotalOrder k tt ts h

sorted_less : (o : Option Target) (ts : Targets) → IsStrictlySortedBy target_cmp (keys_of ts) → IsStrictlySortedBy target_cmp (keys_of (without_target o ts))
sorted_less None ts h = h
sorted_less (Some k) ts h = sorted-remove_entry target_cmp-IsTotalOrder (is_at (target_cmp k)) ts h

pub kept_with : (r s : Rows) (name : List ℕ) (e : Entry) → IsKept r → value_at bytes_cmp name r.facts.entries ≡ None
    → s.facts.entries ≡ with_entry bytes_cmp name e r.facts.entries → s.spots.entries ≡ with_entry spot_cmp (spot_of name e) tt r.spots.entries → s.targets.entries ≡ with_target (target_of name e) r.targets.entries
    → IsKept s
kept_with r s name e k none f p t =
    let es = r.facts.entries in
    record {
      ordered = subst (λ es. IsStrictlySortedBy bytes_cmp (keys_of es)) (sym f) (sorted-insert_entry bytes_cmp-IsTotalOrder name e es k.ordered);
      spots_ordered = subst (λ ss. IsStrictlySortedBy spot_cmp (keys_of ss)) (sym p) (sorted-insert_entry spot_cmp-IsTotalOrder (spot_of name e) tt r.spots.entries k.spots_ordered);
      spots = transport (λ i. AreSpots (sym f i) ((ap (λ x. with_entry spot_cmp x tt r.spots.entries) (spot_is name e) ∙ sym p) i))
          (placed_with group_cmp late_cmp group_cmp-IsTotalOrder late_cmp-IsTotalOrder exact_group late_cmp-exact name_in (key_of item group_of place_of) (own_key item group_of place_of own_item)
          es r.spots.entries name e k.spots none (Some (group_of (fact_at name e), place_of (fact_at name e))) refl);
      targets_ordered = subst (λ ts. IsStrictlySortedBy target_cmp (keys_of ts)) (sym t) (sorted_target (target_of name e) r.targets.entries k.targets_ordered);
      targets = transport (λ i. AreTargets (sym f i) ((target_with name e r.targets.entries ∙ sym t) i))
          (placed_with bytes_cmp late_cmp bytes_cmp-IsTotalOrder late_cmp-IsTotalOrder exact_bytes late_cmp-exact name_in (key_of file_item (λ a. a.target) file_place) (own_key file_item (λ a. a.target) file_place own_file)
          es r.targets.entries name e k.targets none (file_key name e) refl);
    }

-- where the name isn't there, nothing is taken out
none_less : (name : List ℕ) (es : Lines) → IsStrictlySortedBy bytes_cmp (keys_of es) → value_at bytes_cmp name es ≡ None → es ≡ without_key bytes_cmp name es
none_less name es sorted none =
    same_found bytes_cmp bytes_cmp-IsTotalOrder exact_bytes es (without_key bytes_cmp name es) sorted (sorted-remove_entry bytes_cmp-IsTotalOrder (is_at (bytes_cmp name)) es sorted)
    (λ q. elim (bytes_eq q name) as (λ b. bytes_eq q name ≡ b → value_at bytes_cmp q es ≡ cond b None (value_at bytes_cmp q es)) [
      | true ↦ λ h. ap (λ n. value_at bytes_cmp n es) ((bytes_decides q name).0 h) ∙ none
      | false ↦ λ h. refl
    ] refl ∙ sym (value-without name es sorted q))

pub kept_without : (r s : Rows) (name : List ℕ) (o : Option Entry) → value_at bytes_cmp name r.facts.entries ≡ o → IsKept r
    → s.facts.entries ≡ without_key bytes_cmp name r.facts.entries → s.spots.entries ≡ without_spot (option_map (spot_of name) o) r.spots.entries → s.targets.entries ≡ without_target (option_and_then (target_of name) o) r.targets.entries
    → IsKept s
kept_without r s name None none k f p t =
    let same : r.facts.entries ≡ s.facts.entries = none_less name r.facts.entries k.ordered none ∙ sym f in
    record {
      ordered = subst (λ es. IsStrictlySortedBy bytes_cmp (keys_of es)) same k.ordered;
      spots_ordered = subst (λ ss. IsStrictlySortedBy spot_cmp (keys_of ss)) (sym p) k.spots_ordered;
      spots = transport (λ i. AreSpots (same i) (sym p i)) k.spots;
      targets_ordered = subst (λ ts. IsStrictlySortedBy target_cmp (keys_of ts)) (sym t) k.targets_ordered;
      targets = transport (λ i. AreTargets (same i) (sym t i)) k.targets;
    }
kept_without r s name (Some e) here k f p t =
    let es = r.facts.entries in
    record {
      ordered = subst (λ es. IsStrictlySortedBy bytes_cmp (keys_of es)) (sym f) (sorted-remove_entry bytes_cmp-IsTotalOrder (is_at (bytes_cmp name)) es k.ordered);
      spots_ordered = subst (λ ss. IsStrictlySortedBy spot_cmp (keys_of ss)) (sym p) (sorted-remove_entry spot_cmp-IsTotalOrder (is_at (spot_cmp (spot_of name e))) r.spots.entries k.spots_ordered);
      spots = transport (λ i. AreSpots (sym f i) ((ap (λ x. without_key spot_cmp x r.spots.entries) (spot_is name e) ∙ sym p) i))
          (placed_without group_cmp late_cmp group_cmp-IsTotalOrder late_cmp-IsTotalOrder exact_group late_cmp-exact name_in (key_of item group_of place_of) (own_key item group_of place_of own_item)
          es r.spots.entries name e k.ordered k.spots_ordered k.spots here (Some (group_of (fact_at name e), place_of (fact_at name e))) refl);
      targets_ordered = subst (λ ts. IsStrictlySortedBy target_cmp (keys_of ts)) (sym t) (sorted_less (target_of name e) r.targets.entries k.targets_ordered);
      targets = transport (λ i. AreTargets (sym f i) ((target_without name e r.targets.entries ∙ sym t) i))
          (placed_without bytes_cmp late_cmp bytes_cmp-IsTotalOrder late_cmp-IsTotalOrder exact_bytes late_cmp-exact name_in (key_of file_item (λ a. a.target) file_place) (own_key file_item (λ a. a.target) file_place own_file)
          es r.targets.entries name e k.ordered k.targets_ordered k.targets here (file_key name e) refl);
    }
