-- The lists of names.
use Rattle.std.proofs.Common.{◌≡◌, ℕ, true, false, cond, List, [], ◌∷◌, map, refl, sym, ap, ◌∙◌}
use Rattle.std.specs.Prelude.{filter}
use Rattle.std.specs.List.Sorted.{IsStrictlySortedBy}
use Rattle.std.specs.FinSet as set
use Rattle.std.specs.FinSet.{FinSet}
use Rattle.fsl_order.specs.Names.{bytes_cmp}
use Rattle.fsl_order.specs.Rows.{ascending}
use Rattle.fsl_order.proofs.Orders.{bytes_cmp-IsTotalOrder}
use Rattle.fsl_order.proofs.SortedLemmas.{ascending-from_set}
use Rattle.fsl_blobs.specs.declared.blobs.HeldArtifact.{HeldArtifact}
use Rattle.fsl_blobs.specs.Fold.{Held}
use Rattle.fsl_blobs.specs.Kept.{stands}
use Rattle.fsl_blobs.specs.Listing.{entry_of}

-- a rising list of the names of a set is its ascending list
pub set_items : (names : List (List ℕ)) (all : FinSet bytes_cmp) → IsStrictlySortedBy bytes_cmp names → ((q : List ℕ) → stands names q ≡ set.contains all q) → names ≡ ascending (set.items all)
set_items names all rise same = ascending-from_set (set.items all) names (λ q. same q ∙ set.contains-items all q) rise

pub listed_items : (names : List (List ℕ)) (all : FinSet bytes_cmp) → IsStrictlySortedBy bytes_cmp names → set.from_list names ≡ all → names ≡ ascending (set.items all)
listed_items names all rise same =
    set_items names all rise (λ q. sym (set.contains-from_list bytes_cmp-IsTotalOrder names q) ∙ ap (λ (s : FinSet bytes_cmp). set.contains s q) same)

private_keys : (es : List (List ℕ × HeldArtifact)) → map (λ e. e.0) (filter (λ e. e.1.private) (map entry_of es)) ≡ map (λ e. e.0) (filter (λ e. e.1.private) es)
private_keys [] = refl
private_keys (e ∷ es) =
    elim e.1.private as (λ b. map (λ e. e.0) (cond b (entry_of e ∷ filter (λ e. e.1.private) (map entry_of es)) (filter (λ e. e.1.private) (map entry_of es))) ≡ map (λ e. e.0) (cond b (e ∷ filter (λ e. e.1.private) es) (filter (λ e. e.1.private) es))) [
      | true ↦ ap (λ (ks : List (List ℕ)). e.0 ∷ ks) (private_keys es)
      | false ↦ private_keys es
    ]

pub private_items : (es : List (List ℕ × HeldArtifact)) (entries : List (List ℕ × Held)) → map entry_of es ≡ entries → map (λ e. e.0) (filter (λ e. e.1.private) es) ≡ map (λ e. e.0) (filter (λ e. e.1.private) entries)
private_items es entries same = sym (private_keys es) ∙ ap (λ (xs : List (List ℕ × Held)). map (λ e. e.0) (filter (λ e. e.1.private) xs)) same
