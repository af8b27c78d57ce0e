-- The names that a change tells.
use Rattle.std.proofs.Common.{◌≡◌, ◌||◌, ℕ, List, [], Result, Ok, Err, ap, ◌∙◌}
use Rattle.std.specs.Result.{IfOk, OnOk}
use Rattle.std.specs.List.Sorted.{IsStrictlySortedBy}
use Rattle.fsl_order.specs.Names.{bytes_cmp, has}
use Rattle.fsl_order.specs.Rows.{ListsChanged}
use Rattle.fsl_cluster.specs.declared.tables.Tables.{Tables}
use Rattle.fsl_cluster.specs.declared.tables.Flips.{Flips}
use Rattle.fsl_cluster.specs.Clusters.{clusters_row}
use Rattle.fsl_cluster.specs.Kept.{IsKept, AreFlipped, facts_of, is_in}
use Rattle.fsl_cluster.proofs.Turning.{same_differs}
use Rattle.fsl_cluster.proofs.Reading.{lists_flipped}

pub changed_is : {E : Type 0} (old new : Tables) (none flips : Flips) (r : Result (List (List ℕ)) E) → IsKept old → none.unclustered.keys ≡ [] → none.missing.keys ≡ []
    → OnOk r (IsKept new) → OnOk r ((before : Tables) → AreFlipped before none old → AreFlipped before flips new)
    → IfOk r (λ list. (q : List ℕ) → has list q ≡ (has flips.missing.keys q || has flips.unclustered.keys q)) → IfOk r (λ list. IsStrictlySortedBy bytes_cmp list)
    → IfOk r (ListsChanged (clusters_row (facts_of old.facts.entries)) (clusters_row (facts_of new.facts.entries)))
changed_is old new none flips (Err e) k u m kept flipped list rising = tt
changed_is old new none flips (Ok l) k u m kept flipped list rising =
    lists_flipped old new k kept flips
    (flipped old (record {
      unclustered = λ q. ap (λ ks. has ks q) u ∙ same_differs (is_in old.unclustered.entries q);
      missing = λ q. ap (λ ks. has ks q) m ∙ same_differs (is_in old.missing.entries q);
    }))
    l rising list
