-- How many touches an arrival takes.
use Rattle.std.specs.Prelude.{ℕ, ◌+◌, ◌*◌, ◌≤◌, List, Bool, true, false, IfSome, Result, Ok, Err}
use Rattle.fsl_artifact.specs.declared.Artifact.{Artifact}
use Rattle.fsl_artifact.specs.Kind.{IsKind}
use Rattle.fsl_cross.specs.declared.Item.{Item}
use Rattle.fsl_cross.specs.Touches.{add_touches}
use Rattle.fsl_repo.specs.declared.Arrival.{Arrival}
use Rattle.fsl_repo.specs.declared.Arrival.TheVariants as arrival
use Rattle.fsl_repo.specs.declared.ArriveFault.{ArriveFault}
use Rattle.fsl_repo.specs.declared.ArriveFault.TheVariants as arrive_fault
use Rattle.fsl_repo.specs.declared.Clustering.{Clustering}
use Rattle.fsl_repo.specs.declared.Clustering.TheVariants as clustering

-- the bytes as an item
abbrev pub item_of : List ℕ → Bool → Artifact → Item
item_of name private artifact = record { name = name; private = private; artifact = artifact }

-- from a count to another there are at most twice as many touches as adding what the bytes are to these items may take, where that has a bound
abbrev pub IsWithin : List Item → List ℕ → Bool → List ℕ → ℕ → ℕ → Type 0
IsWithin items name private bytes old new =
    (a : Artifact) → IsKind bytes a → IfSome (add_touches items (item_of name private a)) (λ most. new ≤ old + 2 * most)

-- whether an arrival is answered so without a look into the tables
abbrev pub is_idle : Result Arrival ArriveFault → Bool
is_idle (Ok arrival.Present) = true
is_idle (Ok arrival.Shunned) = true
is_idle (Err (arrive_fault.Stopped faults)) = true
is_idle (Err (arrive_fault.TooLarge size)) = true
is_idle (Err (arrive_fault.NameWrong found)) = true
is_idle _ = false

-- whether a cluster is: there are few names, or its arrival or its fault is such an answer
abbrev pub is_idle_cluster : Result Clustering ArriveFault → Bool
is_idle_cluster (Ok (clustering.Few count)) = true
is_idle_cluster (Ok (clustering.Arrived name arrival)) = is_idle (Ok arrival)
is_idle_cluster (Err fault) = is_idle (Err fault)

abbrev pub is_published : Result Arrival ArriveFault → Bool
is_published (Ok arrival.Published) = true
is_published _ = false
