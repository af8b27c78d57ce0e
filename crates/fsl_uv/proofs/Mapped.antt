-- What some paths have, path by path: its paths rise, and it is the one map that has this.
use Rattle.std.specs.Prelude.{◌≡◌, ◌||◌, ℕ, List, [], ◌∷◌, Bool, true, false, cond, Option, Some, None, is_some}
use Rattle.std.proofs.Common.{refl, sym, ap, ◌∙◌}
use Rattle.std.specs.declared.cmp.Ordering.TheVariants.{Less}
use Rattle.std.specs.List.{AllByRecursion}
use Rattle.std.specs.List.Sorted.{IsStrictlySortedBy}
use Rattle.std.specs.Map.{keys_of}
use Rattle.std.specs.Str.{bytes_eq}
use Rattle.std.specs.Cmp.Lexicographic.{texts_ties, bytes_decides}
use Rattle.fsl_order.specs.Names.{bytes_cmp, has, is_before}
use Rattle.fsl_order.proofs.Booleans.{first_holds, second_holds}
use Rattle.fsl_order.specs.Rows.{ascending, rises}
use Rattle.fsl_order.specs.Maps.{value_at}
use Rattle.fsl_order.proofs.Orders.{bytes_cmp-IsTotalOrder, bytes_cmp-IsAntisymmetric, less_from}
use Rattle.fsl_order.proofs.AscendingLemmas.{has-ascending}
use Rattle.fsl_order.proofs.Ascending.{ascending_is_the_set}
use Rattle.fsl_table.proofs.Finding.{same_found}
use Rattle.fsl_uv.specs.Entries.{Version}
use Rattle.fsl_uv.specs.Maps.{before, each}
use Rattle.fsl_uv.specs.Laws.{Rises}

abbrev Map : Type 0
Map = List (List ℕ × Version)

-- ---- one map alone has at each path what it has

pub same_map : (m n : Map) → Rises m → Rises n → ((path : List ℕ) → value_at m path ≡ value_at n path) → m ≡ n
same_map m n up rise h = same_found bytes_cmp bytes_cmp-IsTotalOrder bytes_cmp-IsAntisymmetric m n up rise h

-- ---- what a map of paths has

value-before : (path : List ℕ) (o : Option Version) (m : Map) (q : List ℕ) → value_at (before path o m) q ≡ cond (bytes_eq q path) (cond (is_some o) o (value_at m q)) (value_at m q)
value-before path None m q = elim (bytes_eq q path) as (λ b. value_at m q ≡ cond b (value_at m q) (value_at m q)) [ true ↦ refl | false ↦ refl ]
value-before path (Some v) m q = ap (λ b. cond b (Some v) (value_at m q)) (sym (texts_ties q path))

or_some : (o : Option Version) → cond (is_some o) o None ≡ o
or_some None = refl
or_some (Some v) = refl

or_same : (b : Bool) (o : Option Version) → cond (is_some o) o (cond b o None) ≡ o
or_same true None = refl
or_same true (Some v) = refl
or_same false o = or_some o

pub value-each : (paths : List (List ℕ)) (f : List ℕ → Option Version) (q : List ℕ) → value_at (each paths f) q ≡ cond (has paths q) (f q) None
value-each [] f q = refl
value-each (path ∷ paths) f q =
    value-before path (f path) (each paths f) q
    ∙ (λ i. cond (bytes_eq q path) (cond (is_some (f path)) (f path) (value-each paths f q i)) (value-each paths f q i))
    ∙ elim (bytes_eq q path) as (λ b. bytes_eq q path ≡ b → cond b (cond (is_some (f path)) (f path) (cond (has paths q) (f q) None)) (cond (has paths q) (f q) None) ≡ cond (b || has paths q) (f q) None) [
      | true ↦ λ e. let same : path ≡ q = sym ((bytes_decides q path).0 e) in ap (λ p. cond (is_some (f p)) (f p) (cond (has paths q) (f q) None)) same ∙ or_same (has paths q) (f q)
      | false ↦ λ e. refl
    ] refl

-- ---- its paths rise

below-before : (x path : List ℕ) (o : Option Version) (m : Map) → bytes_cmp x path ≡ Less → AllByRecursion (λ y. bytes_cmp x y ≡ Less) (keys_of m) → AllByRecursion (λ y. bytes_cmp x y ≡ Less) (keys_of (before path o m))
below-before x path None m p h = h
below-before x path (Some v) m p h = (p, h)

below-each : (x : List ℕ) (paths : List (List ℕ)) (f : List ℕ → Option Version) → AllByRecursion (λ y. bytes_cmp x y ≡ Less) paths → AllByRecursion (λ y. bytes_cmp x y ≡ Less) (keys_of (each paths f))
below-each x [] f h = tt
below-each x (path ∷ paths) f h = below-before x path (f path) (each paths f) h.0 (below-each x paths f h.1)

rises-before : (path : List ℕ) (o : Option Version) (m : Map) → AllByRecursion (λ y. bytes_cmp path y ≡ Less) (keys_of m) → Rises m → Rises (before path o m)
unfolding IsStrictlySortedBy
rises-before path None m all h = h
rises-before path (Some v) m all h = (all, h)

pub rises-each : (paths : List (List ℕ)) (f : List ℕ → Option Version) → IsStrictlySortedBy bytes_cmp paths → Rises (each paths f)
unfolding IsStrictlySortedBy
rises-each [] f h = tt
rises-each (path ∷ paths) f h = rises-before path (f path) (each paths f) (below-each path paths f h.0) (rises-each paths f h.1)

-- ---- paths ascending

rises_tail : (a : List ℕ) (paths : List (List ℕ)) → rises (a ∷ paths) ≡ true → rises paths ≡ true
rises_tail a [] h = refl
rises_tail a (b ∷ paths) h = second_holds (is_before a b) (rises (b ∷ paths)) h

-- rising paths behind one that stands before the first
all_above : (x : List ℕ) (paths : List (List ℕ)) → rises (x ∷ paths) ≡ true → AllByRecursion (λ y. bytes_cmp x y ≡ Less) paths
all_above x [] h = tt
all_above x (y ∷ paths) h =
    let less : bytes_cmp x y ≡ Less = less_from (bytes_cmp x y) (first_holds (is_before x y) (rises (y ∷ paths)) h) in
    (less, chained y paths less (all_above y paths (rises_tail x (y ∷ paths) h)))
  where
    chained : (y : List ℕ) (paths : List (List ℕ)) → bytes_cmp x y ≡ Less → AllByRecursion (λ z. bytes_cmp y z ≡ Less) paths → AllByRecursion (λ z. bytes_cmp x z ≡ Less) paths
    chained y [] less all = tt
    chained y (z ∷ paths) less all = (bytes_cmp-IsTotalOrder.trans x y z less all.0, chained y paths less all.1)

sorted_from : (paths : List (List ℕ)) → rises paths ≡ true → IsStrictlySortedBy bytes_cmp paths
unfolding IsStrictlySortedBy
sorted_from [] h = tt
sorted_from (a ∷ paths) h = (all_above a paths h, sorted_from paths (rises_tail a paths h))

pub ascending-sorted : (paths : List (List ℕ)) → IsStrictlySortedBy bytes_cmp (ascending paths)
ascending-sorted paths = sorted_from (ascending paths) (ascending_is_the_set.rise paths)

pub value-ascending : (paths : List (List ℕ)) (f : List ℕ → Option Version) (q : List ℕ) → value_at (each (ascending paths) f) q ≡ cond (has paths q) (f q) None
value-ascending paths f q = value-each (ascending paths) f q ∙ ap (λ b. cond b (f q) None) (has-ascending paths q)
