-- Artifacts of a set, one more of them, and one that becomes public.
use Rattle.std.proofs.Common.{◌≡◌, ℕ, Bool, true, false, cond, not, List, [], ◌∷◌, ◌++◌, length, ◌+◌, map, Some, None, refl, sym, ap, subst, ◌∙◌}
use Rattle.std.specs.Prelude.{T, ◌&&◌, ◌||◌, filter, flat_map, sum_by}
use Rattle.std.specs.List.{AllZip, AllByRecursion, IsDistinct, list_any}
use Rattle.std.specs.Str.{bytes_eq}
use Rattle.std.specs.Ordering.{is_eq}
use Rattle.std.specs.declared.cmp.Ordering.TheVariants.{Less, Equal, Greater}
use Rattle.std.specs.Prelude.{IsPermutation}
use Rattle.std.specs.FinMap as map_of
use Rattle.std.specs.FinMap.{put, find, is_sorted}
use Rattle.std.specs.FinMap.Entries.{by_order, below_all}
use Rattle.std.specs.FinSet as set
use Rattle.std.proofs.lemmas.List.Elements.{filter_agree}
use Rattle.std.proofs.lemmas.List.Sums.{sum_by-cons}
use Rattle.std.proofs.lemmas.List.Sorted.{list_any-IsPermutation, IsPermutation-map}
use Rattle.std.proofs.lemmas.Bool.{or_parts}
use Rattle.fsl_order.specs.Names.{bytes_cmp, has}
use Rattle.fsl_order.specs.Rows.{ascending, AreDistinct}
use Rattle.fsl_order.proofs.Orders.{bytes_cmp-IsTotalOrder}
use Rattle.fsl_order.proofs.RowLemmas.{has-filter}
use Rattle.fsl_order.proofs.AscendingLemmas.{has-ascending}
use Rattle.fsl_order.proofs.MovedLemmas.{IsPermutation-by_name}
use Rattle.fsl_artifact.specs.Kind.{IsKind}
use Rattle.fsl_artifact.specs.References.{references}
use Rattle.fsl_artifact.proofs.OneKind.{one_artifact}
use Rattle.fsl_blobs.specs.Fold.{Held, HeldSet, held_bytes}
use Rattle.fsl_blobs.proofs.Totals.{front_first, front_second, below_less, none_below}
use Rattle.fsl_cluster.specs.declared.Fact.{Fact}
use Rattle.fsl_cluster.specs.Clusters.{names, missing, wants}
use Rattle.fsl_cluster.proofs.FactLemmas.{has-flat_map}
use Rattle.fsl_cross.specs.declared.Item.{Item}
use Rattle.fsl_cross.specs.Facts.{cluster_fact}
use Rattle.fsl_cross.specs.Tables.{with_item}
use Rattle.fsl_repo.specs.Machine.{AreItems, IsItemOf}
use Rattle.fsl_repo.proofs.ItemLemmas.{same_names, items_differ}
use Rattle.fsl_repo.proofs.HeldMore.{any_alike, absent_items, items_more}
use Rattle.fsl_repo.proofs.Storing.{wants_by}
use Rattle.fossil.specs.Taking.{IsFactOf}

abbrev pub facts_of : List Item → List Fact
facts_of items = map cluster_fact items

-- ---- wanted names

-- a name is missing where it is referred to and not held
missing_is : (facts : List Fact) (q : List ℕ) → has (missing facts) q ≡ (has (flat_map (λ f. f.refs) facts) q && not (has (names facts) q))
missing_is facts q =
    has-ascending (filter (λ name. not (has (names facts) name)) (flat_map (λ f. f.refs) facts)) q
    ∙ has-filter (λ name. not (has (names facts) name)) (flat_map (λ f. f.refs) facts) q

-- the same, by each fact
missing_by : (facts : List Fact) (q : List ℕ) → has (missing facts) q ≡ (list_any (λ f. has f.refs q) facts && not (has (names facts) q))
missing_by facts q = missing_is facts q ∙ ap (λ (b : Bool). b && not (has (names facts) q)) (has-flat_map (λ f. f.refs) facts q)

-- in whatever order the facts stand
missing_moved : (xs ys : List Fact) (q : List ℕ) → IsPermutation xs ys → has (missing xs) q ≡ has (missing ys) q
missing_moved xs ys q moved =
    missing_by xs q
    ∙ (λ i. list_any-IsPermutation (λ (f : Fact). has f.refs q) xs ys moved i && not (list_any-IsPermutation (bytes_eq q) (names xs) (names ys) (IsPermutation-map (λ (f : Fact). f.name) xs ys moved) i))
    ∙ sym (missing_by ys q)

-- where no name is shunned, the missing names are wanted
pub none_shunned : (facts : List Fact) → wants facts (set.items (set.empty {R = bytes_cmp})) ≡ missing facts
none_shunned facts =
    sym (wants_by facts set.empty) ∙ filter_agree (λ name. not (set.contains (set.empty {R = bytes_cmp}) name)) (λ name. true) (λ name. ap not (set.contains-empty bytes_cmp name)) (missing facts) ∙ all (missing facts)
  where
    all : (xs : List (List ℕ)) → filter (λ name. true) xs ≡ xs
    all [] = refl
    all (x ∷ xs) = ap (λ (ys : List (List ℕ)). x ∷ ys) (all xs)

-- ---- names

names_are : (items : List Item) → names (facts_of items) ≡ map (λ i. i.name) items
names_are [] = refl
names_are (i ∷ items) = ap (λ (ns : List (List ℕ)). i.name ∷ ns) (names_are items)

-- the names of the items are those that are held
pub names_held : (held : HeldSet) (items : List Item) (q : List ℕ) → AreItems held items → has (names (facts_of items)) q ≡ map_of.contains_key held q
names_held held items q are =
    ap (λ (ns : List (List ℕ)). has ns q) (names_are items ∙ same_names (map_of.entries held) items are)
    ∙ any_alike q (map_of.keys held) ∙ sym (map_of.contains_key-keys held q)

-- ---- one artifact more

none_of : (q : List ℕ) (xs : List (List ℕ)) → has xs q ≡ false → AllByRecursion (λ n. bytes_eq q n ≡ false) xs
none_of q [] h = tt
none_of q (x ∷ xs) h = let both = or_parts (bytes_eq q x) (has xs q) h in (both.0, none_of q xs both.1)

apart : (item : Item) (items : List Item) → has (map (λ i. i.name) items) item.name ≡ false → AreDistinct (map (λ i. i.name) items) → AreDistinct (map (λ i. i.name) (item ∷ items))
unfolding IsDistinct
apart item items absent distinct = (none_of item.name (map (λ i. i.name) items) absent, distinct)

more_by : (e r refs held : Bool) → cond e false ((refs && not held) || (r && not held)) ≡ ((r || refs) && not (e || held))
more_by true true refs held = refl
more_by true false true held = refl
more_by true false false held = refl
more_by false true true true = refl
more_by false true true false = refl
more_by false true false true = refl
more_by false true false false = refl
more_by false false true true = refl
more_by false false true false = refl
more_by false false false true = refl
more_by false false false false = refl

module _ (held : HeldSet) (items : List Item) (are : AreItems held items) (item : Item) (a : Held) (fits : IsItemOf (item.name, a) item) (absent : map_of.get held item.name ≡ None) where
  pub items_with : AreItems (map_of.insert held item.name a) (with_item item items)
  items_with = items_more held items item.name a item are fits

  -- what is wanted with it: what it refers to and what was wanted, less its own name and what is held
  pub missing_with : (q : List ℕ) → cond (bytes_eq q item.name) false (has (missing (facts_of items)) q || (has (cluster_fact item).refs q && not (map_of.contains_key held q))) ≡ has (missing (facts_of (with_item item items))) q
  missing_with q =
      let facts = facts_of items in
      let distinct = apart item items (absent_items held items item.name are absent) (items_differ held items are) in
      let moved : IsPermutation (facts_of (item ∷ items)) (facts_of (with_item item items)) =
      IsPermutation-map cluster_fact (item ∷ items) (with_item item items) (IsPermutation-by_name (λ (i : Item). i.name) (item ∷ items) distinct) in
      (λ i. cond (bytes_eq q item.name) false (missing_by facts q i || (has (cluster_fact item).refs q && not (sym (names_held held items q are) i))))
      ∙ more_by (bytes_eq q item.name) (has (cluster_fact item).refs q) (list_any (λ f. has f.refs q) facts) (has (names facts) q)
      ∙ sym (missing_by (facts_of (item ∷ items)) q) ∙ missing_moved (facts_of (item ∷ items)) (facts_of (with_item item items)) q moved

-- ---- an artifact that becomes public

abbrev pub public : Held → Held
public a = record { private = false; bytes = a.bytes }

-- two entries of one name with the same bytes
abbrev AreSame : List ℕ × Held → List ℕ × Held → Type 0
AreSame e f = (e.0 ≡ f.0) × (e.1.bytes ≡ f.1.bytes)

same_all : (es : List (List ℕ × Held)) → AllZip AreSame es es
same_all [] = tt
same_all (e ∷ es) = ((refl, refl), same_all es)

-- an entry that becomes public keeps its name and its bytes
same_public : (name : List ℕ) (a : Held) (es : List (List ℕ × Held)) → T (is_sorted bytes_cmp es) → find bytes_cmp name es ≡ Some a → AllZip AreSame (put bytes_cmp name (public a) es) es
same_public name a [] rise found = absurd cc
same_public name a (e ∷ es) rise found =
    let under = front_first (below_all bytes_cmp e.0 es) (is_sorted bytes_cmp es) rise in
    elim (bytes_cmp name e.0) as (λ r. bytes_cmp name e.0 ≡ r → cond (is_eq r) (Some e.1) (find bytes_cmp name es) ≡ Some a
    → AllZip AreSame (by_order r ((name, public a) ∷ e ∷ es) ((e.0, public a) ∷ es) (e ∷ put bytes_cmp name (public a) es)) (e ∷ es)) [
      | Less ↦ λ p h. let none = none_below name es (below_less name e.0 es p under) in absurd cc
      | Equal ↦ λ p h. let same : e.1 ≡ a = cc in ((refl, ap (λ (x : Held). x.bytes) (sym same)), same_all es)
      | Greater ↦ λ p h. ((refl, refl), same_public name a es (front_second (below_all bytes_cmp e.0 es) (is_sorted bytes_cmp es) rise) h)
    ] refl found

-- and so all have as many bytes as before
same_sizes : (es fs : List (List ℕ × Held)) → AllZip AreSame fs es → sum_by (λ (a : Held). length a.bytes) (map (λ e. e.1) fs) ≡ sum_by (λ (a : Held). length a.bytes) (map (λ e. e.1) es)
same_sizes [] [] same = refl
same_sizes [] (f ∷ fs) same = absurd same
same_sizes (e ∷ es) [] same = absurd same
same_sizes (e ∷ es) (f ∷ fs) same =
    let size = λ (a : Held). length a.bytes in
    let rest = same_sizes es fs same.1 in
    sum_by-cons size f.1 (map (λ e. e.1) fs) ∙ (λ i. length (same.0.1 i) + rest i) ∙ sym (sum_by-cons size e.1 (map (λ e. e.1) es))

pub bytes_published : (held : HeldSet) (name : List ℕ) (a : Held) → map_of.get held name ≡ Some a → held_bytes (map_of.insert held name (public a)) ≡ held_bytes held
bytes_published held name a there =
    ap (λ (es : List (List ℕ × Held)). sum_by (λ (x : Held). length x.bytes) (map (λ e. e.1) es)) (map_of.entries-insert bytes_cmp-IsTotalOrder held name (public a))
    ∙ same_sizes (map_of.entries held) (put bytes_cmp name (public a) (map_of.entries held))
    (same_public name a (map_of.entries held) (map_of.entries_sorted held) (sym (map_of.get-entries held name) ∙ there))

-- what is held and what is referred to
abbrev parts : List Item → List (List ℕ) × List (List ℕ)
parts items = (names (facts_of items), flat_map (λ f. f.refs) (facts_of items))

same_parts : (es fs : List (List ℕ × Held)) (items more : List Item) → AllZip AreSame fs es → AllZip IsItemOf es items → AllZip IsItemOf fs more → parts more ≡ parts items
same_parts [] [] [] [] same are also = refl
same_parts [] [] [] (y ∷ more) same are also = absurd also
same_parts [] [] (x ∷ items) more same are also = absurd are
same_parts [] (f ∷ fs) items more same are also = absurd same
same_parts (e ∷ es) [] items more same are also = absurd same
same_parts (e ∷ es) (f ∷ fs) [] more same are also = absurd are
same_parts (e ∷ es) (f ∷ fs) (x ∷ items) [] same are also = absurd also
same_parts (e ∷ es) (f ∷ fs) (x ∷ items) (y ∷ more) same are also =
    let name : y.name ≡ x.name = also.0.name ∙ same.0.0 ∙ sym are.0.name in
    let kind : y.artifact ≡ x.artifact = one_artifact f.1.bytes y.artifact x.artifact also.0.kind (subst (λ (bytes : List ℕ). IsKind bytes x.artifact) (sym same.0.1) are.0.kind) in
    let rest = same_parts es fs items more same.1 are.1 also.1 in
    λ i. (name i ∷ (rest i).0, references (kind i) ++ (rest i).1)

-- the same names are missing after it
pub missing_published : (held : HeldSet) (name : List ℕ) (a : Held) (items more : List Item) → map_of.get held name ≡ Some a → AreItems held items → AreItems (map_of.insert held name (public a)) more → missing (facts_of more) ≡ missing (facts_of items)
missing_published held name a items more there are also =
    let grown : AllZip IsItemOf (put bytes_cmp name (public a) (map_of.entries held)) more = subst (λ (es : List (List ℕ × Held)). AllZip IsItemOf es more) (map_of.entries-insert bytes_cmp-IsTotalOrder held name (public a)) also in
    let same = same_parts (map_of.entries held) (put bytes_cmp name (public a) (map_of.entries held)) items more
    (same_public name a (map_of.entries held) (map_of.entries_sorted held) (sym (map_of.get-entries held name) ∙ there)) are grown in
    λ i. ascending (filter (λ q. not (has (same i).0 q)) (same i).1)

-- ---- the facts of held artifacts

pub items_of_facts : (entries : List (List ℕ × Held)) (facts : List Fact) → AllZip IsFactOf entries facts → (items : List Item) × AllZip IsItemOf entries items × (facts ≡ facts_of items)
items_of_facts [] [] all = ([], tt, refl)
items_of_facts [] (f ∷ facts) all = absurd all
items_of_facts (e ∷ entries) [] all = absurd all
items_of_facts (e ∷ entries) (f ∷ facts) all =
    let one = all.0 in
    let more = items_of_facts entries facts all.1 in
    (one.0 ∷ more.0, (one.1, more.1), λ i. one.2 i ∷ more.2 i)
