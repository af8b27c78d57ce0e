-- The table of facts by name is that of the facts in any order.
use Rattle.std.proofs.Common.{◌≡◌, ℕ, ◌+◌, ◌<◌, Bool, true, false, cond, not, ◌&&◌, List, [], ◌∷◌, ◌++◌, length, map, take, get_or, refl, sym, ap, ◌∙◌}
use Rattle.std.specs.Prelude.{◌||◌}
use Rattle.std.specs.List.{list_any, filter, flat_map}
use Rattle.std.specs.Str.{bytes_eq}
use Rattle.std.specs.Cmp.Lexicographic.{bytes_decides}
use Rattle.std.proofs.lemmas.List.{take_more, append-nil}
use Rattle.std.proofs.lemmas.List.Concat.{flat_map-append}
use Rattle.std.proofs.lemmas.List.Elements.{filter_agree, filter-append}
use Rattle.std.proofs.lemmas.List.Folds.{list_any-append}
use Rattle.std.proofs.lemmas.List.Sorted.{list_any-IsPermutation, IsPermutation-map}
use Rattle.fsl_order.specs.Names.{has}
use Rattle.fsl_order.specs.Rows.{ascending, by_name, AreDistinct}
use Rattle.fsl_order.proofs.AscendingLemmas.{ascending-same, has-ascending}
use Rattle.fsl_order.proofs.MovedLemmas.{IsPermutation-by_name}
use Rattle.fsl_order.proofs.Booleans.{and_false}
use Rattle.fsl_cluster.specs.declared.Fact.{Fact}
use Rattle.fsl_cluster.specs.Clusters.{names, unclustered, missing}

-- ---- whether a name stands in what is made of a list

pub has-names : (p : Fact → Bool) (facts : List Fact) (q : List ℕ) → has (names (filter p facts)) q ≡ list_any (λ f. p f && bytes_eq q f.name) facts
has-names p [] q = refl
has-names p (f ∷ facts) q =
    elim (p f) as (λ b. has (names (cond b (f ∷ filter p facts) (filter p facts))) q ≡ ((b && bytes_eq q f.name) || list_any (λ f. p f && bytes_eq q f.name) facts)) [
      | true ↦ ap (λ b. bytes_eq q f.name || b) (has-names p facts q)
      | false ↦ has-names p facts q
    ]

pub has-flat_map : (g : Fact → List (List ℕ)) (facts : List Fact) (q : List ℕ) → has (flat_map g facts) q ≡ list_any (λ f. has (g f) q) facts
has-flat_map g [] q = refl
has-flat_map g (f ∷ facts) q = list_any-append (bytes_eq q) (g f) (flat_map g facts) ∙ ap (λ b. has (g f) q || b) (has-flat_map g facts q)

pub has-filter : (p : List ℕ → Bool) (xs : List (List ℕ)) (q : List ℕ) → has (filter p xs) q ≡ (has xs q && p q)
has-filter p [] q = refl
has-filter p (x ∷ xs) q =
    elim (bytes_eq q x) as (λ b. bytes_eq q x ≡ b → has (cond (p x) (x ∷ filter p xs) (filter p xs)) q ≡ ((b || has xs q) && p q)) [
      | true ↦ λ e. elim (p x) as (λ b. p x ≡ b → has (cond b (x ∷ filter p xs) (filter p xs)) q ≡ p q) [
        | true ↦ λ keeps. ap (λ b. b || has (filter p xs) q) e ∙ sym (ap p ((bytes_decides q x).0 e) ∙ keeps)
        | false ↦ λ drops.
            let none : p q ≡ false = ap p ((bytes_decides q x).0 e) ∙ drops in
            has-filter p xs q ∙ ap (λ b. has xs q && b) none ∙ and_false (has xs q) ∙ sym none
      ] refl
      | false ↦ λ e. elim (p x) as (λ b. has (cond b (x ∷ filter p xs) (filter p xs)) q ≡ (has xs q && p q)) [
        | true ↦ ap (λ b. b || has (filter p xs) q) e ∙ has-filter p xs q
        | false ↦ has-filter p xs q
      ]
    ] refl

-- ---- the order of the facts

abbrev named : Fact → List ℕ
named f = f.name

-- the facts by name
abbrev table : List Fact → List Fact
table facts = by_name named facts

moved_any : (p : Fact → Bool) (facts : List Fact) → AreDistinct (map named facts) → list_any p facts ≡ list_any p (table facts)
moved_any p facts distinct = list_any-IsPermutation p facts (table facts) (IsPermutation-by_name named facts distinct)

moved_flat_map : (g : Fact → List (List ℕ)) (facts : List Fact) → AreDistinct (map named facts) → (q : List ℕ) → has (flat_map g facts) q ≡ has (flat_map g (table facts)) q
moved_flat_map g facts distinct q = has-flat_map g facts q ∙ moved_any (λ f. has (g f) q) facts distinct ∙ sym (has-flat_map g (table facts) q)

moved_names : (facts : List Fact) → AreDistinct (map named facts) → (q : List ℕ) → has (names facts) q ≡ has (names (table facts)) q
moved_names facts distinct q =
    list_any-IsPermutation (bytes_eq q) (names facts) (names (table facts)) (IsPermutation-map named facts (table facts) (IsPermutation-by_name named facts distinct))

-- a public fact whose name is in no list of members
abbrev is_free : List Fact → Fact → Bool
is_free facts f = not f.private && not (has (flat_map (λ g. g.members) facts) f.name)

pub unclustered-by_name : (facts : List Fact) → AreDistinct (map named facts) → unclustered facts ≡ unclustered (table facts)
unclustered-by_name facts distinct =
    ascending-same (names (filter (is_free facts) facts)) (names (filter (is_free (table facts)) (table facts))) λ q.
    has-names (is_free facts) facts q ∙ moved_any (λ f. is_free facts f && bytes_eq q f.name) facts distinct ∙ sym (has-names (is_free facts) (table facts) q)
    ∙ ap (λ fs. has (names fs) q) (filter_agree (is_free facts) (is_free (table facts)) (λ f. ap (λ b. not f.private && not b) (moved_flat_map (λ g. g.members) facts distinct f.name)) (table facts))

pub missing-by_name : (facts : List Fact) → AreDistinct (map named facts) → missing facts ≡ missing (table facts)
missing-by_name facts distinct =
    ascending-same (filter (λ name. not (has (names facts) name)) (flat_map (λ f. f.refs) facts)) (filter (λ name. not (has (names (table facts)) name)) (flat_map (λ f. f.refs) (table facts))) λ q.
    has-filter (λ name. not (has (names facts) name)) (flat_map (λ f. f.refs) facts) q
    ∙ (λ i. moved_flat_map (λ f. f.refs) facts distinct q i && not (moved_names facts distinct q i))
    ∙ sym (has-filter (λ name. not (has (names (table facts)) name)) (flat_map (λ f. f.refs) (table facts)) q)

-- ---- the answers, from the sets that they are made of

pub free_names : (facts : List Fact) (members free : List (List ℕ)) → members ≡ ascending (flat_map (λ f. f.members) facts)
    → free ≡ ascending (names (filter (λ f. not f.private && not (has members f.name)) facts)) → free ≡ unclustered facts
free_names facts members free in_clusters made =
    made ∙ ap (λ fs. ascending (names fs)) (filter_agree (λ f. not f.private && not (has members f.name)) (is_free facts)
    (λ f. ap (λ b. not f.private && not b) (ap (λ set. has set f.name) in_clusters ∙ has-ascending (flat_map (λ g. g.members) facts) f.name)) facts)

pub absent_names : (facts : List Fact) (held : List ℕ → Bool) (absent : List (List ℕ)) → ((q : List ℕ) → held q ≡ has (names facts) q)
    → absent ≡ ascending (filter (λ name. not (held name)) (flat_map (λ f. f.refs) facts)) → absent ≡ missing facts
absent_names facts held absent is_held made =
    made ∙ ap ascending (filter_agree (λ name. not (held name)) (λ name. not (has (names facts) name)) (λ name. ap not (is_held name)) (flat_map (λ f. f.refs) facts))

-- ---- one element more in a loop

pub flat_map_next : {X Y : Type 0} (g : X → List Y) (xs : List X) (i : ℕ) (x : X) (all more : List Y) → i < length xs → x ≡ get_or xs i x → more ≡ g x → all ≡ flat_map g (take i xs) → all ++ more ≡ flat_map g (take (i + 1) xs)
flat_map_next g xs i x all more lt is made before =
    (λ j. before j ++ (made ∙ ap g is ∙ sym (append-nil (g (get_or xs i x)))) j)
    ∙ sym (flat_map-append g (take i xs) (get_or xs i x ∷ [])) ∙ ap (flat_map g) (sym (take_more xs i x lt))

pub filter_next : (p : List ℕ → Bool) (g : Fact → List (List ℕ)) (facts : List Fact) (i : ℕ) (f : Fact) (all more : List (List ℕ)) → i < length facts → f ≡ get_or facts i f → more ≡ g f
    → all ≡ filter p (flat_map g (take i facts)) → all ++ filter p more ≡ filter p (flat_map g (take (i + 1) facts))
filter_next p g facts i f all more lt is made before =
    ap (λ found. found ++ filter p more) before ∙ sym (filter-append p (flat_map g (take i facts)) more)
    ∙ ap (filter p) (flat_map_next g facts i f (flat_map g (take i facts)) more lt is made refl)
