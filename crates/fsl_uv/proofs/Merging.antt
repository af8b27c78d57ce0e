-- The laws of maps: the map of entries, and the merge of two maps.
use Rattle.std.specs.Prelude.{◌≡◌, ◌||◌, ◌<◌, ℕ, List, [], ◌∷◌, ◌++◌, Bool, true, false, cond, Option, Some, None, map, Contains, ◌⊎◌}
use Rattle.std.proofs.Common.{refl, sym, ap, ◌∙◌, subst, arith, inl, inr}
use Rattle.std.specs.List.{filter}
use Rattle.std.specs.Map.{keys_of}
use Rattle.std.specs.Ordering.{is_lt}
use Rattle.std.specs.Str.{bytes_eq}
use Rattle.std.specs.Cmp.Lexicographic.{texts_ties}
use Rattle.std.proofs.lemmas.List.Folds.{list_any-append}
use Rattle.std.proofs.lemmas.List.Elements.{Contains-append_left, Contains-append_right, Contains-push, Contains-push_cases, Contains-append_cases}
use Rattle.fsl_order.specs.Names.{has}
use Rattle.fsl_order.specs.Rows.{ascending, greater, greatest}
use Rattle.fsl_order.specs.Maps.{value_at}
use Rattle.fsl_order.proofs.GreatestLemmas.{greatest-alike, greater-assoc, greater-none, greatest-append}
use Rattle.fsl_uv.specs.declared.Entry.{Entry}
use Rattle.fsl_uv.specs.Entries.{Version, version_of}
use Rattle.fsl_uv.specs.Maps.{version_cmp, versions, newest, uv, greater_at, merge}
use Rattle.fsl_uv.specs.Laws.{Rises, UvIsTheNewest, MergeIsTheGreater, IsForTheSet, MergesInAnyOrder, UvOfBothIsMerge}
use Rattle.fsl_uv.proofs.Versions.{version_cmp-IsTotalOrder, ties_are_same}
use Rattle.fsl_uv.proofs.Mapped.{same_map, value-ascending, rises-each, ascending-sorted}

abbrev Map : Type 0
Map = List (List ℕ × Version)

-- ---- the map of entries

-- a path that no entry has, has no version
none-newest : (entries : List Entry) (q : List ℕ) → cond (has (map (λ e. e.path) entries) q) (newest entries q) None ≡ newest entries q
none-newest entries q = by (has (map (λ e. e.path) entries) q) refl
  where
    empty : (es : List Entry) → has (map (λ e. e.path) es) q ≡ false → filter (λ (e : Entry). bytes_eq q e.path) es ≡ []
    empty [] h = refl
    empty (e ∷ es) h =
        elim (bytes_eq q e.path) as (λ b. (b || has (map (λ e. e.path) es) q) ≡ false → cond b (e ∷ filter (λ (e : Entry). bytes_eq q e.path) es) (filter (λ (e : Entry). bytes_eq q e.path) es) ≡ []) [
          | true ↦ λ k. absurd cc
          | false ↦ λ k. empty es k
        ] h

    by : (b : Bool) → has (map (λ e. e.path) entries) q ≡ b → cond b (newest entries q) None ≡ newest entries q
    by true h = refl
    by false h = sym (ap (λ (es : List Entry). greatest version_cmp (map version_of es)) (empty entries h))

pub value-uv : (entries : List Entry) (q : List ℕ) → value_at (uv entries) q ≡ newest entries q
value-uv entries q = value-ascending (map (λ e. e.path) entries) (newest entries) q ∙ none-newest entries q

pub rises-uv : (entries : List Entry) → Rises (uv entries)
rises-uv entries = rises-each (ascending (map (λ e. e.path) entries)) (newest entries) (ascending-sorted (map (λ e. e.path) entries))

pub uv_is_the_newest : UvIsTheNewest
uv_is_the_newest = record {
  rises = rises-uv;
  at = value-uv;
  only = λ entries m up h. same_map m (uv entries) up (rises-uv entries) (λ q. h q ∙ sym (value-uv entries q));
}

-- ---- the merge

-- a key that a map lacks has no value in it
none-value : (m : Map) (q : List ℕ) → has (keys_of m) q ≡ false → value_at m q ≡ None
none-value [] q h = refl
none-value (e ∷ m) q h =
    ap (λ b. cond b (Some e.1) (value_at m q)) (sym (texts_ties q e.0))
    ∙ elim (bytes_eq q e.0) as (λ b. (b || has (keys_of m) q) ≡ false → cond b (Some e.1) (value_at m q) ≡ None) [
      | true ↦ λ k. absurd cc
      | false ↦ λ k. none-value m q k
    ] h

none-greater : (u v : Map) (q : List ℕ) → cond (has (keys_of u ++ keys_of v) q) (greater_at u v q) None ≡ greater_at u v q
none-greater u v q = by (has (keys_of u) q) (has (keys_of v) q) refl refl
  where
    both : has (keys_of u ++ keys_of v) q ≡ (has (keys_of u) q || has (keys_of v) q)
    both = list_any-append (bytes_eq q) (keys_of u) (keys_of v)

    by : (a b : Bool) → has (keys_of u) q ≡ a → has (keys_of v) q ≡ b → cond (has (keys_of u ++ keys_of v) q) (greater_at u v q) None ≡ greater_at u v q
    by true b h k = ap (λ c. cond c (greater_at u v q) None) (both ∙ ap (λ c. c || has (keys_of v) q) h)
    by false true h k = ap (λ c. cond c (greater_at u v q) None) (both ∙ ap (λ c. c || has (keys_of v) q) h ∙ k)
    by false false h k =
        ap (λ c. cond c (greater_at u v q) None) (both ∙ ap (λ c. c || has (keys_of v) q) h ∙ k)
        ∙ sym (λ i. greater version_cmp (none-value u q h i) (none-value v q k i))

pub value-merge : (u v : Map) (q : List ℕ) → value_at (merge u v) q ≡ greater_at u v q
value-merge u v q = value-ascending (keys_of u ++ keys_of v) (greater_at u v) q ∙ none-greater u v q

pub rises-merge : (u v : Map) → Rises (merge u v)
rises-merge u v = rises-each (ascending (keys_of u ++ keys_of v)) (greater_at u v) (ascending-sorted (keys_of u ++ keys_of v))

pub only-merge : (u v m : Map) → Rises m → ((q : List ℕ) → value_at m q ≡ greater_at u v q) → m ≡ merge u v
only-merge u v m up h = same_map m (merge u v) up (rises-merge u v) (λ q. h q ∙ sym (value-merge u v q))

pub merges_to_the_greater : MergeIsTheGreater
merges_to_the_greater = record { rises = rises-merge; at = value-merge; only = only-merge }

-- ---- the greater of two

abbrev pub most : Option Version → Option Version → Option Version
most = greater version_cmp

pub most-assoc : (a b c : Option Version) → most a (most b c) ≡ most (most a b) c
most-assoc a b c = greater-assoc version_cmp version_cmp-IsTotalOrder a b c

-- the greatest of two lists with the same elements is the same
alike : (xs ys : List Version) → ((x : Version) → Contains xs x → Contains ys x) → ((x : Version) → Contains ys x → Contains xs x) → greatest version_cmp xs ≡ greatest version_cmp ys
alike xs ys to back = greatest-alike version_cmp version_cmp-IsTotalOrder xs ys (λ x y _ _ e. ties_are_same x y e) to back

abbrev listed : Option Version → List Version
listed None = []
listed (Some v) = v ∷ []

greatest-listed : (a : Option Version) → greatest version_cmp (listed a) ≡ a
greatest-listed None = refl
greatest-listed (Some v) = refl

of-both : (a b : Option Version) → most a b ≡ greatest version_cmp (listed a ++ listed b)
of-both a b = (λ i. most (sym (greatest-listed a) i) (sym (greatest-listed b) i)) ∙ sym (greatest-append version_cmp version_cmp-IsTotalOrder (listed a) (listed b))

swapped : (xs ys : List Version) (x : Version) → Contains (xs ++ ys) x → Contains (ys ++ xs) x
swapped xs ys x c = by (Contains-append_cases xs ys x c)
  where
    by : Contains xs x ⊎ Contains ys x → Contains (ys ++ xs) x
    by (inl h) = Contains-append_right ys xs x h
    by (inr h) = Contains-append_left ys xs x h

pub most-comm : (a b : Option Version) → most a b ≡ most b a
most-comm a b = of-both a b ∙ alike (listed a ++ listed b) (listed b ++ listed a) (swapped (listed a) (listed b)) (swapped (listed b) (listed a)) ∙ sym (of-both b a)

pub most-same : (a : Option Version) → most a a ≡ a
most-same None = refl
most-same (Some v) = elim (is_lt (version_cmp v v)) as (λ b. Some (cond b v v) ≡ Some v) [ true ↦ refl | false ↦ refl ]

-- ---- merging in any order

pub merges_in_any_order : MergesInAnyOrder
merges_in_any_order = record {
  associative = λ u v w.
      only-merge (merge u v) w (merge u (merge v w)) (rises-merge u (merge v w))
      (λ q. value-merge u (merge v w) q ∙ ap (most (value_at u q)) (value-merge v w q) ∙ most-assoc (value_at u q) (value_at v q) (value_at w q)
      ∙ ap (λ o. most o (value_at w q)) (sym (value-merge u v q)));
  commutative = λ u v. only-merge v u (merge u v) (rises-merge u v) (λ q. value-merge u v q ∙ most-comm (value_at u q) (value_at v q));
  idempotent = λ u up. sym (only-merge u u u up (λ q. sym (most-same (value_at u q))));
  none = λ u up. sym (only-merge u [] u up (λ q. sym (greater-none version_cmp version_cmp-IsTotalOrder (value_at u q))));
}

-- ---- entries in any order, and however often

none-contained : {X : Type 0} (x : X) → Contains [] x → ⊥
none-contained x c = below_zero c.0 c.1
  where
    below_zero : (k : ℕ) → k < 0 → ⊥
    below_zero k h = omega (arith, h)

first-or-later : {X : Type 0} (x : X) (xs : List X) (y : X) → Contains (x ∷ xs) y → (x ≡ y) ⊎ Contains xs y
first-or-later x xs y c = by (Contains-append_cases (x ∷ []) xs y c)
  where
    one : Contains [] y ⊎ (x ≡ y) → (x ≡ y) ⊎ Contains xs y
    one (inl none) = absurd (none-contained y none)
    one (inr same) = inl same

    by : Contains (x ∷ []) y ⊎ Contains xs y → (x ≡ y) ⊎ Contains xs y
    by (inl h) = one (Contains-push_cases [] x y h)
    by (inr h) = inr h

contains-first : {X : Type 0} (x : X) (xs : List X) → Contains (x ∷ xs) x
contains-first x xs = Contains-append_left (x ∷ []) xs x (Contains-push [] x)

contains-later : {X : Type 0} (x : X) (xs : List X) (y : X) → Contains xs y → Contains (x ∷ xs) y
contains-later x xs y c = Contains-append_right (x ∷ []) xs y c

abbrev of_path : List ℕ → List Entry → List Entry
of_path q es = filter (λ (e : Entry). bytes_eq q e.path) es

abbrev Said : List Entry → List ℕ → Version → Type 0
Said a q x = (e : Entry) × Contains a e × (bytes_eq q e.path ≡ true) × (version_of e ≡ x)

said-later : (e : Entry) (a : List Entry) (q : List ℕ) (x : Version) → Said a q x → Said (e ∷ a) q x
said-later e a q x s = (s.0, contains-later e a s.0 s.1, s.2, s.3)

versions-in : (a : List Entry) (q : List ℕ) (x : Version) → Contains (versions a q) x → Said a q x
versions-in [] q x c = absurd (none-contained x c)
versions-in (e ∷ a) q x c =
    elim (bytes_eq q e.path) as (λ b. bytes_eq q e.path ≡ b → Contains (map version_of (cond b (e ∷ of_path q a) (of_path q a))) x → Said (e ∷ a) q x) [
      | true ↦ λ h k. by h (λ later. versions-in a q x later) (first-or-later (version_of e) (versions a q) x k)
      | false ↦ λ h k. said-later e a q x (versions-in a q x k)
    ] refl c
  where
    by : bytes_eq q e.path ≡ true → (Contains (versions a q) x → Said a q x) → (version_of e ≡ x) ⊎ Contains (versions a q) x → Said (e ∷ a) q x
    by h more (inl same) = (e, contains-first e a, h, same)
    by h more (inr later) = said-later e a q x (more later)

in-versions : (a : List Entry) (q : List ℕ) (e : Entry) → Contains a e → bytes_eq q e.path ≡ true → Contains (versions a q) (version_of e)
in-versions [] q e c h = absurd (none-contained e c)
in-versions (f ∷ a) q e c h = by (λ k. in-versions a q e k h) (first-or-later f a e c)
  where
    later : Contains (versions a q) (version_of e) → (b : Bool) → Contains (map version_of (cond b (f ∷ of_path q a) (of_path q a))) (version_of e)
    later k true = contains-later (version_of f) (versions a q) (version_of e) k
    later k false = k

    here : (b : Bool) → b ≡ true → f ≡ e → Contains (map version_of (cond b (f ∷ of_path q a) (of_path q a))) (version_of e)
    here true t same = subst (λ v. Contains (version_of f ∷ versions a q) v) (ap version_of same) (contains-first (version_of f) (versions a q))
    here false t same = absurd cc

    by : (Contains a e → Contains (versions a q) (version_of e)) → (f ≡ e) ⊎ Contains a e → Contains (versions (f ∷ a) q) (version_of e)
    by more (inl same) = here (bytes_eq q f.path) (ap (λ (g : Entry). bytes_eq q g.path) same ∙ h) same
    by more (inr k) = later (more k) (bytes_eq q f.path)

newest-same : (a b : List Entry) → ((e : Entry) → Contains a e → Contains b e) → ((e : Entry) → Contains b e → Contains a e) → (q : List ℕ) → newest a q ≡ newest b q
newest-same a b to back q = alike (versions a q) (versions b q) (over a b to) (over b a back)
  where
    over : (a b : List Entry) → ((e : Entry) → Contains a e → Contains b e) → (x : Version) → Contains (versions a q) x → Contains (versions b q) x
    over a b to x c = let s = versions-in a q x c in subst (Contains (versions b q)) s.3 (in-versions b q s.0 (to s.0 s.1) s.2)

pub same_for_the_set : IsForTheSet
same_for_the_set a b to back = same_map (uv a) (uv b) (rises-uv a) (rises-uv b) (λ q. value-uv a q ∙ newest-same a b to back q ∙ sym (value-uv b q))

-- ---- entries and further ones

versions-append : (a b : List Entry) (q : List ℕ) → versions (a ++ b) q ≡ versions a q ++ versions b q
versions-append [] b q = refl
versions-append (e ∷ a) b q =
    elim (bytes_eq q e.path) as (λ t. map version_of (cond t (e ∷ filter (λ (e : Entry). bytes_eq q e.path) (a ++ b)) (filter (λ (e : Entry). bytes_eq q e.path) (a ++ b))) ≡ map version_of (cond t (e ∷ filter (λ (e : Entry). bytes_eq q e.path) a) (filter (λ (e : Entry). bytes_eq q e.path) a)) ++ versions b q) [
      | true ↦ ap (λ vs. version_of e ∷ vs) (versions-append a b q)
      | false ↦ versions-append a b q
    ]

pub newest-append : (a b : List Entry) (q : List ℕ) → newest (a ++ b) q ≡ most (newest a q) (newest b q)
newest-append a b q = ap (greatest version_cmp) (versions-append a b q) ∙ greatest-append version_cmp version_cmp-IsTotalOrder (versions a q) (versions b q)

pub uv_of_both_is_merge : UvOfBothIsMerge
uv_of_both_is_merge a b =
    only-merge (uv a) (uv b) (uv (a ++ b)) (rises-uv (a ++ b))
    (λ q. value-uv (a ++ b) q ∙ newest-append a b q ∙ sym (λ i. most (value-uv a q i) (value-uv b q i)))
