-- Held artifacts and their items: what stands in a cluster, what is unclustered, and what is referred to.
use Rattle.std.specs.Prelude.{◌≡◌, ℕ, ◌||◌, ◌&&◌, Bool, true, false, not, cond, T, List, [], ◌∷◌, ◌++◌, map, filter, flat_map, Option, Some, None}
use Rattle.std.proofs.Common.{refl, sym, ap, subst, ◌∙◌}
use Rattle.std.specs.List.{AllZip}
use Rattle.std.specs.Str.{bytes_eq}
use Rattle.std.specs.Ordering.{eq_by_cmp, is_lt}
use Rattle.std.specs.FinMap.{find, is_sorted}
use Rattle.std.specs.FinMap.Entries.{below_all}
use Rattle.std.specs.Cmp.Lexicographic.{bytes_decides, texts_ties}
use Rattle.std.proofs.lemmas.Bool.{or_left, or_right}
use Rattle.std.proofs.lemmas.Cmp.{eq_by_cmp_equiv}
use Rattle.std.proofs.lemmas.List.Folds.{list_any-append}
use Rattle.fsl_order.specs.Names.{bytes_cmp, has}
use Rattle.fsl_order.proofs.Orders.{bytes_cmp-IsTotalOrder}
use Rattle.fsl_order.proofs.AscendingLemmas.{has-ascending}
use Rattle.fsl_artifact.specs.declared.Artifact.{Artifact}
use Rattle.fsl_artifact.specs.declared.Artifact.TheVariants.{Plain, Manifest, Cluster, Control, Wiki, Ticket, Attachment, Technote, Forum}
use Rattle.fsl_artifact.specs.Kind.{IsKind}
use Rattle.fsl_artifact.specs.References.{members, names_in, references}
use Rattle.fsl_artifact.proofs.OneKind.{one_artifact}
use Rattle.fsl_blobs.specs.Fold.{Held}
use Rattle.fsl_blobs.proofs.Totals.{none_below}
use Rattle.fsl_cluster.specs.declared.Fact.{Fact}
use Rattle.fsl_cluster.specs.Clusters.{names, unclustered}
use Rattle.fsl_cross.specs.declared.Item.{Item}
use Rattle.fsl_cross.specs.Facts.{cluster_fact}
use Rattle.fsl_repo.specs.Machine.{IsItemOf, unclustered_names}
use Rattle.laws_pulls.proofs.Gaining.{some_held, held_is, no_held, not_true}

abbrev Entries : Type 0
Entries = List (List ℕ × Held)

or_either : {P : Type 0} (a b : Bool) → (a || b) ≡ true → (a ≡ true → P) → (b ≡ true → P) → P
or_either true b e p q = p refl
or_either false b e p q = q e

first : (a b : Bool) → T (a && b) → T a
first true b p = tt
first false b p = p

second : (a b : Bool) → T (a && b) → T b
second true b p = p
second false b p = absurd p

-- ---- entries

-- the entry of this name is the first, or among the others
pub at_first : {P : Type 0} (e : List ℕ × Held) (es : Entries) (q : List ℕ) (v : Held) → find bytes_cmp q (e ∷ es) ≡ Some v → (q ≡ e.0 → v ≡ e.1 → P) → (find bytes_cmp q es ≡ Some v → P) → P
at_first {P = P} e es q v found here there = by (bytes_eq q e.0) refl
  where
    as_told : cond (bytes_eq q e.0) (Some e.1) (find bytes_cmp q es) ≡ Some v
    as_told = ap (λ (b : Bool). cond b (some_held e.1) (find bytes_cmp q es)) (texts_ties q e.0) ∙ found

    by : (b : Bool) → bytes_eq q e.0 ≡ b → P
    by true same = here ((bytes_decides q e.0).0 same) (held_is v e.1 (sym as_told ∙ ap (λ (b : Bool). cond b (some_held e.1) (find bytes_cmp q es)) same))
    by false other = there (sym (ap (λ (b : Bool). cond b (some_held e.1) (find bytes_cmp q es)) other) ∙ as_told)

-- and those that are found among the others are found
found_first : (e : List ℕ × Held) (es : Entries) → find bytes_cmp e.0 (e ∷ es) ≡ Some e.1
found_first e es = ap (λ (b : Bool). cond b (some_held e.1) (find bytes_cmp e.0 es)) ((eq_by_cmp_equiv bytes_cmp-IsTotalOrder).refl e.0)

found_later : (e : List ℕ × Held) (es : Entries) (q : List ℕ) (v : Held) → T (below_all bytes_cmp e.0 es) → find bytes_cmp q es ≡ Some v → find bytes_cmp q (e ∷ es) ≡ Some v
found_later e es q v below found = by (bytes_eq q e.0) refl
  where
    by : (b : Bool) → bytes_eq q e.0 ≡ b → find bytes_cmp q (e ∷ es) ≡ Some v
    by true same = no_held v (sym found ∙ ap (λ (n : List ℕ). find bytes_cmp n es) ((bytes_decides q e.0).0 same) ∙ none_below e.0 es below)
    by false other = ap (λ (b : Bool). cond b (some_held e.1) (find bytes_cmp q es)) (sym (texts_ties q e.0) ∙ other) ∙ found

-- ---- names in several lists

has_both : (xs ys : List (List ℕ)) (n : List ℕ) → has (xs ++ ys) n ≡ (has xs n || has ys n)
has_both xs ys n = list_any-append (bytes_eq n) xs ys

-- ---- what stands in a cluster

abbrev all_members : List Item → List (List ℕ)
all_members items = flat_map (λ (g : Fact). g.members) (map cluster_fact items)

-- a cluster among the entries
pub record Standing (es : Entries) (n : List ℕ) : Type 0 where
  pub cluster : List ℕ
  pub held : Held
  pub found : find bytes_cmp cluster es ≡ Some held
  pub artifact : Artifact
  pub kind : IsKind held.bytes artifact
  pub member : has (members artifact) n ≡ true

pub standing : (es : Entries) (items : List Item) (n : List ℕ) → T (is_sorted bytes_cmp es) → AllZip IsItemOf es items → has (all_members items) n ≡ true → Standing es n
standing [] [] n s a h = not_true h
standing [] (i ∷ items) n s a h = absurd a
standing (e ∷ es) [] n s a h = absurd a
standing (e ∷ es) (i ∷ items) n s a h =
    or_either (has (members i.artifact) n) (has (all_members items) n) (sym (has_both (members i.artifact) (all_members items) n) ∙ h)
    (λ here. record { cluster = e.0; held = e.1; found = found_first e es; artifact = i.artifact; kind = a.0.kind; member = here })
    (λ later.
    let more = standing es items n (second (below_all bytes_cmp e.0 es) (is_sorted bytes_cmp es) s) a.1 later in
    record {
      cluster = more.cluster;
      held = more.held;
      found = found_later e es more.cluster more.held (first (below_all bytes_cmp e.0 es) (is_sorted bytes_cmp es) s) more.found;
      artifact = more.artifact;
      kind = more.kind;
      member = more.member;
    })

-- ---- what is unclustered

module _ (p : Fact → Bool) (n : List ℕ) (passes : (f : Fact) → f.name ≡ n → f.private ≡ false → p f ≡ true) where
  abbrev Passing : List Item → Type 0
  Passing items = has (names (filter p (map cluster_fact items))) n ≡ true

  abbrev passing_with : Bool → Item → List Item → List (List ℕ)
  passing_with b i items = names (cond b (cluster_fact i ∷ filter p (map cluster_fact items)) (filter p (map cluster_fact items)))

  first_passes : (i : Item) (items : List Item) → i.name ≡ n → i.private ≡ false → Passing (i ∷ items)
  first_passes i items name public =
      ap (λ (b : Bool). has (passing_with b i items) n) (passes (cluster_fact i) name public)
      ∙ or_left (bytes_eq n i.name) (has (names (filter p (map cluster_fact items))) n) ((bytes_decides n i.name).1 (sym name))

  later_passes : (i : Item) (items : List Item) → Passing items → Passing (i ∷ items)
  later_passes i items h =
      elim (p (cluster_fact i)) as (λ b. has (passing_with b i items) n ≡ true) [
        | true ↦ or_right (bytes_eq n i.name) (has (names (filter p (map cluster_fact items))) n) h
        | false ↦ h
      ]

  passing : (es : Entries) (items : List Item) (v : Held) → AllZip IsItemOf es items → find bytes_cmp n es ≡ Some v → v.private ≡ false → Passing items
  passing [] items v a found public = no_held v (sym found)
  passing (e ∷ es) [] v a found public = absurd a
  passing (e ∷ es) (i ∷ items) v a found public =
      at_first e es n v found
      (λ name held. first_passes i items (a.0.name ∙ sym name) (a.0.private ∙ ap (λ (h : Held). h.private) (sym held) ∙ public))
      (λ later. later_passes i items (passing es items v a.1 later public))

pub is_unclustered : (es : Entries) (items : List Item) (n : List ℕ) (v : Held) → AllZip IsItemOf es items → find bytes_cmp n es ≡ Some v → v.private ≡ false → has (all_members items) n ≡ false
    → has (unclustered_names items) n ≡ true
is_unclustered es items n v a found public out =
    let facts = map cluster_fact items in
    let p : Fact → Bool = λ f. not f.private && not (has (flat_map (λ (g : Fact). g.members) facts) f.name) in
    has-ascending (names (filter p facts)) n
    ∙ passing p n (λ f name shown. ap (λ (b : Bool). not b && not (has (all_members items) f.name)) shown ∙ ap (λ (m : List ℕ). not (has (all_members items) m)) name ∙ ap not out) es items v a found public

-- ---- what is referred to

abbrev all_references : List Item → List (List ℕ)
all_references items = flat_map (λ (item : Item). references item.artifact) items

member_refers : (a : Artifact) (n : List ℕ) → has (members a) n ≡ true → has (names_in a) n ≡ true
member_refers Plain n h = not_true h
member_refers (Manifest m) n h = not_true h
member_refers (Cluster c) n h = h
member_refers (Control c) n h = not_true h
member_refers (Wiki w) n h = not_true h
member_refers (Ticket t) n h = not_true h
member_refers (Attachment x) n h = not_true h
member_refers (Technote t) n h = not_true h
member_refers (Forum f) n h = not_true h

pub is_referred : (es : Entries) (items : List Item) (cluster : List ℕ) (v : Held) (artifact : Artifact) (n : List ℕ) → AllZip IsItemOf es items → find bytes_cmp cluster es ≡ Some v → IsKind v.bytes artifact
    → has (members artifact) n ≡ true → has (all_references items) n ≡ true
is_referred [] items cluster v artifact n a found kind h = no_held v (sym found)
is_referred (e ∷ es) [] cluster v artifact n a found kind h = absurd a
is_referred (e ∷ es) (i ∷ items) cluster v artifact n a found kind h =
    at_first e es cluster v found
    (λ name held.
    let same : artifact ≡ i.artifact = one_artifact e.1.bytes artifact i.artifact (subst (λ (x : Held). IsKind x.bytes artifact) held kind) a.0.kind in
    has_both (references i.artifact) (all_references items) n
    ∙ or_left (has (references i.artifact) n) (has (all_references items) n)
    (has-ascending (names_in i.artifact) n ∙ member_refers i.artifact n (subst (λ (x : Artifact). has (members x) n ≡ true) same h)))
    (λ later.
    has_both (references i.artifact) (all_references items) n
    ∙ or_right (has (references i.artifact) n) (has (all_references items) n) (is_referred es items cluster v artifact n a.1 later kind h))
