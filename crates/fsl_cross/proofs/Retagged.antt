-- Leaves and rows of check-ins whose tags change.
use Rattle.std.proofs.Common.{◌≡◌, ℕ, true, false, ◌&&◌, List, [], ◌∷◌, Bool, Option, Some, None, map, not, refl, sym, ap, ◌∙◌, subst}
use Rattle.std.specs.Prelude.{is_some, option_map, option_and_then, unwrap_or, codes, OnOk, Result}
use Rattle.std.specs.List.{cons_option}
use Rattle.std.specs.Str.{bytes_eq}
use Rattle.std.proofs.lemmas.Bool.{or_parts}
use Rattle.fsl_order.specs.TableState.{TableState, Change}
use Rattle.fsl_order.specs.Names.{has}
use Rattle.fsl_order.specs.Rows.{by_name, named}
use Rattle.fsl_manifest.specs.declared.Manifest.{Manifest}
use Rattle.fsl_artifact.specs.declared.Artifact.{Artifact}
use Rattle.fsl_artifact.specs.declared.Artifact.TheVariants as kind
use Rattle.fsl_tags.specs.declared.Fact as tags
use Rattle.fsl_tags.specs.declared.Assertion.{Assertion}
use Rattle.fsl_tags.specs.Tags.{tags_row, effective, only, cancels}
use Rattle.fsl_tags.specs.Laws.{EffectiveByRow}
use Rattle.fsl_leaves.specs.declared.Fact as leaves
use Rattle.fsl_timeline.specs.declared.Row.{Row}
use Rattle.fsl_timeline.specs.declared.RowKind.TheVariants as row
use Rattle.fsl_date.specs.Moment.{date_in}
use Rattle.fsl_cross.specs.declared.Item.{Item}
use Rattle.fsl_cross.specs.Facts.{as_manifest, parent_names}
use Rattle.fsl_cross.specs.Checkins.{tags_facts, checkin, branch}
use Rattle.fsl_cross.specs.Tables.{leaves_fact, leaves_facts, timeline_rows, timeline_row_of, without}
use Rattle.fsl_cross.specs.Inside.{checkin_row, leaves_fact_over}
use Rattle.fsl_cross.specs.Mixed.{IsMixture, GoesOn, leaves_mixed, rows_mixed, timeline_row, pushed, is_other_checkin, all_changed}
use Rattle.fsl_cross.specs.Trails.{Leads, TagsTold}
use Rattle.fsl_cross.proofs.Moved.{item_name}
use Rattle.fsl_cross.proofs.FactLemmas.{Rise, leaves_own}
use Rattle.fsl_cross.proofs.TableLemmas.{row-own}
use Rattle.fsl_cross.proofs.Sets.{mixed-end}
use Rattle.fsl_cross.proofs.Added.{given-absent, mixed-added}
use Rattle.fsl_cross.proofs.Mapped.{named-has}
use Rattle.fsl_cross.proofs.Gifts.{behind, if_some, gift-behind, gift-next, gift-there}
use Rattle.fsl_cross.proofs.Going.{goes-stay, goes-put}
use Rattle.fsl_cross.proofs.Pushing.{pushed-before, pushed-out, told-same}

-- a check-in, and nothing else, gives a leaf's fact
leaf_some : (b : List ℕ) (item : Item) → is_some (option_map (λ m. let g : leaves.Fact = record { name = item.name; parents = parent_names m; branch = b } in g) (as_manifest item.artifact)) ≡ is_some (as_manifest item.artifact)
leaf_some b item = elim (as_manifest item.artifact) as (λ o. is_some (option_map (λ m. let g : leaves.Fact = record { name = item.name; parents = parent_names m; branch = b } in g) o) ≡ is_some o) [ None ↦ refl | Some m ↦ refl ]

-- the row of a check-in
pub row-checkin : (items : List Item) (name : List ℕ) (a : Artifact) (m : Manifest) → as_manifest a ≡ Some m → timeline_row_of items name a ≡ Some (checkin_row (tags_facts items) name m)
row-checkin items name (kind.Manifest w) m e = ap (λ m. Some (checkin_row (tags_facts items) name m)) (inside e)
  where
    inside : Some w ≡ Some m → w ≡ m
    inside r = cc
row-checkin items name kind.Plain m e = cc
row-checkin items name (kind.Cluster w) m e = cc
row-checkin items name (kind.Control w) m e = cc
row-checkin items name (kind.Wiki w) m e = cc
row-checkin items name (kind.Ticket w) m e = cc
row-checkin items name (kind.Attachment w) m e = cc
row-checkin items name (kind.Technote w) m e = cc
row-checkin items name (kind.Forum w) m e = cc

-- ---- what the tags of a name decide

module _ (law : EffectiveByRow) (a b : List tags.Fact) (name : List ℕ) (same : tags_row a name ≡ tags_row b name) where
  forced-same : (tag : List ℕ) → option_map (λ (x : Assertion). x.value) (only (λ x. not (cancels x.prefix)) (effective a name tag)) ≡ option_map (λ (x : Assertion). x.value) (only (λ x. not (cancels x.prefix)) (effective b name tag))
  forced-same tag = ap (λ o. option_map (λ (x : Assertion). x.value) (only (λ x. not (cancels x.prefix)) o)) (law a b name tag same)

  pub leaf-same : (item : Item) → item.name ≡ name → leaves_fact_over a item ≡ leaves_fact_over b item
  leaf-same item is =
      ap (λ o. option_map (λ m. let g : leaves.Fact = record { name = item.name; parents = parent_names m; branch = unwrap_or o (codes "trunk") } in g) (as_manifest item.artifact))
      (subst (λ n. option_map (λ (x : Assertion). x.value) (only (λ x. not (cancels x.prefix)) (effective a n (codes "branch"))) ≡ option_map (λ (x : Assertion). x.value) (only (λ x. not (cancels x.prefix)) (effective b n (codes "branch")))) (sym is) (forced-same (codes "branch")))

  pub checkin_row-same : (m : Manifest) → checkin_row a name m ≡ checkin_row b name m
  checkin_row-same m = λ i. row_with (forced-same (codes "date") i) (forced-same (codes "user") i) (forced-same (codes "comment") i)
    where
      row_with : Option (List ℕ) → Option (List ℕ) → Option (List ℕ) → Row
      row_with date user comment = record { time = unwrap_or (option_and_then date_in date) m.date; name = name; kind = row.Checkin; user = unwrap_or user m.user; text = unwrap_or comment m.comment }

module _ (items : List Item) (rise : Rise items) (x : Item) (at : named item_name items x.name ≡ Some x) where
  abbrev n : List ℕ
  n = x.name

  abbrev old : List Item
  old = without x.name items

  -- ---- leaves

  pub leaves-added : leaves_mixed items n (n ∷ []) ≡ by_name (λ f. f.name) (cons_option (leaves_fact items x) (leaves_facts old))
  leaves-added = mixed-added item_name (λ (f : leaves.Fact). f.name) (leaves_fact old) (leaves_fact items) (leaves_own old) (leaves_own items) items rise x at

  pub leaves-absent : has (map (λ f. f.name) (leaves_facts old)) n ≡ false
  leaves-absent = given-absent item_name (λ (f : leaves.Fact). f.name) (leaves_fact old) (leaves_own old) items rise n

  pub leaves-next : (done : List (List ℕ)) (y : Item) (f : leaves.Fact) → named item_name items y.name ≡ Some y → leaves_fact items y ≡ Some f → leaves_mixed items n (y.name ∷ done) ≡ by_name (λ f. f.name) (f ∷ leaves_mixed items n done)
  leaves-next done y f found is = gift-next item_name (λ (f : leaves.Fact). f.name) (leaves_fact old) (leaves_fact items) (leaves_own old) (leaves_own items) items rise done y f found is

  pub leaves-there : (done : List (List ℕ)) (y : Item) → named item_name items y.name ≡ Some y → is_some (leaves_fact items y) ≡ true → has (map (λ f. f.name) (leaves_mixed items n done)) y.name ≡ true
  leaves-there done y found is =
      gift-there item_name (λ (f : leaves.Fact). f.name) (leaves_fact old) (leaves_fact items) (leaves_own old) (leaves_own items) items rise done y found
      (leaf_some (branch old y.name) y ∙ sym (leaf_some (branch items y.name) y) ∙ is) is

  -- ---- rows

  pub rows-added : rows_mixed items n (n ∷ []) ≡ by_name (λ r. r.name) (cons_option (timeline_row items x) (timeline_rows old))
  rows-added = mixed-added item_name (λ (r : Row). r.name) (timeline_row old) (timeline_row items) (row-own old) (row-own items) items rise x at

  pub rows-absent : has (map (λ r. r.name) (timeline_rows old)) n ≡ false
  rows-absent = given-absent item_name (λ (r : Row). r.name) (timeline_row old) (row-own old) items rise n

  pub rows-next : (done : List (List ℕ)) (y : Item) (r : Row) → named item_name items y.name ≡ Some y → timeline_row items y ≡ Some r → rows_mixed items n (y.name ∷ done) ≡ by_name (λ r. r.name) (r ∷ rows_mixed items n done)
  rows-next done y r found is = gift-next item_name (λ (r : Row). r.name) (timeline_row old) (timeline_row items) (row-own old) (row-own items) items rise done y r found is

  pub rows-there : (done : List (List ℕ)) (y : Item) → named item_name items y.name ≡ Some y → is_some (timeline_row old y) ≡ true → is_some (timeline_row items y) ≡ true → has (map (λ r. r.name) (rows_mixed items n done)) y.name ≡ true
  rows-there done y found was is = gift-there item_name (λ (r : Row). r.name) (timeline_row old) (timeline_row items) (row-own old) (row-own items) items rise done y found was is

  -- ---- at the end

  module _ (law : EffectiveByRow) (first now : TableState tags.Fact) (us : List (Change tags.Fact)) (lead : Leads first us now) (told : TagsTold us) (before : first.facts ≡ tags_facts old) (after : now.facts ≡ tags_facts items) where
    abbrev done : List (List ℕ)
    done = pushed (is_other_checkin items n) (all_changed us) (n ∷ [])

    -- a check-in that isn't done has the row of tags that it had
    row-kept : (y : Item) (m : Manifest) → named item_name items y.name ≡ Some y → as_manifest y.artifact ≡ Some m → has done y.name ≡ false → tags_row (tags_facts items) y.name ≡ tags_row (tags_facts old) y.name
    row-kept y m found is out =
        let apart : bytes_eq y.name n ≡ false = (or_parts (bytes_eq y.name n) false (pushed-before (is_other_checkin items n) (all_changed us) (n ∷ []) y.name out)).0 in
        let checks : is_some (checkin items y.name) ≡ true = ap is_some (ap (option_and_then (λ (item : Item). as_manifest item.artifact)) found ∙ is) in
        ap (λ fs. tags_row fs y.name) (sym after)
        ∙ told-same tags_row first us now lead told y.name (pushed-out (is_other_checkin items n) (all_changed us) (n ∷ []) y.name out (λ i. not (apart i) && checks i))
        ∙ ap (λ fs. tags_row fs y.name) before

    pub leaves-end : leaves_mixed items n done ≡ leaves_facts items
    leaves-end =
        mixed-end item_name (λ (f : leaves.Fact). f.name) (leaves_fact old) (leaves_fact items) (leaves_own old) (leaves_own items) items rise done
        (λ y found out. elim (as_manifest y.artifact) as (λ o. as_manifest y.artifact ≡ o → leaves_fact items y ≡ leaves_fact old y) [
          | None ↦ λ e. ap (option_map (λ m. let g : leaves.Fact = record { name = y.name; parents = parent_names m; branch = branch items y.name } in g)) e
              ∙ sym (ap (option_map (λ m. let g : leaves.Fact = record { name = y.name; parents = parent_names m; branch = branch old y.name } in g)) e)
          | Some m ↦ λ e. leaf-same law (tags_facts items) (tags_facts old) y.name (row-kept y m found e out) y refl
        ] refl)

    -- where these names are done, and maybe others, and no other row than those of check-ins depends on the new item
    pub rows-end-more : (d : List (List ℕ)) → ((q : List ℕ) → has d q ≡ false → has done q ≡ false)
        → ((y : Item) → named item_name items y.name ≡ Some y → has d y.name ≡ false → as_manifest y.artifact ≡ None → timeline_row items y ≡ timeline_row old y) → rows_mixed items n d ≡ timeline_rows items
    rows-end-more d more others =
        mixed-end item_name (λ (r : Row). r.name) (timeline_row old) (timeline_row items) (row-own old) (row-own items) items rise d
        (λ y found out. elim (as_manifest y.artifact) as (λ o. as_manifest y.artifact ≡ o → timeline_row items y ≡ timeline_row old y) [
          | None ↦ λ e. others y found out e
          | Some m ↦ λ e. row-checkin items y.name y.artifact m e ∙ ap Some (checkin_row-same law (tags_facts items) (tags_facts old) y.name (row-kept y m found e (more y.name out)) m) ∙ sym (row-checkin old y.name y.artifact m e)
        ] refl)

    -- where no others are
    pub rows-end : ((y : Item) → named item_name items y.name ≡ Some y → has done y.name ≡ false → as_manifest y.artifact ≡ None → timeline_row items y ≡ timeline_row old y) → rows_mixed items n done ≡ timeline_rows items
    rows-end others = rows-end-more done (λ q out. out) others

  -- ---- by the name of a check-in

  other-checkin : (q : List ℕ) → bytes_eq q n ≡ false → is_some (checkin items q) ≡ true → is_other_checkin items n q ≡ true
  other-checkin q apart is = λ i. not (apart i) && is i

  -- the new fact of a check-in is put
  pub leaves-goes : {X E : Type 0} (r : Result X E) (q : List ℕ) (f : leaves.Fact) (before after : List leaves.Fact) → option_and_then (leaves_fact items) (named item_name items q) ≡ Some f → bytes_eq q n ≡ false
      → OnOk r (after ≡ by_name (λ f. f.name) (f ∷ before)) → OnOk r (GoesOn (leaves_mixed items n) (pushed (is_other_checkin items n) (q ∷ [])) before after)
  leaves-goes r q f before after is apart put =
      let y = gift-behind item_name (leaves_fact items) items q f is in
      let checks : is_some (checkin items q) ≡ true = ap is_some (ap (λ p. option_and_then (λ (item : Item). as_manifest item.artifact) (named item_name items p)) (sym y.3) ∙ ap (option_and_then (λ (item : Item). as_manifest item.artifact)) y.1)
      ∙ sym (leaf_some (branch items y.0.name) y.0) ∙ ap is_some y.2 in
      goes-put (leaves_mixed items n) (is_other_checkin items n) r (λ fs. by_name (λ (f : leaves.Fact). f.name) (f ∷ fs)) q before after (other-checkin q apart checks)
      (λ done. subst (λ p. leaves_mixed items n (p ∷ done) ≡ by_name (λ (f : leaves.Fact). f.name) (f ∷ leaves_mixed items n done)) y.3 (leaves-next done y.0 f y.1 y.2)) put

  pub leaves-there-at : (q : List ℕ) (f : leaves.Fact) (facts : List leaves.Fact) → option_and_then (leaves_fact items) (named item_name items q) ≡ Some f → IsMixture (leaves_mixed items n) facts → has (map (λ f. f.name) facts) f.name ≡ true
  leaves-there-at q f facts is m =
      let y = gift-behind item_name (leaves_fact items) items q f is in
      let own : f.name ≡ y.0.name = if_some (λ (f : leaves.Fact). f.name ≡ y.0.name) (leaves_fact items y.0) f y.2 (leaves_own items y.0) in
      (λ i. has (map (λ (f : leaves.Fact). f.name) (m.1 i)) (own i)) ∙ leaves-there m.0 y.0 y.1 (ap is_some y.2)

  none_other : (q : List ℕ) → checkin items q ≡ None → is_other_checkin items n q ≡ false
  none_other q none = ap (λ o. not (bytes_eq q n) && is_some o) none ∙ and-false (not (bytes_eq q n))
    where
      and-false : (b : Bool) → (b && false) ≡ false
      and-false true = refl
      and-false false = refl

  leaf_none : (q : List ℕ) → option_and_then (leaves_fact items) (named item_name items q) ≡ None → checkin items q ≡ None
  leaf_none q none = by (named item_name items q) none
    where
      by : (o : Option Item) → option_and_then (leaves_fact items) o ≡ None → option_and_then (λ (item : Item). as_manifest item.artifact) o ≡ None
      by None e = refl
      by (Some y) e = no (as_manifest y.artifact) (sym (leaf_some (branch items y.name) y) ∙ ap is_some e)
        where
          no : (o : Option Manifest) → is_some o ≡ false → o ≡ None
          no None t = refl
          no (Some m) t = cc

  -- a name that is no check-in's, and the new one
  pub leaves-goes-none : (q : List ℕ) (facts : List leaves.Fact) → option_and_then (leaves_fact items) (named item_name items q) ≡ None → GoesOn (leaves_mixed items n) (pushed (is_other_checkin items n) (q ∷ [])) facts facts
  leaves-goes-none q facts none = goes-stay (leaves_mixed items n) (is_other_checkin items n) q facts (none_other q (leaf_none q none))

  pub leaves-goes-same : (q : List ℕ) (facts : List leaves.Fact) → bytes_eq q n ≡ true → GoesOn (leaves_mixed items n) (pushed (is_other_checkin items n) (q ∷ [])) facts facts
  leaves-goes-same q facts same = goes-stay (leaves_mixed items n) (is_other_checkin items n) q facts (ap (λ b. not b && is_some (checkin items q)) same)

  pub rows-goes-none : (q : List ℕ) (facts : List Row) → checkin items q ≡ None → GoesOn (rows_mixed items n) (pushed (is_other_checkin items n) (q ∷ [])) facts facts
  rows-goes-none q facts none = goes-stay (rows_mixed items n) (is_other_checkin items n) q facts (none_other q none)

  pub rows-goes-same : (q : List ℕ) (facts : List Row) → bytes_eq q n ≡ true → GoesOn (rows_mixed items n) (pushed (is_other_checkin items n) (q ∷ [])) facts facts
  rows-goes-same q facts same = goes-stay (rows_mixed items n) (is_other_checkin items n) q facts (ap (λ b. not b && is_some (checkin items q)) same)

  -- a check-in, its name, its manifest and its row
  row-behind : (q : List ℕ) (r : Row) → option_map (checkin_row (tags_facts items) q) (checkin items q) ≡ Some r → (y : Item) × (named item_name items y.name ≡ Some y) × (y.name ≡ q) × (m : Manifest) × (as_manifest y.artifact ≡ Some m) × (checkin_row (tags_facts items) q m ≡ r)
  row-behind q r is =
      let m = behind_map (checkin_row (tags_facts items) q) (checkin items q) r is in
      let y = behind (λ (item : Item). as_manifest item.artifact) (named item_name items q) m.0 m.1 in
      let own : y.0.name ≡ q = named-has item_name items q y.0 y.1 in
      (y.0, ap (named item_name items) own ∙ y.1, own, m.0, y.2, m.2)
    where
      behind_map : {X Y : Type 0} (f : X → Y) (o : Option X) (y : Y) → option_map f o ≡ Some y → (x : X) × (o ≡ Some x) × (f x ≡ y)
      behind_map f None y e = cc
      behind_map f (Some x) y e = (x, refl, inside_of (f x) y e)
        where
          inside_of : {Y : Type 0} (a b : Y) → Some a ≡ Some b → a ≡ b
          inside_of a b e = cc

  -- the new row of a check-in is put
  pub rows-goes : {X E : Type 0} (res : Result X E) (q : List ℕ) (r : Row) (before after : List Row) → option_map (checkin_row (tags_facts items) q) (checkin items q) ≡ Some r → bytes_eq q n ≡ false
      → OnOk res (after ≡ by_name (λ r. r.name) (r ∷ before)) → OnOk res (GoesOn (rows_mixed items n) (pushed (is_other_checkin items n) (q ∷ [])) before after)
  rows-goes res q r before after is apart put =
      let y = row-behind q r is in
      let checks : is_some (checkin items q) ≡ true = ap is_some (ap (λ p. option_and_then (λ (item : Item). as_manifest item.artifact) (named item_name items p)) (sym y.2) ∙ ap (option_and_then (λ (item : Item). as_manifest item.artifact)) y.1 ∙ y.4) in
      let row_is : timeline_row items y.0 ≡ Some r = row-checkin items y.0.name y.0.artifact y.3 y.4 ∙ ap (λ p. Some (checkin_row (tags_facts items) p y.3)) y.2 ∙ ap Some y.5 in
      goes-put (rows_mixed items n) (is_other_checkin items n) res (λ rs. by_name (λ (r : Row). r.name) (r ∷ rs)) q before after (other-checkin q apart checks)
      (λ done. subst (λ p. rows_mixed items n (p ∷ done) ≡ by_name (λ (r : Row). r.name) (r ∷ rows_mixed items n done)) y.2 (rows-next done y.0 r y.1 row_is)) put

  pub rows-there-at : (q : List ℕ) (r : Row) (rows : List Row) → option_map (checkin_row (tags_facts items) q) (checkin items q) ≡ Some r → IsMixture (rows_mixed items n) rows → has (map (λ r. r.name) rows) r.name ≡ true
  rows-there-at q r rows is m =
      let y = row-behind q r is in
      (λ i. has (map (λ (r : Row). r.name) (m.1 i)) ((ap (λ (r : Row). r.name) (sym y.5) ∙ sym y.2) i))
      ∙ rows-there m.0 y.0 y.1 (ap is_some (row-checkin old y.0.name y.0.artifact y.3 y.4)) (ap is_some (row-checkin items y.0.name y.0.artifact y.3 y.4))
