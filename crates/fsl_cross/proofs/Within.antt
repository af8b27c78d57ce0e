-- What each table takes of touches when an artifact comes that asks nothing of others.
use Rattle.std.proofs.Common.{◌≡◌, ◌≤◌, ◌+◌, ◌*◌, ℕ, suc, true, false, cond, List, [], ◌∷◌, Bool, length, Option, Some, None, map, refl, sym, ap, ◌∙◌, subst, arith, inl, inr}
use Rattle.std.specs.Prelude.{◌&&◌, filter, option_map, option_and_then, slice_get, IfSome}
use Rattle.std.specs.List.{AllByRecursion, list_any}
use Rattle.std.specs.Option.{option_map_or}
use Rattle.std.proofs.lemmas.Bool.{not-true}
use Rattle.std.proofs.lemmas.List.Sums.{count_by-le-length, length-filter}
use Rattle.fsl_order.specs.TableState.{TableState, Change}
use Rattle.fsl_order.specs.Names.{has}
use Rattle.fsl_order.specs.Rows.{named}
use Rattle.fsl_manifest.specs.declared.Manifest.{Manifest}
use Rattle.fsl_artifact.specs.declared.Artifact.{Artifact}
use Rattle.fsl_artifact.specs.declared.Artifact.TheVariants as kind
use Rattle.fsl_artifact.specs.Kind.{IsKind}
use Rattle.fsl_artifact.specs.References.{references}
use Rattle.fsl_links.specs.declared.Fact as links
use Rattle.fsl_links.specs.Links.{children}
use Rattle.fsl_leaves.specs.declared.Fact as leaves
use Rattle.fsl_tags.specs.declared.Fact as tags
use Rattle.fsl_tags.specs.Laws.{OthersStay}
use Rattle.fsl_files.specs.declared.Fact as files
use Rattle.fsl_files.specs.Touches.{is_followed, counted}
use Rattle.fsl_wiki.specs.Pages.{as_page}
use Rattle.fsl_cross.specs.declared.Item.{Item}
use Rattle.fsl_cross.specs.Attached.{target_id}
use Rattle.fsl_cross.specs.Kinds.{own_id}
use Rattle.fsl_cross.specs.Checkins.{links_facts, tags_facts}
use Rattle.fsl_cross.specs.Facts.{as_manifest, asserts, tag_cards, file_row, pages_fact_of, ticket_fact_of, forum_fact_of, parent_names}
use Rattle.fsl_cross.specs.Mixed.{is_child, is_other_checkin, all_changed}
use Rattle.fsl_cross.specs.Tables.{IsItem, leaves_facts, files_facts, without}
use Rattle.fsl_cross.specs.Touches.{touches_of, add_touches, added_most, is_unnamed, are_own, has_own_tags, is_calm, file_count, NoneOf, IsNoParent, NoneRetagged, NoneLate, Untouched, IsCalm, parents_most, tags_most, files_most}
use Rattle.fsl_cross.specs.Trails.{Leads, TagsTold}
use Rattle.fsl_cross.proofs.Moved.{item_name}
use Rattle.fsl_cross.proofs.FactLemmas.{Rise}
use Rattle.fsl_cross.proofs.Unnamed.{tags_with}
use Rattle.fsl_cross.proofs.Quiet.{quiet-within}
use Rattle.fsl_cross.proofs.Calm.{counted-is, parents-within, Calm, calm-kind, manifest-is, all-apart, no-children, no-parent, no-follower, no-child, none-retagged, bits-apart}

calm-by : {P : Type 0} (others : List Item) (name : List ℕ) (a : Artifact) → Calm others name a → (as_manifest a ≡ None → tag_cards a ≡ None → P) → ((m : Manifest) → as_manifest a ≡ Some m → is_unnamed others name ≡ true → has_own_tags a ≡ true → P) → P
calm-by others name a (inl k) none some = none k.0 k.1
calm-by others name a (inr k) none some = some k.0 k.1 k.2 k.3

empty-of : {F : Type 0} (test : List ℕ → Bool) (us : List (Change F)) → us ≡ [] → NoneOf test (all_changed us)
empty-of test us e q listed = absurd (bits-apart (sym listed ∙ ap (λ (l : List (Change _)). has (all_changed l) q) e))

module _ (items : List Item) (rise : Rise items) (x : Item) (at : named item_name items x.name ≡ Some x) (calm : IsCalm items x) where
  abbrev n : List ℕ
  n = x.name

  abbrev old : List Item
  old = without x.name items

  kind_of : Calm old x.name x.artifact
  kind_of = calm-kind old x.name x.artifact calm

  apart-by : is_unnamed old x.name ≡ true → AllByRecursion (λ (item : Item). has (references item.artifact) x.name ≡ false) old
  apart-by unnamed = all-apart x.name old (not-true _ unnamed)

  -- parentage
  pub links-step : (facts : List links.Fact) → facts ≡ links_facts old → (a b : ℕ) (us vs : List (Change links.Fact)) → (as_manifest x.artifact ≡ None → Untouched a b us vs) → (children (links_facts old) n ≡ [] → b ≤ a + parents_most x.artifact) → b ≤ a + parents_most x.artifact
  links-step facts is a b us vs idle cost =
      calm-by old x.name x.artifact kind_of (λ none bare. quiet-within a b (parents_most x.artifact) (idle none).0) (λ m is unnamed own. cost (no-children x.name old (apart-by unnamed)))

  pub late-step : (a b : ℕ) (us vs : List (Change links.Fact)) → us ≡ [] → (as_manifest x.artifact ≡ None → Untouched a b us vs) → NoneLate items n vs
  late-step a b us vs empty idle =
      calm-by old x.name x.artifact kind_of (λ none bare. empty-of (is_child items n) vs ((idle none).1 ∙ empty)) (λ m is unnamed own. λ q listed. no-child items rise x at (apart-by unnamed) q)

  -- tags
  pub tags-step : (a b : ℕ) (us vs : List (Change tags.Fact)) → (tag_cards x.artifact ≡ None → Untouched a b us vs) → (has_own_tags x.artifact ≡ true → b ≤ a + tags_most x.artifact) → b ≤ a + tags_most x.artifact
  tags-step a b us vs idle cost = calm-by old x.name x.artifact kind_of (λ none bare. quiet-within a b (tags_most x.artifact) (idle bare).0) (λ m is unnamed own. cost own)

  pub retagged-step : OthersStay → (a b : ℕ) (us vs : List (Change tags.Fact)) → us ≡ [] → (tag_cards x.artifact ≡ None → Untouched a b us vs) → length vs ≤ 1
      → (first now : TableState tags.Fact) → Leads first vs now → TagsTold vs → first.facts ≡ tags_facts old → now.facts ≡ tags_facts items → NoneRetagged items n vs
  retagged-step law a b us vs empty idle single first now lead told before after =
      calm-by old x.name x.artifact kind_of (λ none bare. empty-of (is_other_checkin items n) vs ((idle bare).1 ∙ empty))
      (λ m is unnamed own.
      none-retagged items rise x at law (no-child items rise x at (apart-by unnamed)) own (tags_with (links_facts items) x (m.date, m.tags)) (ap (option_map (tags_with (links_facts items) x)) (ap tag_cards (manifest-is x.artifact m is)))
      first now vs single lead told before after)

  -- leaves
  pub leaves-step : (facts : List leaves.Fact) → facts ≡ leaves_facts old → (a b : ℕ) → (as_manifest x.artifact ≡ None → b ≡ a) → (IsNoParent facts n → b ≤ a + parents_most x.artifact) → b ≤ a + parents_most x.artifact
  leaves-step facts is a b idle cost =
      calm-by old x.name x.artifact kind_of (λ none bare. quiet-within a b (parents_most x.artifact) (idle none))
      (λ m k unnamed own. cost (ap (list_any (λ (f : leaves.Fact). has f.parents n)) is ∙ no-parent x.name old old (apart-by unnamed)))

  -- files
  pub files-step : (facts : List files.Fact) → facts ≡ files_facts old → (a b : ℕ) → (as_manifest x.artifact ≡ None → b ≡ a) → (is_followed facts n ≡ false → b ≤ a + files_most facts x) → b ≤ a + files_most (files_facts old) x
  files-step facts is a b idle cost =
      calm-by old x.name x.artifact kind_of (λ none bare. quiet-within a b (files_most (files_facts old) x) (idle none))
      (λ m k unnamed own. subst (λ fs. b ≤ a + files_most fs x) is (cost (ap (λ fs. is_followed fs n) is ∙ no-follower x.name old (apart-by unnamed))))

-- pages
pub pages-step : (others : List Item) (name : List ℕ) (art : Artifact) → is_calm others name art ≡ true → (a b : ℕ) → (pages_fact_of name art ≡ None → b ≡ a) → IfSome (option_and_then as_page (pages_fact_of name art)) (λ _. b ≤ a + 4) → b ≤ a + 4
pages-step others name kind.Plain calm a b idle cost = quiet-within a b 4 (idle refl)
pages-step others name (kind.Manifest m) calm a b idle cost = quiet-within a b 4 (idle refl)
pages-step others name (kind.Wiki w) calm a b idle cost = cost
pages-step others name (kind.Cluster w) calm a b idle cost = cc
pages-step others name (kind.Control w) calm a b idle cost = cc
pages-step others name (kind.Ticket w) calm a b idle cost = cc
pages-step others name (kind.Attachment w) calm a b idle cost = cc
pages-step others name (kind.Technote w) calm a b idle cost = cc
pages-step others name (kind.Forum w) calm a b idle cost = cc

-- tickets, posts and what attachments are found by
pub no-others : (others : List Item) (name : List ℕ) (art : Artifact) → is_calm others name art ≡ true → (ticket_fact_of name art ≡ None) × (forum_fact_of name art ≡ None) × (own_id art ≡ None) × (target_id art ≡ None)
no-others others name kind.Plain calm = (refl, refl, refl, refl)
no-others others name (kind.Manifest m) calm = (refl, refl, refl, refl)
no-others others name (kind.Wiki w) calm = (refl, refl, refl, refl)
no-others others name (kind.Cluster w) calm = cc
no-others others name (kind.Control w) calm = cc
no-others others name (kind.Ticket w) calm = cc
no-others others name (kind.Attachment w) calm = cc
no-others others name (kind.Technote w) calm = cc
no-others others name (kind.Forum w) calm = cc

-- ---- all tables

if-bounded : (b : Bool) (k most : ℕ) → cond b (Some k) None ≡ Some most → (b ≡ true) × (most ≡ k)
if-bounded true k most e = (refl, sym (inside e))
  where
    inside : Some k ≡ Some most → k ≡ most
    inside r = cc
if-bounded false k most e = cc

length-mapped : {X Y : Type 0} (f : X → Y) (xs : List X) → length (map f xs) ≡ length xs
length-mapped f [] = refl
length-mapped f (x ∷ xs) = ap suc (length-mapped f xs)

sum-checkin : (p s t r f g c d up base most : ℕ) → p ≤ r → s ≤ t → f ≡ g → c ≡ up → d ≡ base → most ≡ 64 * (1 + r + (t + g + up + base))
    → 2 * (6 * (1 + p)) + 20 * (1 + s) + (6 * (1 + 0 + r) + 10 * (1 + f + c + d) + 4) + 6 ≤ most
sum-checkin p s t r f g c d up base most pr st fg cu db is = omega (arith, pr, st, fg, cu, db, is)

sum-page : (r most : ℕ) → most ≡ 64 * (1 + r) → 2 * 0 + 0 + (6 * (1 + 0 + r) + 0 + 4) + 6 ≤ most
sum-page r most is = omega (arith, is)

module _ (items : List Item) (x : Item) where
  -- where a bound is stated of an artifact, all tables keep it together
  pub touches-within : IsItem x → (most : ℕ) → add_touches (without x.name items) x ≡ Some most → IsCalm items x × (added_most items x ≤ most)
  touches-within is most bound = by x.artifact is bound
    where
      inside : {a b : ℕ} → Some a ≡ Some b → a ≡ b
      inside r = cc

      by : (a : Artifact) → (bytes : List ℕ) × IsKind bytes a → touches_of (without x.name items) x.name a ≡ Some most
          → (is_calm (without x.name items) x.name a ≡ true) × (added_most items (record x { artifact = a }) ≤ most)
      by kind.Plain k e = (refl, let most_is : 16 ≡ most = inside e in omega (arith, most_is))
      by (kind.Manifest m) k e =
          let b = if-bounded (is_unnamed (without x.name items) x.name && are_own m.tags) _ most e in (
            b.0,
            sum-checkin (length (parent_names m)) (length (filter asserts m.tags)) (length m.tags) (length (references (kind.Manifest m))) (length (map file_row m.files)) (length m.files)
                (counted (files_facts (without x.name items)) (slice_get (parent_names m) 0)) (counted (files_facts (without x.name items)) m.baseline)
                (option_map_or (file_count (without x.name items)) (slice_get (parent_names m) 0) 0) (option_map_or (file_count (without x.name items)) m.baseline 0) most
                (parents-within k.0 m k.1) (subst (λ n. n ≤ length m.tags) (sym (length-filter asserts m.tags)) (count_by-le-length asserts m.tags)) (length-mapped file_row m.files) (counted-is (without x.name items) (slice_get (parent_names m) 0)) (counted-is (without x.name items) m.baseline) b.1,
          )
      by (kind.Wiki w) k e = (refl, sum-page (length (references (kind.Wiki w))) most (sym (inside e)))
      by (kind.Cluster w) k e = cc
      by (kind.Control w) k e = cc
      by (kind.Ticket w) k e = cc
      by (kind.Attachment w) k e = cc
      by (kind.Technote w) k e = cc
      by (kind.Forum w) k e = cc

-- a bound, if there is one
pub if-bound : (o : Option ℕ) (P : ℕ → Type 0) → ((most : ℕ) → o ≡ Some most → P most) → IfSome o P
if-bound None P f = tt
if-bound (Some most) P f = f most refl
