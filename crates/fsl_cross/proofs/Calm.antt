-- A check-in that no artifact names leaves the rows of others as they were.
use Rattle.std.proofs.Common.{◌≡◌, ◌≤◌, ℕ, true, false, cond, List, [], ◌∷◌, ◌++◌, Bool, length, Option, Some, None, map, refl, sym, ap, ◌∙◌, inl, inr, ◌⊎◌}
use Rattle.std.specs.Prelude.{◌&&◌, ◌||◌, not, is_some, filter, filter_map, option_map, option_and_then, option_to_list, slice_get, unwrap_or, flat_map}
use Rattle.std.specs.List.{AllByRecursion, IsDistinct, list_any, list_all, cons_option}
use Rattle.std.specs.Option.{option_map_or}
use Rattle.std.specs.Str.{bytes_eq}
use Rattle.std.specs.Cmp.Lexicographic.{nat_list_eq_equiv}
use Rattle.std.proofs.lemmas.Map.Made.{length-le_from_is_member}
use Rattle.std.proofs.lemmas.Bool.{and_parts, not-true, or_right, or_left, or_parts}
use Rattle.fsl_order.specs.TableState.{TableState, Change}
use Rattle.fsl_order.specs.Names.{has}
use Rattle.fsl_order.specs.Rows.{ascending, by_name, named}
use Rattle.fsl_order.proofs.AscendingLemmas.{has-ascending}
use Rattle.fsl_order.proofs.RowLemmas.{named-All}
use Rattle.fsl_table.specs.Pairs.{is_name}
use Rattle.fsl_name.specs.Ref.{own_names, ref_bytes}
use Rattle.fsl_name.specs.declared.reference.Ref.{Ref}
use Rattle.fsl_name.specs.declared.reference.Ref.TheVariants.{Own, Foreign}
use Rattle.fsl_grammar.specs.Forms.{refs_differ}
use Rattle.fsl_grammar.proofs.DifferLemmas.{all_differ}
use Rattle.fsl_manifest.specs.declared.Manifest.{Manifest}
use Rattle.fsl_artifact.specs.declared.Artifact.{Artifact}
use Rattle.fsl_artifact.specs.declared.Artifact.TheVariants as kind
use Rattle.fsl_artifact.specs.Kind.{IsKind}
use Rattle.fsl_artifact.specs.References.{references, manifest_names, tag_targets}
use Rattle.fsl_links.specs.declared.Fact as links
use Rattle.fsl_links.specs.Links as parentage
use Rattle.fsl_links.specs.Links.{primary, children}
use Rattle.fsl_leaves.specs.declared.Fact as leaves
use Rattle.fsl_tags.specs.declared.Fact as tags
use Rattle.fsl_tags.specs.Laws.{OthersStay}
use Rattle.fsl_tags.specs.Tags.{tags_row}
use Rattle.fsl_files.specs.declared.Fact as files
use Rattle.fsl_files.specs.Files as listing
use Rattle.fsl_files.specs.Touches.{is_followed, counted}
use Rattle.fsl_cross.specs.declared.Item.{Item}
use Rattle.fsl_cross.specs.Checkins.{links_facts, tags_fact, tags_facts, checkin, branch}
use Rattle.fsl_cross.specs.Facts.{as_manifest, tag_cards, assertions, links_fact, file_row, parent_names}
use Rattle.fsl_cross.specs.Mixed.{is_child}
use Rattle.fsl_cross.specs.Tables.{leaves_fact, files_facts, without}
use Rattle.fsl_cross.specs.Touches.{is_unnamed, are_own, has_own_tags, is_calm, file_count, NoneRetagged}
use Rattle.fsl_cross.specs.Trails.{Leads, TagsTold}
use Rattle.fsl_cross.proofs.Moved.{item_name}
use Rattle.fsl_cross.proofs.FactLemmas.{Rise, links-named, tags_own, tags-fit}
use Rattle.fsl_cross.proofs.Mapped.{named-has, rising-given}
use Rattle.fsl_cross.proofs.Sets.{named-out, mixed-end}
use Rattle.fsl_cross.proofs.Added.{given-absent, mixed-added, rising-out}
use Rattle.fsl_cross.proofs.Parents.{primary-same, tags-fit-added}
use Rattle.fsl_cross.proofs.Gifts.{if_some}
use Rattle.fsl_cross.proofs.Retiring.{told-other}
use Rattle.fsl_cross.proofs.Unnamed.{tags-own_targets}

has-append : (xs ys : List (List ℕ)) (q : List ℕ) → has (xs ++ ys) q ≡ (has xs q || has ys q)
has-append [] ys q = refl
has-append (x ∷ xs) ys q = ap (λ b. bytes_eq q x || b) (has-append xs ys q) ∙ assoc (bytes_eq q x) (has xs q) (has ys q)
  where
    assoc : (a b c : Bool) → (a || (b || c)) ≡ ((a || b) || c)
    assoc true b c = refl
    assoc false b c = refl

pub bits-apart : true ≡ false → ⊥
bits-apart e = cc

-- ---- kinds

pub manifest-is : (a : Artifact) (m : Manifest) → as_manifest a ≡ Some m → a ≡ kind.Manifest m
manifest-is (kind.Manifest w) m e = ap kind.Manifest (inside e)
  where
    inside : Some w ≡ Some m → w ≡ m
    inside r = cc
manifest-is kind.Plain m e = cc
manifest-is (kind.Cluster w) m e = cc
manifest-is (kind.Control w) m e = cc
manifest-is (kind.Wiki w) m e = cc
manifest-is (kind.Ticket w) m e = cc
manifest-is (kind.Attachment w) m e = cc
manifest-is (kind.Technote w) m e = cc
manifest-is (kind.Forum w) m e = cc

-- an artifact with a bound is no check-in and has no T cards, or is a check-in that none names and whose T cards are on itself
abbrev pub Calm : List Item → List ℕ → Artifact → Type 0
Calm others name a = ((as_manifest a ≡ None) × (tag_cards a ≡ None)) ⊎ ((m : Manifest) × (as_manifest a ≡ Some m) × (is_unnamed others name ≡ true) × (has_own_tags a ≡ true))

pub calm-kind : (others : List Item) (name : List ℕ) (a : Artifact) → is_calm others name a ≡ true → Calm others name a
calm-kind others name kind.Plain e = inl (refl, refl)
calm-kind others name (kind.Wiki w) e = inl (refl, refl)
calm-kind others name (kind.Manifest m) e = let parts = and_parts (is_unnamed others name) (are_own m.tags) e in inr (m, refl, parts.0, parts.1)
calm-kind others name (kind.Cluster w) e = cc
calm-kind others name (kind.Control w) e = cc
calm-kind others name (kind.Ticket w) e = cc
calm-kind others name (kind.Attachment w) e = cc
calm-kind others name (kind.Technote w) e = cc
calm-kind others name (kind.Forum w) e = cc

-- ---- names that a check-in has

module _ (b f p q t : List (List ℕ)) (n : List ℕ) where
  five-apart : has (b ++ f ++ p ++ q ++ t) n ≡ false → (has b n ≡ false) × (has p n ≡ false)
  five-apart whole =
      let four = or_parts (has (b ++ f ++ p ++ q) n) (has t n) (sym (has-append (b ++ f ++ p ++ q) t n) ∙ whole) in
      let three = or_parts (has (b ++ f ++ p) n) (has q n) (sym (has-append (b ++ f ++ p) q n) ∙ four.0) in
      let two = or_parts (has (b ++ f) n) (has p n) (sym (has-append (b ++ f) p n) ∙ three.0) in
      let one = or_parts (has b n) (has f n) (sym (has-append b f n) ∙ two.0) in
      (one.0, two.1)

  five-among : has p n ≡ true → has (b ++ f ++ p ++ q ++ t) n ≡ true
  five-among there =
      has-append (b ++ f ++ p ++ q) t n
      ∙ or_left (has (b ++ f ++ p ++ q) n) (has t n) (has-append (b ++ f ++ p) q n
      ∙ or_left (has (b ++ f ++ p) n) (has q n) (has-append (b ++ f) p n ∙ or_right (has (b ++ f) n) (has p n) there))

module _ (n : List ℕ) where
  abbrev IsApart : Item → Type 0
  IsApart item = has (references item.artifact) n ≡ false

  pub all-apart : (xs : List Item) → list_any (λ (item : Item). has (references item.artifact) n) xs ≡ false → AllByRecursion IsApart xs
  all-apart [] h = tt
  all-apart (x ∷ xs) h = let parts = or_parts (has (references x.artifact) n) _ h in (parts.0, all-apart xs parts.1)

  manifest-apart : (x : Item) (m : Manifest) → as_manifest x.artifact ≡ Some m → IsApart x → (has (option_to_list m.baseline) n ≡ false) × (has (parent_names m) n ≡ false)
  manifest-apart x m is apart =
      let whole : has (manifest_names m) n ≡ false = sym (has-ascending (manifest_names m) n) ∙ ap (λ a. has (references a) n) (sym (manifest-is x.artifact m is)) ∙ apart in
      five-apart (option_to_list m.baseline) (flat_map (λ file. own_names (option_to_list file.hash)) m.files) (parent_names m) (flat_map (λ pick. own_names (pick.target ∷ option_to_list pick.other)) m.picks) (tag_targets m.tags) n whole

  -- no check-in has it as a parent
  no-kids : (xs : List Item) → AllByRecursion IsApart xs → filter (λ (f : links.Fact). has f.parents n) (links_facts xs) ≡ []
  no-kids [] all = refl
  no-kids (x ∷ xs) all = by (as_manifest x.artifact) refl (no-kids xs all.1)
    where
      by : (o : Option Manifest) → as_manifest x.artifact ≡ o → filter (λ (f : links.Fact). has f.parents n) (links_facts xs) ≡ []
          → filter (λ (f : links.Fact). has f.parents n) (cons_option (option_map (λ m. let f : links.Fact = record { name = x.name; parents = parent_names m } in f) o) (links_facts xs)) ≡ []
      by None e rest = rest
      by (Some m) e rest =
          let f : links.Fact = record { name = x.name; parents = parent_names m } in
          ap (λ b. cond b (f ∷ filter (λ (f : links.Fact). has f.parents n) (links_facts xs)) (filter (λ (f : links.Fact). has f.parents n) (links_facts xs))) (manifest-apart x m e all.0).1 ∙ rest

  pub no-children : (xs : List Item) → AllByRecursion IsApart xs → children (links_facts xs) n ≡ []
  no-children xs all = ap (λ (l : List links.Fact). ascending (map (λ f. f.name) l)) (no-kids xs all)

  pub no-parent : (s xs : List Item) → AllByRecursion IsApart xs → list_any (λ (f : leaves.Fact). has f.parents n) (filter_map (leaves_fact s) xs) ≡ false
  no-parent s [] all = refl
  no-parent s (x ∷ xs) all = by (as_manifest x.artifact) refl (no-parent s xs all.1)
    where
      by : (o : Option Manifest) → as_manifest x.artifact ≡ o → list_any (λ (f : leaves.Fact). has f.parents n) (filter_map (leaves_fact s) xs) ≡ false
          → list_any (λ (f : leaves.Fact). has f.parents n) (cons_option (option_map (λ m. let f : leaves.Fact = record { name = x.name; parents = parent_names m; branch = branch s x.name } in f) o) (filter_map (leaves_fact s) xs)) ≡ false
      by None e rest = rest
      by (Some m) e rest = λ i. (manifest-apart x m e all.0).1 i || rest i

  -- .. or as its baseline
  none-some : (o : Option (List ℕ)) → has (option_to_list o) n ≡ false → option_map_or (bytes_eq n) o false ≡ false
  none-some None h = refl
  none-some (Some b) h = (or_parts (bytes_eq n b) false h).0

  none-first : (ps : List (List ℕ)) → has ps n ≡ false → option_map_or (bytes_eq n) (slice_get ps 0) false ≡ false
  none-first [] h = refl
  none-first (p ∷ ps) h = (or_parts (bytes_eq n p) (has ps n) h).0

  pub no-follower : (xs : List Item) → AllByRecursion IsApart xs → is_followed (files_facts xs) n ≡ false
  no-follower [] all = refl
  no-follower (x ∷ xs) all = by (as_manifest x.artifact) refl (no-follower xs all.1)
    where
      by : (o : Option Manifest) → as_manifest x.artifact ≡ o → is_followed (files_facts xs) n ≡ false
          → is_followed (cons_option (option_map (λ m. let f : files.Fact = record { name = x.name; baseline = m.baseline; parent = slice_get (parent_names m) 0; files = map file_row m.files } in f) o) (files_facts xs)) n ≡ false
      by None e rest = rest
      by (Some m) e rest =
          let parts = manifest-apart x m e all.0 in
          λ i. (none-some m.baseline parts.0 i || none-first (parent_names m) parts.1 i) || rest i

  -- ---- primary parents

  primary-apart : (fs : List links.Fact) (o : Option (List ℕ)) → option_map_or (bytes_eq n) o false ≡ false → is_name (option_map (λ (p : links.Fact). p.name) (option_and_then (parentage.checkin fs) o)) n ≡ false
  primary-apart fs None h = refl
  primary-apart fs (Some p) h = by (parentage.checkin fs p) refl
    where
      by : (g : Option links.Fact) → parentage.checkin fs p ≡ g → is_name (option_map (λ (f : links.Fact). f.name) g) n ≡ false
      by None e = refl
      by (Some g) e = ap (λ q. bytes_eq q n) (named-has (λ (f : links.Fact). f.name) fs p g e) ∙ nat_list_eq_equiv.symm p n ∙ h

module _ (items : List Item) (rise : Rise items) (x : Item) (at : named item_name items x.name ≡ Some x) where
  abbrev n : List ℕ
  n = x.name

  abbrev old : List Item
  old = without x.name items

  -- no check-in has the new one as its primary parent
  pub no-child : AllByRecursion (λ (item : Item). has (references item.artifact) x.name ≡ false) old → (q : List ℕ) → is_child items n q ≡ false
  no-child all q = by (bytes_eq q n) refl
    where
      first : bytes_eq q n ≡ false → (o : Option Item) → named item_name items q ≡ o → option_map_or (bytes_eq n) (option_and_then (λ (f : links.Fact). slice_get f.parents 0) (option_and_then links_fact o)) false ≡ false
      first apart None found = refl
      first apart (Some y) found = by_manifest (as_manifest y.artifact) refl
        where
          found_old : named item_name old q ≡ Some y
          found_old = named-out item_name x.name q items ∙ (λ i. cond ((nat_list_eq_equiv.symm x.name q ∙ apart) i) None (found i))

          by_manifest : (o : Option Manifest) → as_manifest y.artifact ≡ o
              → option_map_or (bytes_eq n) (option_and_then (λ (f : links.Fact). slice_get f.parents 0) (option_map (λ m. let f : links.Fact = record { name = y.name; parents = parent_names m } in f) o)) false ≡ false
          by_manifest None e = refl
          by_manifest (Some m) e = none-first x.name (parent_names m) (manifest-apart x.name y m e (named-All item_name (λ (item : Item). has (references item.artifact) x.name ≡ false) old all q y found_old)).1

      by : (b : Bool) → bytes_eq q n ≡ b → (not b && is_name (primary (links_facts items) q) n) ≡ false
      by true e = refl
      by false e =
          primary-apart x.name (links_facts items) (option_and_then (λ (f : links.Fact). slice_get f.parents 0) (parentage.checkin (links_facts items) q))
          (ap (λ o. option_map_or (bytes_eq n) (option_and_then (λ (f : links.Fact). slice_get f.parents 0) o) false) (links-named items rise q) ∙ first e (named item_name items q) refl)

  -- so that no other fact of tags has another parent
  tags-more : ((q : List ℕ) → is_child items n q ≡ false) → tags_facts items ≡ by_name (λ f. f.name) (cons_option (tags_fact items x) (tags_facts old))
  tags-more childless =
      sym (mixed-end item_name (λ (f : tags.Fact). f.name) (tags_fact old) (tags_fact items) (tags_own old) (tags_own items) items rise (n ∷ [])
      (λ y found out.
      let apart : bytes_eq y.name n ≡ false = (or_parts (bytes_eq y.name n) false out).0 in
      ap (λ up. option_map (λ cards. let g : tags.Fact = record { name = y.name; checkin = is_some (as_manifest y.artifact); parent = up; tags = assertions y cards } in g) (tag_cards y.artifact))
      (primary-same items rise x at y.name apart (sym (ap (λ b. not b && is_name (primary (links_facts items) y.name) n) apart) ∙ childless y.name))))
      ∙ mixed-added item_name (λ (f : tags.Fact). f.name) (tags_fact old) (tags_fact items) (tags_own old) (tags_own items) items rise x at

  -- one change of tags whose assertions are all on the new check-in changes no other row
  pub none-retagged : OthersStay → ((q : List ℕ) → is_child items n q ≡ false) → has_own_tags x.artifact ≡ true → (f : tags.Fact) → tags_fact items x ≡ Some f
      → (first now : TableState tags.Fact) (us : List (Change tags.Fact)) → length us ≤ 1 → Leads first us now → TagsTold us → first.facts ≡ tags_facts old → now.facts ≡ tags_facts items → NoneRetagged items n us
  none-retagged law childless own f is first now us single lead told before after q listed = by (bytes_eq q n) refl
    where
      rise_old : Rise old
      rise_old = rising-out item_name x.name items rise

      named_f : f.name ≡ x.name
      named_f = if_some (λ (f : tags.Fact). f.name ≡ x.name) (tags_fact items x) f is (tags_own items x)

      same : bytes_eq q n ≡ false → tags_row (tags_facts items) q ≡ tags_row (tags_facts old) q
      same apart =
          ap (λ fs. tags_row fs q) (tags-more childless ∙ ap (λ o. by_name (λ (f : tags.Fact). f.name) (cons_option o (tags_facts old))) is)
          ∙ law (tags_facts old) f (rising-given item_name (λ (f : tags.Fact). f.name) (tags_fact old) (tags_own old) old rise_old) (tags-fit old rise_old)
          (ap (has (map (λ (f : tags.Fact). f.name) (tags_facts old))) named_f ∙ given-absent item_name (λ (f : tags.Fact). f.name) (tags_fact old) (tags_own old) items rise x.name)
          (tags-fit-added items rise x at f is) (tags-own_targets (links_facts items) x f is own) q (ap (bytes_eq q) named_f ∙ apart)

      by : (b : Bool) → bytes_eq q n ≡ b → (not b && is_some (checkin items q)) ≡ false
      by true e = refl
      by false e = absurd (told-other tags_row first now us single lead told q listed (ap (λ fs. tags_row fs q) after ∙ same e ∙ ap (λ fs. tags_row fs q) (sym before)))

-- ---- numbers

all-not : (x : List ℕ) (xs : List (List ℕ)) → list_all (λ y. not (bytes_eq x y)) xs ≡ true → AllByRecursion (λ y. bytes_eq x y ≡ false) xs
all-not x [] h = tt
all-not x (y ∷ ys) h = let parts = and_parts (not (bytes_eq x y)) _ h in (not-true (bytes_eq x y) parts.0, all-not x ys parts.1)

distinct : (xs : List (List ℕ)) → all_differ xs ≡ true → IsDistinct bytes_eq xs
unfolding IsDistinct
distinct [] h = tt
distinct (x ∷ xs) h = let parts = and_parts (list_all (λ y. not (bytes_eq x y)) xs) (all_differ xs) h in (all-not x xs parts.0, distinct xs parts.1)

-- names that differ are no more than the list that has them
pub differ-within : (xs ys : List (List ℕ)) → all_differ xs ≡ true → ((q : List ℕ) → has xs q ≡ true → has ys q ≡ true) → length xs ≤ length ys
differ-within xs ys apart among = length-le_from_is_member nat_list_eq_equiv xs ys (distinct xs apart) among

-- own names among references that differ do so too
own-apart : (x : List ℕ) (refs : List Ref) → list_all (λ y. not (bytes_eq x (ref_bytes y))) refs ≡ true → list_all (λ y. not (bytes_eq x y)) (own_names refs) ≡ true
own-apart x [] h = refl
own-apart x (Own name ∷ refs) h = let parts = and_parts (not (bytes_eq x name)) _ h in rw (parts.0, own-apart x refs parts.1) refl
own-apart x (Foreign bytes ∷ refs) h = own-apart x refs (and_parts (not (bytes_eq x bytes)) _ h).1

own-differ : (refs : List Ref) → refs_differ refs ≡ true → all_differ (own_names refs) ≡ true
own-differ [] h = refl
own-differ (Own name ∷ refs) h = let parts = and_parts _ (refs_differ refs) h in rw (own-apart name refs parts.0, own-differ refs parts.1) refl
own-differ (Foreign bytes ∷ refs) h = own-differ refs (and_parts _ (refs_differ refs) h).1

-- the parents of a check-in are among its references
pub parents-within : (text : List ℕ) (m : Manifest) → IsKind text (kind.Manifest m) → length (parent_names m) ≤ length (references (kind.Manifest m))
parents-within text m is = differ-within (parent_names m) (references (kind.Manifest m)) (own-differ m.parents is.2.parents.differ) among
  where
    among : (q : List ℕ) → has (parent_names m) q ≡ true → has (references (kind.Manifest m)) q ≡ true
    among q there =
        has-ascending (manifest_names m) q
        ∙ five-among (option_to_list m.baseline) (flat_map (λ file. own_names (option_to_list file.hash)) m.files) (parent_names m) (flat_map (λ pick. own_names (pick.target ∷ option_to_list pick.other)) m.picks) (tag_targets m.tags) q there

-- what a check-in counts of another
pub counted-is : (items : List Item) (o : Option (List ℕ)) → counted (files_facts items) o ≡ option_map_or (file_count items) o 0
counted-is items None = refl
counted-is items (Some b) = by (listing.known (listing.files (files_facts items) b))
  where
    by : {X : Type 0} (o : Option (List X)) → length (unwrap_or o []) ≡ option_map_or length o 0
    by None = refl
    by (Some l) = refl
