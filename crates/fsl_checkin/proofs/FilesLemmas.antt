-- The files of a check-in, by the manifest of its name.
use Rattle.std.proofs.Common.{◌≡◌, ℕ, Bool, true, false, cond, List, [], ◌∷◌, ◌++◌, map, Option, Some, None, Result, is_some, refl, sym, ap, subst, ◌∙◌, IsTrue}
use Rattle.std.specs.Prelude.{◌≢◌, All, IfOk, IfNone, filter, option_map, option_and_then, slice_get, unwrap_or}
use Rattle.std.specs.List.{AllByRecursion, AllZip, list_all}
use Rattle.std.specs.List.Sorted.{IsStrictlySortedBy}
use Rattle.std.specs.Option.{option_map_or}
use Rattle.std.proofs.lemmas.Bool.{and_from}
use Rattle.std.proofs.lemmas.List.Elements.{All-head, All-tail}
use Rattle.fsl_order.specs.Names.{bytes_cmp}
use Rattle.fsl_order.specs.Rows.{by_name, in_order, named}
use Rattle.fsl_order.proofs.RowLemmas.{named-All}
use Rattle.fsl_name.proofs.Rising.{rising-filter}
use Rattle.fsl_manifest.specs.declared.Manifest.{Manifest}
use Rattle.fsl_files.specs.declared.Fact.{Fact}
use Rattle.fsl_files.specs.declared.FileRow.{FileRow}
use Rattle.fsl_files.specs.declared.Listing.{Listing}
use Rattle.fsl_files.specs.declared.Listing.TheVariants as listing
use Rattle.fsl_files.specs.Conditions.{IsFilesFact}
use Rattle.fsl_files.specs.Files.{checkin, files, known, listing as listing_of, over, overlay}
use Rattle.fsl_files.proofs.Ordered.{in_order-rises, sorted-rises}
use Rattle.fsl_blobs.specs.Fold.{HeldSet}
use Rattle.fsl_cross.specs.declared.Item.{Item}
use Rattle.fsl_cross.specs.Facts.{as_manifest, file_row, files_fact, parent_names}
use Rattle.fsl_cross.specs.Tables.{files_facts}
use Rattle.fsl_cross.proofs.FactLemmas.{Rise, set-rising}
use Rattle.fsl_cross.proofs.FileLemmas.{files-fit}
use Rattle.fsl_cross.proofs.Mapped.{named-given}
use Rattle.fsl_cross.proofs.Moved.{item_name}
use Rattle.fsl_cross.proofs.TableLemmas.{files-by_name, files-own}
use Rattle.fsl_repo.specs.Machine.{AreItems, State, now}
use Rattle.fsl_name.specs.declared.reference.Ref.{Ref}
use Rattle.fsl_name.specs.declared.reference.Ref.TheVariants.{Own}
use Rattle.fsl_repo.proofs.ItemLemmas.{items_are, items_rise}
use Rattle.fsl_checkin.specs.declared.types.TreeItem.{TreeItem}
use Rattle.fsl_checkin.specs.declared.answers.Export.{Export}
use Rattle.fsl_checkin.specs.declared.answers.Export.TheVariants as export
use Rattle.fsl_checkin.specs.declared.answers.ExportFault.{ExportFault}
use Rattle.fsl_checkin.specs.declared.answers.Verdict.{Verdict}
use Rattle.fsl_checkin.specs.declared.answers.Verdict.TheVariants as verdict
use Rattle.fsl_checkin.specs.Exports.{IsExport, IsVerdict, checkin_at, checkins, items_at, kept_sum, missing, missing_in, tree}
use Rattle.fsl_checkin.specs.Having.{IsFilled, IsJudged}
use Rattle.fsl_checkin.specs.Reads.{AreCardsRead, IsExportRead, IsLacking, IsMissingIn, IsMissingRead, IsReadFile, IsReadTree, IsSumRead, IsVerdictRead, Kept, baseline_or, kept_by}
use Rattle.fsl_checkin.specs.Sums.{sum}
use Rattle.fsl_checkin.proofs.HavingLemmas.{all_due, content_due, if_ok_map, kept_held, sum_of}

pub checkins_are : (items : List Item) → Rise items → checkins items ≡ files_facts items
checkins_are items rise = ap (λ set. by_name (λ f. f.name) (files_facts set)) (set-rising items rise) ∙ files-by_name items rise

checkin_found : (items : List Item) → Rise items → (name : List ℕ) → checkin (checkins items) name ≡ option_and_then files_fact (named item_name items name)
checkin_found items rise name = ap (λ (fs : List Fact). named (λ f. f.name) fs name) (checkins_are items rise) ∙ named-given item_name (λ f. f.name) files_fact files-own items rise name

-- the files of a manifest
abbrev pub files_by : List Item → Manifest → Listing
files_by items m = option_map_or (λ base. over (map file_row m.files) (checkin (checkins items) base)) m.baseline (listing.Known (map file_row m.files))

pub files_are : (items : List Item) → Rise items → (name : List ℕ) → files (checkins items) name ≡ option_map_or (files_by items) (checkin_at items name) listing.NotCheckin
files_are items rise name =
    ap (λ (o : Option Fact). option_map_or (listing_of (checkins items)) o listing.NotCheckin) (checkin_found items rise name) ∙ by (named item_name items name)
  where
    inner : (item : Item) (o : Option Manifest)
        → option_map_or (listing_of (checkins items)) (option_map (λ m. let f : Fact = record { name = item.name; baseline = m.baseline; parent = slice_get (parent_names m) 0; files = map file_row m.files } in f) o) listing.NotCheckin
        ≡ option_map_or (files_by items) o listing.NotCheckin
    inner item None = refl
    inner item (Some m) = refl

    by : (o : Option Item) → option_map_or (listing_of (checkins items)) (option_and_then files_fact o) listing.NotCheckin ≡ option_map_or (files_by items) (option_and_then (λ (i : Item). as_manifest i.artifact) o) listing.NotCheckin
    by None = refl
    by (Some item) = inner item (as_manifest item.artifact)

-- ---- which answers there are

over_some : (rows : List FileRow) (o : Option Fact) → over rows o ≡ listing.NotCheckin → ⊥
over_some rows None h = cc
over_some rows (Some base) h = by (is_some base.baseline) h
  where
    by : (b : Bool) → cond b listing.NoBaseline (listing.Known (overlay base.files rows)) ≡ listing.NotCheckin → ⊥
    by true h = cc
    by false h = cc

files_some : (items : List Item) (m : Manifest) → files_by items m ≡ listing.NotCheckin → ⊥
files_some items m h = by m.baseline h
  where
    by : (o : Option (List ℕ)) → option_map_or (λ base. over (map file_row m.files) (checkin (checkins items) base)) o (listing.Known (map file_row m.files)) ≡ listing.NotCheckin → ⊥
    by None h = cc
    by (Some base) h = over_some (map file_row m.files) (checkin (checkins items) base) h

pub not_checkin : (items : List Item) → Rise items → (name : List ℕ) → files (checkins items) name ≡ listing.NotCheckin → checkin_at items name ≡ None
not_checkin items rise name h = by (checkin_at items name) (sym (files_are items rise name) ∙ h)
  where
    by : (o : Option Manifest) → option_map_or (files_by items) o listing.NotCheckin ≡ listing.NotCheckin → o ≡ None
    by None h = refl
    by (Some m) h = absurd (files_some items m h)

pub no_baseline : (items : List Item) → Rise items → (name : List ℕ) → files (checkins items) name ≡ listing.NoBaseline → (m : Manifest) × (checkin_at items name ≡ Some m) × (is_some m.baseline ≡ true)
no_baseline items rise name h = by (checkin_at items name) refl (sym (files_are items rise name) ∙ h)
  where
    based : (m : Manifest) (o : Option (List ℕ)) → option_map_or (λ base. over (map file_row m.files) (checkin (checkins items) base)) o (listing.Known (map file_row m.files)) ≡ listing.NoBaseline → is_some o ≡ true
    based m None h = absurd cc
    based m (Some base) h = refl

    by : (o : Option Manifest) → checkin_at items name ≡ o → option_map_or (files_by items) o listing.NotCheckin ≡ listing.NoBaseline → (m : Manifest) × (checkin_at items name ≡ Some m) × (is_some m.baseline ≡ true)
    by None e h = absurd cc
    by (Some m) e h = (m, e, based m m.baseline h)

-- ---- files that are defined

-- each has a hash, and they rise by path
pub record AreFit (rows : List FileRow) : Type 0 where
  pub hashed : list_all (λ r. is_some r.hash) rows ≡ true
  pub rising : IsStrictlySortedBy bytes_cmp (map (λ r. r.path) rows)

each_fit : (fs : List Fact) → All IsFilesFact fs → AllByRecursion IsFilesFact fs
each_fit [] all = tt
each_fit (f ∷ fs) all = (All-head IsFilesFact f fs all, each_fit fs (All-tail IsFilesFact f fs all))

all_pass : (p : FileRow → Bool) (rows : List FileRow) → list_all p (filter p rows) ≡ true
all_pass p [] = refl
all_pass p (r ∷ rows) = by (all_pass p rows) (p r) refl
  where
    by : list_all p (filter p rows) ≡ true → (b : Bool) → p r ≡ b → list_all p (cond b (r ∷ filter p rows) (filter p rows)) ≡ true
    by rest true e = and_from (p r) (list_all p (filter p rows)) e rest
    by rest false e = rest

overlay_fit : (base rows : List FileRow) → AreFit (overlay base rows)
overlay_fit base rows = record {
  hashed = all_pass (λ r. is_some r.hash) (in_order bytes_cmp (λ r. r.path) (rows ++ base));
  rising = rising-filter (λ (r : FileRow). r.path) (λ r. is_some r.hash) (in_order bytes_cmp (λ r. r.path) (rows ++ base)) (in_order-rises (λ (r : FileRow). r.path) (rows ++ base));
}

known_is : (a b : List FileRow) → listing.Known a ≡ listing.Known b → a ≡ b
known_is a b h = cc

over_fit : (rows own : List FileRow) (o : Option Fact) → over own o ≡ listing.Known rows → AreFit rows
over_fit rows own None h = absurd cc
over_fit rows own (Some base) h = by (is_some base.baseline) h
  where
    by : (b : Bool) → cond b listing.NoBaseline (listing.Known (overlay base.files own)) ≡ listing.Known rows → AreFit rows
    by true h = absurd cc
    by false h = subst AreFit (known_is (overlay base.files own) rows h) (overlay_fit base.files own)

pub known_fit : (held : HeldSet) (items : List Item) → AreItems held items → (name : List ℕ) (rows : List FileRow) → files (checkins items) name ≡ listing.Known rows → AreFit rows
known_fit held items each name rows h = by (checkin (checkins items) name) refl h
  where
    all : AllByRecursion IsFilesFact (checkins items)
    all = subst (AllByRecursion IsFilesFact) (sym (checkins_are items (items_rise held items each))) (each_fit (files_facts items) (files-fit items (items_are held items each)))

    own : (f : Fact) → IsFilesFact f → (o : Option (List ℕ)) → f.baseline ≡ o → option_map_or (λ base. over f.files (checkin (checkins items) base)) o (listing.Known f.files) ≡ listing.Known rows → AreFit rows
    own f fit None e h =
        let whole : IsTrue (list_all (λ r. is_some r.hash) f.files) = subst (λ (o : Option (List ℕ)). IfNone o (IsTrue (list_all (λ r. is_some r.hash) f.files))) e fit.whole in
        subst AreFit (known_is f.files rows h) (record { hashed = whole; rising = sorted-rises (map (λ r. r.path) f.files) fit.rising })
    own f fit (Some base) e h = over_fit rows f.files (checkin (checkins items) base) h

    by : (o : Option Fact) → checkin (checkins items) name ≡ o → option_map_or (listing_of (checkins items)) o listing.NotCheckin ≡ listing.Known rows → AreFit rows
    by None e h = absurd cc
    by (Some f) e h = own f (named-All (λ f. f.name) IsFilesFact (checkins items) all name f e) f.baseline refl h

-- ---- which names are check-ins

pub no_files : (items : List Item) → Rise items → (name : List ℕ) → checkin_at items name ≡ None → files (checkins items) name ≡ listing.NotCheckin
no_files items rise name none = files_are items rise name ∙ ap (λ (o : Option Manifest). option_map_or (files_by items) o listing.NotCheckin) none

pub known_checkin : (items : List Item) → Rise items → (name : List ℕ) (rows : List FileRow) → files (checkins items) name ≡ listing.Known rows → checkin_at items name ≢ None
known_checkin items rise name rows is none = let other : listing.Known rows ≡ listing.NotCheckin = sym is ∙ no_files items rise name none in cc

pub baseline_checkin : (items : List Item) → Rise items → (name : List ℕ) → files (checkins items) name ≡ listing.NoBaseline → checkin_at items name ≢ None
baseline_checkin items rise name is none = let other : listing.NoBaseline ≡ listing.NotCheckin = sym is ∙ no_files items rise name none in cc

-- ---- answers by what is read

module _ (honest : Bool) (held : HeldSet) (items : List Item) (name : List ℕ) where
  abbrev listed : Listing
  listed = files (checkins items) name

  -- of files that are defined
  module _ (rows : List FileRow) (is : listed ≡ listing.Known rows) where
    no_tree : items_at held rows ≡ None → tree held items name ≡ None
    no_tree none = ap (λ (l : Listing). option_and_then (items_at held) (known l)) is ∙ none

    first_told : (m : Ref) → IsMissingIn honest held name (listing.Known rows) m → IsMissingRead honest held items name m
    first_told m first = subst (λ (l : Listing). IsMissingIn honest held name l m) (sym is) first

    read_tree : (t : List TreeItem) → AllZip (IsReadFile honest held) rows t → IsReadTree honest held items name t
    read_tree t all = (rows, ap known is, all)

  -- of files that aren't
  lacks : listed ≡ listing.NoBaseline → (kept : Kept) → AreCardsRead honest held name kept → IsLacking honest held items name (Own (baseline_or name kept))
  lacks is kept cards = (
    ap (λ (l : Listing). option_and_then (items_at held) (known l)) is,
    subst (λ (l : Listing). IsMissingIn honest held name l (Own (baseline_or name kept))) (sym is) (kept, cards, refl),
  )

-- by a repository's state
module _ (s : State) (items : List Item) (name : List ℕ) where
  abbrev held_now : HeldSet
  held_now = (now s).held

  module _ (rows : List FileRow) (is : files (checkins items) name ≡ listing.Known rows) where
    pub export_known : (e : Export) → IsFilled s rows e → IsExportRead s.honest held_now items name e
    export_known export.NotCheckin f = absurd f
    export_known (export.Incomplete m) f = (no_tree s.honest held_now items name rows is f.0, first_told s.honest held_now items name rows is m f.1)
    export_known (export.Tree t) f = read_tree s.honest held_now items name rows is t f

    module _ (kept : Kept) (cards : AreCardsRead s.honest held_now name kept) (checksum : List ℕ) (has : kept.checksum ≡ Some checksum) (rise : IsStrictlySortedBy bytes_cmp (map (λ r. r.path) rows)) where
      pub verdict_known : (v : Verdict) → IsJudged s rows checksum v → IsVerdictRead s.honest held_now items name v
      verdict_known verdict.NotCheckin j = absurd j
      verdict_known verdict.NoSum j = absurd j
      verdict_known (verdict.Incomplete m) j = (
        (checksum, (kept, cards, sym has)),
        (no_tree s.honest held_now items name rows is j.0, first_told s.honest held_now items name rows is m j.1),
      )
      verdict_known (verdict.Wrong k f) j = (
        (kept, cards, ap Some j.0 ∙ sym has),
        (j.2.0, read_tree s.honest held_now items name rows is j.2.0 j.2.1, j.2.2 ∙ sym (sum_of s.honest held_now rows j.2.0 rise j.2.1)),
        λ e. j.1 (sym j.0 ∙ e),
      )
      verdict_known verdict.Right j =
          (j.0, read_tree s.honest held_now items name rows is j.0 j.1, (kept, cards, ap Some (sum_of s.honest held_now rows j.0 rise j.1 ∙ sym j.2) ∙ sym has))

  pub export_baseline : files (checkins items) name ≡ listing.NoBaseline → (kept : Kept) → AreCardsRead s.honest held_now name kept → (m : Ref) → m ≡ Own (baseline_or name kept)
      → IsExportRead s.honest held_now items name (export.Incomplete m)
  export_baseline is kept cards m same =
      subst (λ (r : Ref). IsExportRead s.honest held_now items name (export.Incomplete r)) (sym same) (lacks s.honest held_now items name is kept cards)

  pub verdict_baseline : files (checkins items) name ≡ listing.NoBaseline → (kept : Kept) → AreCardsRead s.honest held_now name kept → (checksum : List ℕ) → kept.checksum ≡ Some checksum → (m : Ref) → m ≡ Own (baseline_or name kept)
      → IsVerdictRead s.honest held_now items name (verdict.Incomplete m)
  verdict_baseline is kept cards checksum has m same =
      subst (λ (r : Ref). IsVerdictRead s.honest held_now items name (verdict.Incomplete r)) (sym same) ((checksum, (kept, cards, sym has)), lacks s.honest held_now items name is kept cards)

  pub verdict_no_sum : checkin_at items name ≢ None → (kept : Kept) → AreCardsRead s.honest held_now name kept → kept.checksum ≡ None → IsVerdictRead s.honest held_now items name verdict.NoSum
  verdict_no_sum is kept cards none = (is, (kept, cards, sym none))

-- ---- answers over an honest disk

module _ (held : HeldSet) (items : List Item) (name : List ℕ) (each : AreItems held items) where
  cards_due : (kept : Kept) → AreCardsRead true held name kept → kept ≡ kept_by (checkin_at items name)
  cards_due kept cards = kept_held held items name cards.0 kept each (content_due held name cards.0 cards.1) cards.2

  sum_due : (c : Option (List ℕ)) → IsSumRead true held name c → kept_sum items name ≡ c
  sum_due c read = ap (λ (k : Kept). k.checksum) (sym (cards_due read.0 read.1)) ∙ sym read.2

  tree_due : (t : List TreeItem) → IsReadTree true held items name t → tree held items name ≡ Some t
  tree_due t read = ap (λ (o : Option (List FileRow)). option_and_then (items_at held) o) read.1 ∙ all_due held read.0 t read.2

  some_there : (o : Option (List ℕ)) → is_some o ≡ true → (x : List ℕ) × (o ≡ Some x)
  some_there None h = absurd cc
  some_there (Some x) h = (x, refl)

  baseline_due : files (checkins items) name ≡ listing.NoBaseline → (kept : Kept) → AreCardsRead true held name kept → option_map Own (option_and_then (λ m. m.baseline) (checkin_at items name)) ≡ Some (Own (baseline_or name kept))
  baseline_due is kept cards =
      let b = no_baseline items (items_rise held items each) name is in
      let x = some_there (b.0).baseline b.2 in
      let told : option_and_then (λ m. m.baseline) (checkin_at items name) ≡ Some x.0 = ap (λ (o : Option Manifest). option_and_then (λ m. m.baseline) o) b.1 ∙ x.1 in
      let own : kept.baseline ≡ Some x.0 = ap (λ (k : Kept). k.baseline) (cards_due kept cards) ∙ told in
      ap (option_map Own) told ∙ ap (λ (o : Option (List ℕ)). Some (Own (unwrap_or o name))) (sym own)

  missing_by : (l : Listing) → files (checkins items) name ≡ l → (m : Ref) → IsMissingIn true held name l m → missing held items name ≡ Some m
  missing_by listing.NotCheckin is m h = absurd h
  missing_by listing.NoBaseline is m h =
      ap (missing_in held (option_and_then (λ m. m.baseline) (checkin_at items name))) is ∙ baseline_due is h.0 h.1 ∙ ap Some (sym h.2)
  missing_by (listing.Known rows) is m h = ap (missing_in held (option_and_then (λ m. m.baseline) (checkin_at items name))) is ∙ h

  missing_due : (m : Ref) → IsMissingRead true held items name m → missing held items name ≡ Some m
  missing_due m h = missing_by (files (checkins items) name) refl m h

  pub export_due : (e : Export) → IsExportRead true held items name e → IsExport held items name e
  export_due export.NotCheckin h = h
  export_due (export.Incomplete m) h = (h.0, missing_due m h.1)
  export_due (export.Tree t) h = tree_due t h

  some_sum : (c : List ℕ) → IsSumRead true held name (Some c) → kept_sum items name ≢ None
  some_sum c read none = let no : Some c ≡ None = sym (sum_due (Some c) read) ∙ none in cc

  pub verdict_due : (v : Verdict) → IsVerdictRead true held items name v → IsVerdict held items name v
  verdict_due verdict.NotCheckin h = h
  verdict_due verdict.NoSum h = (h.0, sum_due None h.1)
  verdict_due (verdict.Incomplete m) h = (some_sum h.0.0 h.0.1, h.1.0, missing_due m h.1.1)
  verdict_due (verdict.Wrong kept found) h =
      (sum_due (Some kept) h.0, ap (λ (o : Option (List TreeItem)). option_map sum o) (tree_due h.1.0 h.1.1) ∙ ap Some (sym h.1.2), h.2)
  verdict_due verdict.Right h =
      (some_sum (sum h.0) h.2, ap (λ (o : Option (List TreeItem)). option_map sum o) (tree_due h.0 h.1) ∙ sym (sum_due (Some (sum h.0)) h.2))

-- of a call over an honest disk
pub exports_due : (s : State) (items : List Item) (name : List ℕ) (result : Result Export ExportFault) → AreItems (now s).held items → s.honest ≡ true
    → IfOk result (λ e. IsExportRead s.honest (now s).held items name e) → IfOk result (IsExport (now s).held items name)
exports_due s items name result each honest h =
    if_ok_map result (λ e. IsExportRead s.honest (now s).held items name e) (IsExport (now s).held items name)
    (λ e r. export_due (now s).held items name each e (subst (λ (b : Bool). IsExportRead b (now s).held items name e) honest r)) h

pub verdicts_due : (s : State) (items : List Item) (name : List ℕ) (result : Result Verdict ExportFault) → AreItems (now s).held items → s.honest ≡ true
    → IfOk result (λ v. IsVerdictRead s.honest (now s).held items name v) → IfOk result (IsVerdict (now s).held items name)
verdicts_due s items name result each honest h =
    if_ok_map result (λ v. IsVerdictRead s.honest (now s).held items name v) (IsVerdict (now s).held items name)
    (λ v r. verdict_due (now s).held items name each v (subst (λ (b : Bool). IsVerdictRead b (now s).held items name v) honest r)) h
