-- What a repository holds of a check-in, as it is read.
use Rattle.std.proofs.Common.{◌≡◌, ◌≢◌, inl, inr, ℕ, suc, ◌+◌, ◌<◌, ◌≤◌, Bool, true, false, cond, List, [], ◌∷◌, ◌++◌, length, take, drop, get_or, map, Option, Some, None, Result, Ok, Err, is_some, refl, sym, ap, subst, ◌∙◌, arith}
use Rattle.std.specs.Prelude.{◌||◌, find, flat_map, is_none, option_map, option_and_then, IfOk, IfErr}
use Rattle.std.specs.List.{AllZip, cons_option, list_all}
use Rattle.std.specs.List.Sorted.{IsStrictlySortedBy}
use Rattle.std.specs.Ordering.{is_eq, eq_by_cmp}
use Rattle.std.specs.Cmp.{eq_by_cmp_equiv}
use Rattle.std.specs.Cmp.Lexicographic.{bytes_decides, texts_ties}
use Rattle.std.specs.Str.{bytes_eq}
use Rattle.std.specs.FinMap as map_of
use Rattle.std.specs.FinMap.{find as find_entry}
use Rattle.std.proofs.lemmas.Bool.{or_right}
use Rattle.std.proofs.lemmas.List.{take-append-drop, append-nil, take_all, take_more}
use Rattle.std.proofs.lemmas.List.Concat.{flat_map-append}
use Rattle.std.proofs.Math.Seq.{drop-cons}
use Rattle.md5.specs.Md5.{md5}
use Rattle.fsl_name.specs.declared.reference.Ref.{Ref}
use Rattle.fsl_order.specs.Names.{bytes_cmp, has}
use Rattle.fsl_order.specs.Rows.{named}
use Rattle.fsl_order.proofs.Booleans.{first_holds, second_holds}
use Rattle.fsl_order.proofs.Orders.{bytes_cmp-IsTotalOrder}
use Rattle.fsl_order.proofs.RowLemmas.{is_some-named}
use Rattle.fsl_order.proofs.SortedLemmas.{in_order-sorted}
use Rattle.fsl_artifact.specs.declared.Artifact.{Artifact}
use Rattle.fsl_artifact.specs.Kind.{IsKind}
use Rattle.fsl_artifact.proofs.OneKind.{one_artifact}
use Rattle.fsl_files.specs.declared.FileRow.{FileRow}
use Rattle.fsl_files.specs.declared.Listing.{Listing}
use Rattle.fsl_files.specs.declared.Listing.TheVariants as listing
use Rattle.fsl_files.specs.Files.{files}
use Rattle.fsl_blobs.specs.Fold.{Held, HeldSet}
use Rattle.fsl_cross.specs.declared.Item.{Item}
use Rattle.fsl_cross.specs.Facts.{as_manifest}
use Rattle.fsl_disk.specs.Disk.{DiskState}
use Rattle.fsl_disk.proofs.Moments.{quiet_on}
use Rattle.fsl_blobs.specs.declared.BlobFault.TheVariants as blob_fault
use Rattle.fsl_blobs.proofs.ContentLemmas.{quiet-same}
use Rattle.fsl_repo.specs.Contents.{ContentFails, IsContentNow}
use Rattle.fsl_repo.specs.Machine.{AreItems, IsItemOf, Leaves, State, now}
use Rattle.fsl_repo.specs.Whole.{Whole}
use Rattle.fsl_repo.proofs.HeldMore.{absent_items}
use Rattle.fsl_repo.proofs.Zipped.{AllZip-push}
use Rattle.fsl_checkin.specs.declared.types.TreeItem.{TreeItem}
use Rattle.fsl_checkin.specs.declared.answers.Export.{Export}
use Rattle.fsl_checkin.specs.declared.answers.Export.TheVariants as export
use Rattle.fsl_checkin.specs.declared.answers.ExportFault.{ExportFault}
use Rattle.fsl_checkin.specs.declared.answers.ExportFault.TheVariants as fault
use Rattle.fsl_checkin.specs.Exports.{all_there, checkin_at, checkins, content_name, first_missing, held_at, item_at, items_at, perm_of, with_first}
use Rattle.fsl_checkin.specs.Having.{IsFilled, IsLackingOf}
use Rattle.fsl_checkin.specs.Reads.{AreCardsOf, AskFails, ExportFails, FilesFail, HasSumRead, IsOnlyRead, IsReadContent, IsReadFile, IsTestedIn, Kept, asked_files, content_names, kept_by, up_to_missing}
use Rattle.fsl_checkin.specs.Sums.{sum, summed_file}

-- ---- the item of a held name

alike : (i : Item) (entry : List ℕ × Held) (name : List ℕ) → IsItemOf entry i → bytes_eq i.name name ≡ eq_by_cmp bytes_cmp name entry.0
alike i entry name is = texts_ties i.name name ∙ ap (λ (n : List ℕ). eq_by_cmp bytes_cmp n name) is.name ∙ (eq_by_cmp_equiv bytes_cmp-IsTotalOrder).symm entry.0 name

-- the item of a name that is found
pub record IsNamed (items : List Item) (name : List ℕ) (bytes : List ℕ) : Type 0 where
  pub item : Item
  pub found : named (λ i. i.name) items name ≡ Some item
  pub kind : IsKind bytes item.artifact

named_entry : (name : List ℕ) (a : Held) (es : List (List ℕ × Held)) (items : List Item) → AllZip IsItemOf es items → find_entry bytes_cmp name es ≡ Some a → IsNamed items name a.bytes
named_entry name a [] [] all found = absurd cc
named_entry name a [] (i ∷ items) all found = absurd all
named_entry name a (e ∷ es) [] all found = absurd all
named_entry name a (e ∷ es) (i ∷ items) all found = by (λ h. named_entry name a es items all.1 h) (is_eq (bytes_cmp name e.0)) (alike i e name all.0) found
  where
    by : (find_entry bytes_cmp name es ≡ Some a → IsNamed items name a.bytes) → (b : Bool) → bytes_eq i.name name ≡ b → cond b (Some e.1) (find_entry bytes_cmp name es) ≡ Some a → IsNamed (i ∷ items) name a.bytes
    by more true t h =
        let same : e.1 ≡ a = cc in
        record { item = i; found = ap (λ (b : Bool). cond b (Some i) (named (λ i. i.name) items name)) t; kind = subst (λ (x : Held). IsKind x.bytes i.artifact) same all.0.kind }
    by more false t h =
        let rest = more h in
        record { item = rest.item; found = ap (λ (b : Bool). cond b (Some i) (named (λ i. i.name) items name)) t ∙ rest.found; kind = rest.kind }

held_is : (o : Option Held) (bytes : List ℕ) → option_map (λ a. a.bytes) o ≡ Some bytes → (a : Held) × (o ≡ Some a) × (a.bytes ≡ bytes)
held_is None bytes h = absurd cc
held_is (Some a) bytes h = (a, refl, cc)

held_none : (o : Option Held) → option_map (λ a. a.bytes) o ≡ None → o ≡ None
held_none None h = refl
held_none (Some a) h = absurd cc

pub named_held : (held : HeldSet) (items : List Item) (name bytes : List ℕ) → AreItems held items → held_at held name ≡ Some bytes → IsNamed items name bytes
named_held held items name bytes each h =
    let a = held_is (map_of.get held name) bytes h in
    subst (IsNamed items name) a.2 (named_entry name a.0 (map_of.entries held) items each (sym (map_of.get-entries held name) ∙ a.1))

none_from : {X : Type 0} (o : Option X) → is_some o ≡ false → o ≡ None
none_from None h = refl
none_from (Some x) h = absurd cc

pub named_absent : (held : HeldSet) (items : List Item) (name : List ℕ) → AreItems held items → held_at held name ≡ None → named (λ i. i.name) items name ≡ None
named_absent held items name each h =
    none_from (named (λ i. i.name) items name) (is_some-named (λ i. i.name) items name ∙ absent_items held items name each (held_none (map_of.get held name) h))

-- ---- the cards of a check-in

pub kept_held : (held : HeldSet) (items : List Item) (name bytes : List ℕ) (kept : Kept) → AreItems held items → held_at held name ≡ Some bytes → AreCardsOf bytes kept → kept ≡ kept_by (checkin_at items name)
kept_held held items name bytes kept each h are =
    let n = named_held held items name bytes each h in
    are.2 ∙ ap (λ (a : Artifact). kept_by (as_manifest a)) (one_artifact bytes are.0 n.item.artifact are.1 n.kind)
    ∙ sym (ap (λ (o : Option Item). kept_by (option_and_then (λ (i : Item). as_manifest i.artifact) o)) n.found)

-- a check-in is held
pub never_absent : (held : HeldSet) (items : List Item) (name : List ℕ) → AreItems held items → checkin_at items name ≢ None → map_of.get held name ≡ None → ⊥
never_absent held items name each is none =
    is (ap (λ (o : Option Item). option_and_then (λ (i : Item). as_manifest i.artifact) o) (named_absent held items name each (ap (λ (o : Option Held). option_map (λ a. a.bytes) o) none)))

-- ---- files with their contents

abbrev with_bytes : FileRow → List ℕ → TreeItem
with_bytes file bytes = record { path = file.path; perm = perm_of file.perm; bytes = bytes }

pub item_there : (held : HeldSet) (file : FileRow) (name bytes : List ℕ) → content_name file ≡ Some name → held_at held name ≡ Some bytes
    → item_at held file ≡ Some (record { path = file.path; perm = perm_of file.perm; bytes = bytes })
item_there held file name bytes h b =
    ap (λ (o : Option (List ℕ)). option_map (with_bytes file) (option_and_then (held_at held) o)) h ∙ ap (option_map (with_bytes file)) b

pub item_foreign : (held : HeldSet) (file : FileRow) → content_name file ≡ None → item_at held file ≡ None
item_foreign held file h = ap (λ (o : Option (List ℕ)). option_map (with_bytes file) (option_and_then (held_at held) o)) h

pub item_absent : (held : HeldSet) (file : FileRow) (name : List ℕ) → content_name file ≡ Some name → map_of.get held name ≡ None → item_at held file ≡ None
item_absent held file name h none =
    ap (λ (o : Option (List ℕ)). option_map (with_bytes file) (option_and_then (held_at held) o)) h
    ∙ ap (λ (o : Option Held). option_map (with_bytes file) (option_map (λ a. a.bytes) o)) none

all_none : {X : Type 0} (os rest : List (Option X)) → all_there (os ++ None ∷ rest) ≡ None
all_none [] rest = refl
all_none (None ∷ os) rest = refl
all_none (Some x ∷ os) rest = ap (option_map (λ xs. x ∷ xs)) (all_none os rest)

first_there : {X : Type 0} (x : X) (o : Option (List X)) (a : List X) → option_map (λ xs. x ∷ xs) o ≡ Some a → (b : List X) × (o ≡ Some b) × (a ≡ x ∷ b)
first_there x None a h = absurd cc
first_there x (Some b) a h = (b, refl, cc)

all_push : {X : Type 0} (os : List (Option X)) (a : List X) (x : X) → all_there os ≡ Some a → all_there (os ++ Some x ∷ []) ≡ Some (a ++ x ∷ [])
all_push [] a x h = let none : [] ≡ a = cc in ap (λ l. Some (l ++ x ∷ [])) none
all_push (None ∷ os) a x h = absurd cc
all_push (Some y ∷ os) a x h =
    let f = first_there y (all_there os) a h in
    ap (option_map (λ xs. y ∷ xs)) (all_push os f.0 x f.1) ∙ ap (λ l. Some (l ++ x ∷ [])) (sym f.2)

map_push : {X Y : Type 0} (f : X → Y) (xs : List X) (x : X) (rest : List X) → map f (xs ++ x ∷ rest) ≡ map f xs ++ f x ∷ map f rest
map_push f [] x rest = refl
map_push f (y ∷ xs) x rest = ap (λ l. f y ∷ l) (map_push f xs x rest)

-- the list at a place
pub split_at : {X : Type 0} (xs : List X) (i : ℕ) (x : X) → i < length xs → x ≡ get_or xs i x → xs ≡ take i xs ++ x ∷ drop (suc i) xs
split_at xs i x lt is = sym (take-append-drop i xs) ∙ ap (λ r. take i xs ++ r) (drop-cons xs i x lt ∙ ap (λ y. y ∷ drop (suc i) xs) (sym is))

take_next : {X : Type 0} (xs : List X) (i : ℕ) (x : X) → i < length xs → x ≡ get_or xs i x → take (i + 1) xs ≡ take i xs ++ x ∷ []
take_next xs i x lt is = take_more xs i x lt ∙ ap (λ y. take i xs ++ y ∷ []) (sym is)

find_stop : (held : HeldSet) (front rest : List FileRow) (row : FileRow) (items : List TreeItem) → items_at held front ≡ Some items → item_at held row ≡ None
    → find (λ f. is_none (item_at held f)) (front ++ row ∷ rest) ≡ Some row
find_stop held [] rest row items h none = ap (λ (o : Option TreeItem). cond (is_none o) (Some row) (find (λ f. is_none (item_at held f)) rest)) none
find_stop held (f ∷ front) rest row items h none = by (λ more e. find_stop held front rest row more e none) (item_at held f) h
  where
    by : ((more : List TreeItem) → items_at held front ≡ Some more → find (λ f. is_none (item_at held f)) (front ++ row ∷ rest) ≡ Some row) → (o : Option TreeItem) → with_first o (items_at held front) ≡ Some items → cond (is_none o) (Some f) (find (λ f. is_none (item_at held f)) (front ++ row ∷ rest)) ≡ Some row
    by on None e = absurd cc
    by on (Some x) e = let t = first_there x (items_at held front) items e in on t.0 t.1

pub items_stop : (held : HeldSet) (rows : List FileRow) (i : ℕ) (row : FileRow) (items : List TreeItem) → i < length rows → row ≡ get_or rows i row
    → items_at held (take i rows) ≡ Some items → item_at held row ≡ None → (items_at held rows ≡ None) × (first_missing held rows ≡ row.hash)
items_stop held rows i row items lt is so_far none =
    let split = split_at rows i row lt is in (
      ap (items_at held) split
          ∙ ap all_there (map_push (item_at held) (take i rows) row (drop (suc i) rows) ∙ ap (λ o. map (item_at held) (take i rows) ++ o ∷ map (item_at held) (drop (suc i) rows)) none)
          ∙ all_none (map (item_at held) (take i rows)) (map (item_at held) (drop (suc i) rows)),
      ap (λ (o : Option FileRow). option_and_then (λ (f : FileRow). f.hash) o) (ap (find (λ f. is_none (item_at held f))) split ∙ find_stop held (take i rows) (drop (suc i) rows) row items so_far none),
    )

-- a file of those that have hashes
at_front : (p : FileRow → Bool) (front rest : List FileRow) (row : FileRow) → list_all p (front ++ row ∷ rest) ≡ true → p row ≡ true
at_front p [] rest row h = first_holds (p row) (list_all p rest) h
at_front p (f ∷ front) rest row h = at_front p front rest row (second_holds (p f) (list_all p (front ++ row ∷ rest)) h)

pub hashed_at : (rows : List FileRow) (i : ℕ) (row : FileRow) → i < length rows → row ≡ get_or rows i row → list_all (λ f. is_some f.hash) rows ≡ true → is_some row.hash ≡ true
hashed_at rows i row lt is all = at_front (λ f. is_some f.hash) (take i rows) (drop (suc i) rows) row (ap (list_all (λ f. is_some f.hash)) (sym (split_at rows i row lt is)) ∙ all)

map_none : {X : Type 0} (x : X) (o : Option (List X)) → option_map (λ xs. x ∷ xs) o ≡ None → o ≡ None
map_none x None h = refl
map_none x (Some b) h = absurd cc

-- what is missing of files that have hashes is told
pub missing_some : (held : HeldSet) (rows : List FileRow) → list_all (λ f. is_some f.hash) rows ≡ true → items_at held rows ≡ None → is_some (first_missing held rows) ≡ true
missing_some held [] all h = absurd cc
missing_some held (r ∷ rows) all h =
    by (λ e. missing_some held rows (second_holds (is_some r.hash) (list_all (λ f. is_some f.hash) rows) all) e) (item_at held r) h
  where
    by : (items_at held rows ≡ None → is_some (first_missing held rows) ≡ true) → (o : Option TreeItem) → with_first o (items_at held rows) ≡ None
        → is_some (option_and_then (λ (f : FileRow). f.hash) (cond (is_none o) (Some r) (find (λ f. is_none (item_at held f)) rows))) ≡ true
    by on None e = first_holds (is_some r.hash) (list_all (λ f. is_some f.hash) rows) all
    by on (Some x) e = on (map_none x (items_at held rows) e)

-- files, or what is missing of them
pub filled_lacking : (s : State) (rows : List FileRow) (o : Option Ref) (e : Export) → IsLackingOf o e → items_at (now s).held rows ≡ None → first_missing (now s).held rows ≡ o → IsFilled s rows e
filled_lacking s rows o export.NotCheckin lack none first = absurd lack
filled_lacking s rows o (export.Incomplete m) lack none first = (none, first ∙ lack)
filled_lacking s rows o (export.Tree items) lack none first = absurd lack

-- ---- files that are read

-- a content as a repository answers it
pub content_read : (s : State) (name text : List ℕ) → IsContentNow s name text → IsReadContent s.honest (now s).held name text
content_read s name text c = record {
  content = (c.artifact).bytes;
  is_held = ap (λ (o : Option Held). option_map (λ a. a.bytes) o) c.held;
  named = c.named;
  sized = c.sized;
  same = c.same;
}

-- a content that is read over an honest disk
pub content_due : (held : HeldSet) (name text : List ℕ) → IsReadContent true held name text → held_at held name ≡ Some text
content_due held name text c = c.is_held ∙ ap Some (sym (c.same refl))

-- a file that is read is held
there_read : (honest : Bool) (held : HeldSet) (file : FileRow) (item : TreeItem) → IsReadFile honest held file item → (due : TreeItem) × (item_at held file ≡ Some due)
there_read honest held file item r = (
  with_bytes file (r.content).content,
  item_there held file r.name (r.content).content r.own (r.content).is_held,
)

-- and is itself over such a disk
item_due : (held : HeldSet) (file : FileRow) (item : TreeItem) → IsReadFile true held file item → item_at held file ≡ Some item
item_due held file item r =
    item_there held file r.name item.bytes r.own (content_due held r.name item.bytes r.content)
    ∙ (λ i. Some (record { path = sym r.path i; perm = sym r.perm i; bytes = item.bytes }))

-- so files that are read are all held
pub all_read : (honest : Bool) (held : HeldSet) (rows : List FileRow) (items : List TreeItem) → AllZip (IsReadFile honest held) rows items → (due : List TreeItem) × (items_at held rows ≡ Some due)
all_read honest held [] [] all = ([], refl)
all_read honest held [] (item ∷ items) all = absurd all
all_read honest held (row ∷ rows) [] all = absurd all
all_read honest held (row ∷ rows) (item ∷ items) all =
    let one = there_read honest held row item all.0 in
    let more = all_read honest held rows items all.1 in (
      one.0 ∷ more.0,
      ap (λ (o : Option TreeItem). with_first o (items_at held rows)) one.1 ∙ ap (λ (o : Option (List TreeItem)). option_map (λ xs. one.0 ∷ xs) o) more.1,
    )

pub all_due : (held : HeldSet) (rows : List FileRow) (items : List TreeItem) → AllZip (IsReadFile true held) rows items → items_at held rows ≡ Some items
all_due held [] [] all = refl
all_due held [] (item ∷ items) all = absurd all
all_due held (row ∷ rows) [] all = absurd all
all_due held (row ∷ rows) (item ∷ items) all =
    ap (λ (o : Option TreeItem). with_first o (items_at held rows)) (item_due held row item all.0)
    ∙ ap (λ (o : Option (List TreeItem)). option_map (λ xs. item ∷ xs) o) (all_due held rows items all.1)

-- one more
pub read_more : (honest : Bool) (held : HeldSet) (rows : List FileRow) (i : ℕ) (row : FileRow) (items more : List TreeItem) (item : TreeItem)
    → i < length rows → row ≡ get_or rows i row → AllZip (IsReadFile honest held) (take i rows) items → IsReadFile honest held row item → more ≡ items ++ item ∷ [] → AllZip (IsReadFile honest held) (take (i + 1) rows) more
read_more honest held rows i row items more item lt is all one now =
    subst (λ (xs : List FileRow). AllZip (IsReadFile honest held) xs more) (sym (take_next rows i row lt is))
    (subst (λ (ys : List TreeItem). AllZip (IsReadFile honest held) (take i rows ++ row ∷ []) ys) (sym now) (AllZip-push (IsReadFile honest held) (take i rows) items row item all one))

pub read_whole : (honest : Bool) (held : HeldSet) (rows : List FileRow) (i : ℕ) (items : List TreeItem) → length rows ≤ i → AllZip (IsReadFile honest held) (take i rows) items → AllZip (IsReadFile honest held) rows items
read_whole honest held rows i items le all = subst (λ (xs : List FileRow). AllZip (IsReadFile honest held) xs items) (take_all i rows le) all

-- or one that isn't held
pub read_stop : (honest : Bool) (held : HeldSet) (rows : List FileRow) (i : ℕ) (row : FileRow) (items : List TreeItem) → i < length rows → row ≡ get_or rows i row
    → AllZip (IsReadFile honest held) (take i rows) items → item_at held row ≡ None → (items_at held rows ≡ None) × (first_missing held rows ≡ row.hash)
read_stop honest held rows i row items lt is all none =
    let due = all_read honest held (take i rows) items all in
    items_stop held rows i row due.0 lt is due.1 none

-- ---- the checksum of files

pub summed_more : (items : List TreeItem) (item : TreeItem) → flat_map summed_file (items ++ item ∷ []) ≡ flat_map summed_file items ++ summed_file item
summed_more items item = flat_map-append summed_file items (item ∷ []) ∙ ap (λ (l : List ℕ). flat_map summed_file items ++ l) (append-nil (summed_file item))

paths_read : (honest : Bool) (held : HeldSet) (rows : List FileRow) (items : List TreeItem) → AllZip (IsReadFile honest held) rows items → map (λ item. item.path) items ≡ map (λ row. row.path) rows
paths_read honest held [] [] all = refl
paths_read honest held [] (item ∷ items) all = absurd all
paths_read honest held (row ∷ rows) [] all = absurd all
paths_read honest held (row ∷ rows) (item ∷ items) all = let rest = paths_read honest held rows items all.1 in λ i. (all.0).path i ∷ rest i

-- files that rise, as they are read, have the checksum of the tree that they are
pub sum_of : (honest : Bool) (held : HeldSet) (rows : List FileRow) (items : List TreeItem) → IsStrictlySortedBy bytes_cmp (map (λ row. row.path) rows) → AllZip (IsReadFile honest held) rows items → sum items ≡ md5 (flat_map summed_file items)
sum_of honest held rows items rise all =
    ap (λ (l : List TreeItem). md5 (flat_map summed_file l))
    (in_order-sorted bytes_cmp (λ item. item.path) items (subst (IsStrictlySortedBy bytes_cmp) (sym (paths_read honest held rows items all)) rise))

-- ---- faults

same_state : (s new : State) → Leaves s s new → new.faults ≡ s.faults → new ≡ s
same_state s new leaves same = leaves.state ∙ (λ i. record s { faults = same i })

-- a content that isn't held is no fault
pub absent_same : (s new : State) (name : List ℕ) → ContentFails blob_fault.Absent s name new → Leaves s s new → new ≡ s
absent_same s new name failed leaves = same_state s new leaves failed.1

one_name : (name : List ℕ) → has (name ∷ []) name ≡ true
one_name name = ap (λ (b : Bool). b || false) ((bytes_decides name name).1 refl)

pub disk_fails : (s new : State) (name : List ℕ) → ContentFails blob_fault.Disk s name new → ExportFails fault.Disk s (name ∷ []) new
disk_fails s new name failed = (name, one_name name, failed)

pub damaged_fails : (s new : State) (name found : List ℕ) → ContentFails (blob_fault.Damaged found) s name new → ExportFails (fault.Damaged name found) s (name ∷ []) new
damaged_fails s new name found failed = (one_name name, failed.0, failed.1)

-- what fails by some contents fails by more
pub asks_more : (why : ExportFault) (s left : State) (IsAsked IsMore : List ℕ → Type 0) → ((q : List ℕ) → IsAsked q → IsMore q) → AskFails IsAsked why s left → AskFails IsMore why s left
asks_more fault.Disk s left IsAsked IsMore among h = (h.0, among h.0 h.1, h.2)
asks_more (fault.Damaged name found) s left IsAsked IsMore among h = (among name h.0, h.1, h.2)
asks_more fault.Memory s left IsAsked IsMore among h = h

fails_by : (why : ExportFault) (s left : State) (names more : List (List ℕ)) → ((q : List ℕ) → has names q ≡ true → has more q ≡ true) → ExportFails why s names left → ExportFails why s more left
fails_by why s left names more among h = asks_more why s left (λ q. has names q ≡ true) (λ q. has more q ≡ true) among h

-- by one file of some
own_one : (file : FileRow) (name : List ℕ) → content_name file ≡ Some name → content_names (file ∷ []) ≡ name ∷ []
own_one file name is = ap (λ (o : Option (List ℕ)). cons_option o []) is

pub of_file : (why : ExportFault) (s left : State) (file : FileRow) (name : List ℕ) → content_name file ≡ Some name → ExportFails why s (name ∷ []) left → ExportFails why s (content_names (file ∷ [])) left
of_file why s left file name is h = subst (λ (ns : List (List ℕ)). ExportFails why s ns left) (sym (own_one file name is)) h

or_left : (a b : Bool) → a ≡ true → (a || b) ≡ true
or_left true b is = refl
or_left false b is = absurd cc

or_false : (b : Bool) → (b || false) ≡ true → b ≡ true
or_false true is = refl
or_false false is = is

in_front : (o : Option (List ℕ)) (names : List (List ℕ)) (q : List ℕ) → has (cons_option o []) q ≡ true → has (cons_option o names) q ≡ true
in_front None names q h = absurd cc
in_front (Some name) names q h = or_left (bytes_eq q name) (has names q) (or_false (bytes_eq q name) h)

behind : (o : Option (List ℕ)) (names : List (List ℕ)) (q : List ℕ) → has names q ≡ true → has (cons_option o names) q ≡ true
behind None names q h = h
behind (Some name) names q h = or_right (bytes_eq q name) (has names q) h

-- a file behind others that were read is asked for
among_files : (honest : Bool) (held : HeldSet) (front : List FileRow) (items : List TreeItem) (row : FileRow) (rest : List FileRow) (q : List ℕ)
    → AllZip (IsReadFile honest held) front items → has (content_names (row ∷ [])) q ≡ true → has (asked_files held (front ++ row ∷ rest)) q ≡ true
among_files honest held [] [] row rest q all h = in_front (content_name row) (content_names (cond (is_none (item_at held row)) [] (up_to_missing held rest))) q h
among_files honest held [] (item ∷ items) row rest q all h = absurd all
among_files honest held (f ∷ front) [] row rest q all h = absurd all
among_files honest held (f ∷ front) (item ∷ items) row rest q all h =
    ap (λ (o : Option TreeItem). has (content_names (f ∷ cond (is_none o) [] (up_to_missing held (front ++ row ∷ rest)))) q) (there_read honest held f item all.0).1
    ∙ behind (content_name f) (asked_files held (front ++ row ∷ rest)) q (among_files honest held front items row rest q all.1 h)

pub of_files : (why : ExportFault) (s left : State) (rows : List FileRow) (i : ℕ) (row : FileRow) (items : List TreeItem) → i < length rows → row ≡ get_or rows i row
    → AllZip (IsReadFile s.honest (now s).held) (take i rows) items → ExportFails why s (content_names (row ∷ [])) left → FilesFail why s rows left
of_files why s left rows i row items lt is all h =
    fails_by why s left (content_names (row ∷ [])) (asked_files (now s).held rows)
    (λ q there. ap (λ (xs : List FileRow). has (asked_files (now s).held xs) q) (split_at rows i row lt is) ∙ among_files s.honest (now s).held (take i rows) items row (drop (suc i) rows) q all there) h

same_name : (name q : List ℕ) → has (name ∷ []) q ≡ true → q ≡ name
same_name name q h = (bytes_decides q name).0 (or_false (bytes_eq q name) h)

-- by the text of a check-in whose checksum is tested
module _ (why : ExportFault) (s left : State) (items : List Item) (name : List ℕ) where
  abbrev held_then : HeldSet
  held_then = (now s).held

  abbrev TestedOf : Listing → Type 0
  TestedOf l = AskFails (IsTestedIn s.honest held_then name l) why s left

  pub based_fails : files (checkins items) name ≡ listing.NoBaseline → ExportFails why s (name ∷ []) left → TestedOf (files (checkins items) name)
  based_fails is h = subst TestedOf (sym is) (asks_more why s left (λ q. has (name ∷ []) q ≡ true) (λ q. q ≡ name) (same_name name) h)

  module _ (rows : List FileRow) (is : files (checkins items) name ≡ listing.Known rows) where
    pub text_fails : ExportFails why s (name ∷ []) left → TestedOf (files (checkins items) name)
    text_fails h =
        subst TestedOf (sym is)
        (asks_more why s left (λ q. has (name ∷ []) q ≡ true) (IsTestedIn s.honest held_then name (listing.Known rows)) (λ q one. inl (same_name name q one)) h)

    -- or by a file of it
    pub files_fail : (mid : State) → mid ≡ s → HasSumRead s.honest held_then name → FilesFail why mid rows left → TestedOf (files (checkins items) name)
    files_fail mid same sum h =
        subst TestedOf (sym is)
        (asks_more why s left (λ q. has (asked_files held_then rows) q ≡ true) (IsTestedIn s.honest held_then name (listing.Known rows)) (λ q one. inr (sum, one))
        (subst (λ (x : State). FilesFail why x rows left) same h))

-- ---- what was only read

pub only_read_none : {D : Type 0} (disk : D → DiskState) (r : Whole D) → IsOnlyRead disk r r
only_read_none disk r = record { state = record { state = refl; faults = omega arith }; items = refl; loaded = refl; log = refl; quiet = quiet-same (disk r.disk) }

pub only_read_on : {D : Type 0} (disk : D → DiskState) (a b c : Whole D) → IsOnlyRead disk a b → IsOnlyRead disk b c → IsOnlyRead disk a c
only_read_on disk a b c h k =
    record {
      state = record {
        state = (k.state).state ∙ (λ i. record ((h.state).state i) { faults = c.seen.state.faults });
        faults = omega (arith, (h.state).faults, (k.state).faults);
      };
      items = k.items ∙ h.items;
      loaded = k.loaded ∙ h.loaded;
      log = k.log ∙ h.log;
      quiet = quiet_on (disk a.disk) (disk b.disk) (disk c.disk) h.quiet k.quiet;
    }

-- ---- answers

pub if_ok_map : {X E : Type 0} (r : Result X E) (P Q : X → Type 0) → ((x : X) → P x → Q x) → IfOk r P → IfOk r Q
if_ok_map (Ok x) P Q f h = f x h
if_ok_map (Err e) P Q f h = tt

pub if_err_map : {X E : Type 0} (r : Result X E) (P Q : E → Type 0) → ((e : E) → P e → Q e) → IfErr r P → IfErr r Q
if_err_map (Ok x) P Q f h = tt
if_err_map (Err e) P Q f h = f e h
