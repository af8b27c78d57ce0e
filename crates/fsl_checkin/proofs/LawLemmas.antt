-- Trees that come back, and texts that are one tree.
use Rattle.std.proofs.Common.{◌≡◌, ℕ, ◌^◌, ◌<◌, true, not, List, [], ◌∷◌, ◌++◌, length, map, Option, Some, refl, sym, ap, subst, ◌∙◌, length-append, arith}
use Rattle.std.specs.Prelude.{flat_map, option_map, option_and_then}
use Rattle.std.specs.List.{AllZip, list_all}
use Rattle.std.specs.Option.{option_map_or}
use Rattle.fsl_name.specs.Name.{name_of}
use Rattle.fsl_order.proofs.Booleans.{first_holds, second_holds}
use Rattle.fsl_text.specs.Bytes.{is_empty}
use Rattle.fsl_text.specs.Escapes.{escape}
use Rattle.fsl_text.specs.Paths.{path_ok}
use Rattle.fsl_text.proofs.Unescaping.{unescape-escape}
use Rattle.fsl_grammar.proofs.WrittenArguments.{is_argument-escape}
use Rattle.fsl_manifest.specs.declared.Manifest.{Manifest}
use Rattle.fsl_artifact.specs.declared.Artifact.TheVariants as kind
use Rattle.fsl_artifact.proofs.OneKind.{one_artifact}
use Rattle.fsl_files.specs.declared.Listing.{Listing}
use Rattle.fsl_files.specs.declared.Listing.TheVariants as listing
use Rattle.fsl_files.specs.Files.{files, known}
use Rattle.fsl_blobs.specs.Fold.{HeldSet}
use Rattle.fsl_cross.specs.declared.Item.{Item}
use Rattle.fsl_cross.specs.Facts.{as_manifest, file_row, row_perm_of}
use Rattle.fsl_repo.proofs.ItemLemmas.{items_rise}
use Rattle.fsl_checkin.specs.declared.types.Perm.{Perm}
use Rattle.fsl_checkin.specs.declared.types.Perm.TheVariants.{Plain, Exec, Symlink}
use Rattle.fsl_checkin.specs.declared.types.TreeItem.{TreeItem}
use Rattle.fsl_checkin.specs.Trees.{IsItemText, item_text, paths, tree_text}
use Rattle.fsl_checkin.specs.Checkins.{card_perm_of, checkin_of, file_card_of}
use Rattle.fsl_checkin.specs.Exports.{checkin_at, checkins, held_at, item_at, items_at, perm_of, with_first}
use Rattle.fsl_checkin.specs.Laws.{AreHeld, IsOneTree, TreesComeBack, WrittenReadsBack}
use Rattle.fsl_checkin.proofs.FilesLemmas.{files_are, files_by}
use Rattle.fsl_checkin.proofs.FrontLemmas.{item_unique}
use Rattle.fsl_checkin.proofs.HavingLemmas.{item_there, named_held}

-- ---- one tree

abbrev pub flat : List (List ℕ) → List ℕ
flat parts = flat_map (λ (part : List ℕ). part) parts

pub some_byte : (p rest : List ℕ) (item : TreeItem) → IsItemText p item → [] ≡ p ++ rest → ⊥
some_byte p rest item is e = let whole : [] ≡ item_text is.written item ++ rest = e ∙ ap (λ (l : List ℕ). l ++ rest) is.spelled in cc

same_items : (ps qs : List (List ℕ)) (is js : List TreeItem) → AllZip IsItemText ps is → AllZip IsItemText qs js → flat ps ≡ flat qs → length (flat ps) < 2 ^ 64 → is ≡ js
same_items [] [] [] [] a b e lt = refl
same_items [] [] [] (j ∷ js) a b e lt = absurd b
same_items [] [] (i ∷ is) js a b e lt = absurd a
same_items [] (q ∷ qs) is [] a b e lt = absurd b
same_items [] (q ∷ qs) is (j ∷ js) a b e lt = absurd (some_byte q (flat qs) j b.0 e)
same_items (p ∷ ps) qs [] js a b e lt = absurd a
same_items (p ∷ ps) [] (i ∷ is) js a b e lt = absurd (some_byte p (flat ps) i a.0 (sym e))
same_items (p ∷ ps) (q ∷ qs) (i ∷ is) [] a b e lt = absurd b
same_items (p ∷ ps) (q ∷ qs) (i ∷ is) (j ∷ js) a b e lt =
    let one = item_unique (p ++ flat ps) p q (flat ps) (flat qs) i j lt a.0 b.0 refl e in
    let rest = same_items ps qs is js a.1 b.1 one.rest (omega (arith, lt, length-append p (flat ps))) in
    λ k. one.item k ∷ rest k

pub one_tree : IsOneTree
one_tree text lt a b is is' =
    same_items is.parts is'.parts a b is.each is'.each (sym is.spelled ∙ is'.spelled) (subst (λ (t : List ℕ). length t < 2 ^ 64) is.spelled lt)

-- ---- what is written

filled : (path : List ℕ) → path_ok path ≡ true → not (is_empty path) ≡ true
filled [] h = absurd cc
filled (b ∷ path) h = refl

written : (item : TreeItem) → path_ok item.path ≡ true → IsItemText (item_text (escape item.path) item) item
written item h = record { written = escape item.path; spelled = refl; argument = is_argument-escape item.path (filled item.path h); stands_for = unescape-escape item.path; good = h }

flat_mapped : (items : List TreeItem) → tree_text items ≡ flat (map (λ item. item_text (escape item.path) item) items)
flat_mapped [] = refl
flat_mapped (item ∷ items) = ap (λ (l : List ℕ). item_text (escape item.path) item ++ l) (flat_mapped items)

each_written : (items : List TreeItem) → list_all path_ok (paths items) ≡ true → AllZip IsItemText (map (λ item. item_text (escape item.path) item) items) items
each_written [] h = tt
each_written (item ∷ items) h = (written item (first_holds (path_ok item.path) (list_all path_ok (paths items)) h), each_written items (second_holds (path_ok item.path) (list_all path_ok (paths items)) h))

pub written_reads_back : WrittenReadsBack
written_reads_back items good rising = record { parts = map (λ item. item_text (escape item.path) item) items; spelled = flat_mapped items; each = each_written items good; rising = rising }

-- ---- trees that come back

perm_back : (p : Perm) → perm_of (row_perm_of (card_perm_of p)) ≡ p
perm_back Plain = refl
perm_back Exec = refl
perm_back Symlink = refl

item_back : (held : HeldSet) (item : TreeItem) → held_at held (name_of item.bytes) ≡ Some item.bytes → item_at held (file_row (file_card_of item)) ≡ Some item
item_back held item h =
    item_there held (file_row (file_card_of item)) (name_of item.bytes) item.bytes refl h
    ∙ ap (λ (p : Perm). Some (record { path = item.path; perm = p; bytes = item.bytes })) (perm_back item.perm)

items_back : (held : HeldSet) (t : List TreeItem) → AreHeld held t → items_at held (map file_row (map file_card_of t)) ≡ Some t
items_back held [] h = refl
items_back held (item ∷ t) h =
    ap (λ (o : Option TreeItem). with_first o (items_at held (map file_row (map file_card_of t)))) (item_back held item h.0)
    ∙ ap (option_map (λ (xs : List TreeItem). item ∷ xs)) (items_back held t h.1)

pub trees_come_back : TreesComeBack
trees_come_back held items t parent user comment date text name each is held_is contents =
    let m : Manifest = checkin_of t parent user comment date in
    let n = named_held held items name text each held_is in
    let same : n.item.artifact ≡ kind.Manifest m = one_artifact text n.item.artifact (kind.Manifest m) n.kind is in
    let found : checkin_at items name ≡ Some m = ap (λ (o : Option Item). option_and_then (λ (i : Item). as_manifest i.artifact) o) n.found ∙ ap as_manifest same in
    let files_is : files (checkins items) name ≡ listing.Known (map file_row (map file_card_of t)) =
    files_are items (items_rise held items each) name ∙ ap (λ (o : Option Manifest). option_map_or (files_by items) o listing.NotCheckin) found in
    record {
      same = ap (λ (l : Listing). option_and_then (items_at held) (known l)) files_is ∙ items_back held t contents;
      kept = ap (λ (o : Option Manifest). option_and_then (λ (x : Manifest). x.checksum) o) found;
    }
