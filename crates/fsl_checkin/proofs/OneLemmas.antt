-- An export and a test of a checksum have one answer, and a text with a bad item is no tree.
use Rattle.std.proofs.Common.{◌≡◌, inl, inr, suc, ℕ, ◌+◌, ◌^◌, ◌<◌, Bool, true, List, [], ◌∷◌, ◌++◌, length, Option, Some, None, refl, sym, ap, subst, ◌∙◌, append_assoc, length-append, arith}
use Rattle.std.specs.Prelude.{◌&&◌, ◌≢◌, ◌⊎◌, option_map, option_and_then}
use Rattle.std.specs.List.{AllZip}
use Rattle.std.specs.Option.{option_map_or}
use Rattle.fsl_order.proofs.Booleans.{first_holds, second_holds}
use Rattle.fsl_order.specs.Names.{is_before}
use Rattle.fsl_order.specs.Rows.{rises}
use Rattle.fsl_name.specs.declared.reference.Ref.{Ref}
use Rattle.fsl_manifest.specs.declared.Manifest.{Manifest}
use Rattle.fsl_files.specs.declared.Listing.{Listing}
use Rattle.fsl_files.specs.declared.Listing.TheVariants as listing
use Rattle.fsl_files.specs.Files.{files, known}
use Rattle.fsl_blobs.specs.Fold.{HeldSet}
use Rattle.fsl_cross.specs.declared.Item.{Item}
use Rattle.fsl_repo.specs.Machine.{AreItems}
use Rattle.fsl_repo.proofs.ItemLemmas.{items_rise}
use Rattle.fsl_checkin.specs.declared.types.TreeItem.{TreeItem}
use Rattle.fsl_checkin.specs.declared.answers.Export.{Export}
use Rattle.fsl_checkin.specs.declared.answers.Export.TheVariants as export
use Rattle.fsl_checkin.specs.declared.answers.Verdict.{Verdict}
use Rattle.fsl_checkin.specs.declared.answers.Verdict.TheVariants as verdict
use Rattle.fsl_checkin.specs.Trees.{IsBadItem, IsItemText, paths}
use Rattle.fsl_checkin.specs.Sums.{sum}
use Rattle.fsl_checkin.specs.Exports.{IsExport, IsVerdict, checkin_at, checkins, items_at, kept_sum, missing, missing_in, tree}
use Rattle.fsl_checkin.specs.Laws.{BadIsNoTree, BadIsOne, ExportIsOne, VerdictIsOne, HadIsAnswered}
use Rattle.fsl_checkin.proofs.FilesLemmas.{files_are, files_by}
use Rattle.fsl_checkin.proofs.FrontLemmas.{item_unique}
use Rattle.fsl_checkin.proofs.LawLemmas.{flat, some_byte}

-- ---- no tree

-- the items of a tree go on behind those at its front
record GoesOn (front items : List TreeItem) (rest : List ℕ) : Type 0 where
  item : TreeItem
  own : List ℕ
  more : List ℕ
  later : List TreeItem
  is_item : IsItemText own item
  split : rest ≡ own ++ more
  all : items ≡ (front ++ item ∷ []) ++ later

grown : (i j : TreeItem) (is js : List TreeItem) (rest : List ℕ) → i ≡ j → GoesOn is js rest → GoesOn (i ∷ is) (j ∷ js) rest
grown i j is js rest same go = record { item = go.item; own = go.own; more = go.more; later = go.later; is_item = go.is_item; split = go.split; all = λ k. sym same k ∷ go.all k }

further : (ps qs : List (List ℕ)) (is js : List TreeItem) (rest : List ℕ) → AllZip IsItemText ps is → AllZip IsItemText qs js → flat ps ++ rest ≡ flat qs → length (flat ps ++ rest) < 2 ^ 64 → rest ≢ [] → GoesOn is js rest
further [] [] [] js rest a b e lt some = absurd (some e)
further [] (q ∷ qs) [] [] rest a b e lt some = absurd b
further [] (q ∷ qs) [] (j ∷ js) rest a b e lt some = record { item = j; own = q; more = flat qs; later = js; is_item = b.0; split = e; all = refl }
further [] qs (i ∷ is) js rest a b e lt some = absurd a
further (p ∷ ps) qs [] js rest a b e lt some = absurd a
further (p ∷ ps) [] (i ∷ is) js rest a b e lt some = absurd (some_byte p (flat ps ++ rest) i a.0 (sym e ∙ append_assoc p (flat ps) rest))
further (p ∷ ps) (q ∷ qs) (i ∷ is) [] rest a b e lt some = absurd b
further (p ∷ ps) (q ∷ qs) (i ∷ is) (j ∷ js) rest a b e lt some =
    let one = item_unique ((p ++ flat ps) ++ rest) p q (flat ps ++ rest) (flat qs) i j lt a.0 b.0 (append_assoc p (flat ps) rest) e in
    grown i j is js rest one.item (further ps qs is js rest a.1 b.1 one.rest (omega (arith, lt, length-append (p ++ flat ps) rest, length-append p (flat ps), length-append (flat ps) rest)) some)

front_rises : (xs ys : List TreeItem) → rises (paths (xs ++ ys)) ≡ true → rises (paths xs) ≡ true
front_rises [] ys h = refl
front_rises (a ∷ []) ys h = refl
front_rises (a ∷ b ∷ xs) ys h =
    ap (λ (t : Bool). t && rises (paths (b ∷ xs))) (first_holds (is_before a.path b.path) (rises (paths ((b ∷ xs) ++ ys))) h)
    ∙ front_rises (b ∷ xs) ys (second_holds (is_before a.path b.path) (rises (paths ((b ∷ xs) ++ ys))) h)

pub bad_is_no_tree : BadIsNoTree
bad_is_no_tree text lt number bad items tree =
    let whole : text ≡ flat bad.read.parts ++ bad.rest = bad.split ∙ ap (λ (f : List ℕ). f ++ bad.rest) bad.read.spelled in
    let go = further bad.read.parts tree.parts bad.items items bad.rest bad.read.each tree.each (sym whole ∙ tree.spelled) (subst (λ (t : List ℕ). length t < 2 ^ 64) whole lt) bad.some in
    bad.none go.item go.own go.more go.split go.is_item (front_rises (bad.items ++ go.item ∷ []) go.later (ap (λ (l : List TreeItem). rises (paths l)) (sym go.all) ∙ tree.rising))

-- ---- one number

-- of two trees at the front of a text, one goes on with an item that stands behind the other, or they are as long
abbrev Compared : List TreeItem → List TreeItem → List ℕ → List ℕ → Type 0
Compared is js r s = (length is ≡ length js) ⊎ (GoesOn is js r ⊎ GoesOn js is s)

compared : (ps qs : List (List ℕ)) (is js : List TreeItem) (r s : List ℕ) → AllZip IsItemText ps is → AllZip IsItemText qs js → flat ps ++ r ≡ flat qs ++ s → length (flat ps ++ r) < 2 ^ 64 → Compared is js r s
compared [] [] [] [] r s a b e lt = inl refl
compared [] [] [] (j ∷ js) r s a b e lt = absurd b
compared [] (q ∷ qs) [] [] r s a b e lt = absurd b
compared [] (q ∷ qs) [] (j ∷ js) r s a b e lt = inr (inl (record { item = j; own = q; more = flat qs ++ s; later = js; is_item = b.0; split = e ∙ append_assoc q (flat qs) s; all = refl }))
compared [] qs (i ∷ is) js r s a b e lt = absurd a
compared (p ∷ ps) qs [] js r s a b e lt = absurd a
compared (p ∷ ps) [] (i ∷ is) [] r s a b e lt = inr (inr (record { item = i; own = p; more = flat ps ++ r; later = is; is_item = a.0; split = sym e ∙ append_assoc p (flat ps) r; all = refl }))
compared (p ∷ ps) [] (i ∷ is) (j ∷ js) r s a b e lt = absurd b
compared (p ∷ ps) (q ∷ qs) (i ∷ is) [] r s a b e lt = absurd b
compared (p ∷ ps) (q ∷ qs) (i ∷ is) (j ∷ js) r s a b e lt =
    let one = item_unique ((p ++ flat ps) ++ r) p q (flat ps ++ r) (flat qs ++ s) i j lt a.0 b.0 (append_assoc p (flat ps) r) (e ∙ append_assoc q (flat qs) s) in
    on one.item (compared ps qs is js r s a.1 b.1 one.rest (omega (arith, lt, length-append (p ++ flat ps) r, length-append p (flat ps), length-append (flat ps) r)))
  where
    on : i ≡ j → Compared is js r s → Compared (i ∷ is) (j ∷ js) r s
    on same (inl h) = inl (ap suc h)
    on same (inr (inl go)) = inr (inl (grown i j is js r same go))
    on same (inr (inr go)) = inr (inr (grown j i js is s (sym same) go))

-- where a tree goes on, no bad item stands behind its front
none_bad : (text : List ℕ) (a b : ℕ) (x : IsBadItem text a) (y : IsBadItem text b) → GoesOn x.items y.items x.rest → ⊥
none_bad text a b x y go = x.none go.item go.own go.more go.split go.is_item (front_rises (x.items ++ go.item ∷ []) go.later (ap (λ (l : List TreeItem). rises (paths l)) (sym go.all) ∙ y.read.rising))

pub bad_is_one : BadIsOne
bad_is_one text lt a b x y =
    by (compared x.read.parts y.read.parts x.items y.items x.rest y.rest x.read.each y.read.each (sym (whole a x) ∙ whole b y) (subst (λ (t : List ℕ). length t < 2 ^ 64) (whole a x) lt))
  where
    whole : (n : ℕ) (z : IsBadItem text n) → text ≡ flat z.read.parts ++ z.rest
    whole n z = z.split ∙ ap (λ (f : List ℕ). f ++ z.rest) z.read.spelled

    by : Compared x.items y.items x.rest y.rest → a ≡ b
    by (inl same) = x.count ∙ ap (λ (n : ℕ). n + 1) same ∙ sym y.count
    by (inr (inl go)) = absurd (none_bad text a b x y go)
    by (inr (inr go)) = absurd (none_bad text b a y x go)

-- ---- one answer

some_none : {X : Type 0} (o : Option X) (x : X) → o ≡ None → o ≡ Some x → ⊥
some_none o x none some = let no : None ≡ Some x = sym none ∙ some in cc

one_some : {X : Type 0} (o : Option X) (x y : X) → o ≡ Some x → o ≡ Some y → x ≡ y
one_some o x y a b = let same : Some x ≡ Some y = sym a ∙ b in cc

module _ (held : HeldSet) (items : List Item) (name : List ℕ) where
  no_files : AreItems held items → checkin_at items name ≡ None → files (checkins items) name ≡ listing.NotCheckin
  no_files each none = files_are items (items_rise held items each) name ∙ ap (λ (o : Option Manifest). option_map_or (files_by items) o listing.NotCheckin) none

  no_tree : AreItems held items → checkin_at items name ≡ None → tree held items name ≡ None
  no_tree each none = ap (λ (l : Listing). option_and_then (items_at held) (known l)) (no_files each none)

  none_missing : AreItems held items → checkin_at items name ≡ None → missing held items name ≡ None
  none_missing each none = ap (missing_in held (option_and_then (λ (m : Manifest). m.baseline) (checkin_at items name))) (no_files each none)

  one_export : AreItems held items → (a b : Export) → IsExport held items name a → IsExport held items name b → a ≡ b
  one_export each export.NotCheckin export.NotCheckin h k = refl
  one_export each export.NotCheckin (export.Incomplete m) h k = absurd (some_none (missing held items name) m (none_missing each h) k.1)
  one_export each export.NotCheckin (export.Tree t) h k = absurd (some_none (tree held items name) t (no_tree each h) k)
  one_export each (export.Incomplete m) export.NotCheckin h k = absurd (some_none (missing held items name) m (none_missing each k) h.1)
  one_export each (export.Incomplete m) (export.Incomplete n) h k = ap export.Incomplete (one_some (missing held items name) m n h.1 k.1)
  one_export each (export.Incomplete m) (export.Tree t) h k = absurd (some_none (tree held items name) t h.0 k)
  one_export each (export.Tree t) export.NotCheckin h k = absurd (some_none (tree held items name) t (no_tree each k) h)
  one_export each (export.Tree t) (export.Incomplete m) h k = absurd (some_none (tree held items name) t k.0 h)
  one_export each (export.Tree t) (export.Tree s) h k = ap export.Tree (one_some (tree held items name) t s h k)

  no_sum : checkin_at items name ≡ None → kept_sum items name ≡ None
  no_sum none = ap (option_and_then (λ (m : Manifest). m.checksum)) none

  -- which of the five it is
  not_checkin : (b : Verdict) → checkin_at items name ≡ None → IsVerdict held items name b → verdict.NotCheckin ≡ b
  not_checkin verdict.NotCheckin h k = refl
  not_checkin verdict.NoSum h k = absurd (k.0 h)
  not_checkin (verdict.Incomplete m) h k = absurd (k.0 (no_sum h))
  not_checkin (verdict.Wrong kept found) h k = absurd (some_none (kept_sum items name) kept (no_sum h) k.0)
  not_checkin verdict.Right h k = absurd (k.0 (no_sum h))

  without_sum : (b : Verdict) → checkin_at items name ≢ None → kept_sum items name ≡ None → IsVerdict held items name b → verdict.NoSum ≡ b
  without_sum verdict.NotCheckin is h k = absurd (is k)
  without_sum verdict.NoSum is h k = refl
  without_sum (verdict.Incomplete m) is h k = absurd (k.0 h)
  without_sum (verdict.Wrong kept found) is h k = absurd (some_none (kept_sum items name) kept h k.0)
  without_sum verdict.Right is h k = absurd (k.0 h)

  incomplete : (m : Ref) (b : Verdict) → kept_sum items name ≢ None → tree held items name ≡ None → missing held items name ≡ Some m → IsVerdict held items name b → verdict.Incomplete m ≡ b
  incomplete m verdict.NotCheckin is none h k = absurd (is (no_sum k))
  incomplete m verdict.NoSum is none h k = absurd (is k.1)
  incomplete m (verdict.Incomplete n) is none h k = ap verdict.Incomplete (one_some (missing held items name) m n h k.2)
  incomplete m (verdict.Wrong kept found) is none h k = absurd (some_none (option_map sum (tree held items name)) found (ap (option_map sum) none) k.1)
  incomplete m verdict.Right is none h k = absurd (is (sym k.1 ∙ ap (option_map sum) none))

  wrong : (kept found : List ℕ) (b : Verdict) → kept_sum items name ≡ Some kept → option_map sum (tree held items name) ≡ Some found → kept ≢ found → IsVerdict held items name b → verdict.Wrong kept found ≡ b
  wrong kept found verdict.NotCheckin is sums other k = absurd (some_none (kept_sum items name) kept (no_sum k) is)
  wrong kept found verdict.NoSum is sums other k = absurd (some_none (kept_sum items name) kept k.1 is)
  wrong kept found (verdict.Incomplete m) is sums other k = absurd (some_none (option_map sum (tree held items name)) found (ap (option_map sum) k.1) sums)
  wrong kept found (verdict.Wrong k f) is sums other h =
      let first = one_some (kept_sum items name) kept k is h.0 in
      let second = one_some (option_map sum (tree held items name)) found f sums h.1 in
      λ i. verdict.Wrong (first i) (second i)
  wrong kept found verdict.Right is sums other k = absurd (other (one_some (kept_sum items name) kept found is (sym k.1 ∙ sums)))

  right : (b : Verdict) → kept_sum items name ≢ None → option_map sum (tree held items name) ≡ kept_sum items name → IsVerdict held items name b → verdict.Right ≡ b
  right verdict.NotCheckin is same k = absurd (is (no_sum k))
  right verdict.NoSum is same k = absurd (is k.1)
  right (verdict.Incomplete m) is same k = absurd (is (sym same ∙ ap (option_map sum) k.1))
  right (verdict.Wrong kept found) is same k = absurd (k.2 (one_some (kept_sum items name) kept found k.0 (sym same ∙ k.1)))
  right verdict.Right is same k = refl

  one_verdict : (a b : Verdict) → IsVerdict held items name a → IsVerdict held items name b → a ≡ b
  one_verdict verdict.NotCheckin b h k = not_checkin b h k
  one_verdict verdict.NoSum b h k = without_sum b h.0 h.1 k
  one_verdict (verdict.Incomplete m) b h k = incomplete m b h.0 h.1 h.2 k
  one_verdict (verdict.Wrong kept found) b h k = wrong kept found b h.0 h.1 h.2 k
  one_verdict verdict.Right b h k = right b h.0 h.1 k

pub export_is_one : ExportIsOne
export_is_one held items name each a b h k = one_export held items name each a b h k

pub verdict_is_one : VerdictIsOne
verdict_is_one held items name a b h k = one_verdict held items name a b h k

pub had_is_answered : HadIsAnswered
had_is_answered held items name t each had = record {
  exported = λ e is. export_is_one held items name each e (export.Tree t) is had.same;
  verified = λ v is. verdict_is_one held items name v verdict.Right is ((λ none. let no : Some (sum t) ≡ None = sym had.kept ∙ none in cc), ap (option_map sum) had.same ∙ sym had.kept);
}
