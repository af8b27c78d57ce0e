-- An export and a test of a checksum are printed in one way at most over an honest disk, and end alike over every other.
use Rattle.std.proofs.Common.{◌≡◌, ℕ, Bool, true, List, Option, Some, None, Result, Ok, Err, refl, sym, ap, subst, ◌∙◌}
use Rattle.std.specs.Prelude.{MatchResult, option_and_then}
use Rattle.fsl_blobs.specs.Fold.{Contents, HeldSet, contents}
use Rattle.fsl_record.specs.declared.Record.{Record}
use Rattle.fsl_record.specs.Records.{AreRecords}
use Rattle.fsl_files.specs.declared.FileRow.{FileRow}
use Rattle.fsl_files.specs.declared.Listing.{Listing}
use Rattle.fsl_files.specs.Files.{known}
use Rattle.fsl_cross.specs.declared.Item.{Item}
use Rattle.fsl_repo.specs.Machine.{AreItems}
use Rattle.fsl_repo.proofs.OneList.{are_one_list}
use Rattle.fsl_repo.proofs.ItemLemmas.{items_rise}
use Rattle.fsl_repo.proofs.SomeArrival.{some_items}
use Rattle.fsl_query.specs.declared.Refused.{Refused}
use Rattle.fsl_query.specs.Refusals.{refusal_text}
use Rattle.fsl_query.specs.Reports.{name_found}
use Rattle.fsl_name.specs.declared.reference.Ref.{Ref}
use Rattle.fsl_checkin.specs.declared.types.TreeItem.{TreeItem}
use Rattle.fsl_checkin.specs.declared.answers.Export.{Export}
use Rattle.fsl_checkin.specs.declared.answers.Export.TheVariants as export
use Rattle.fsl_checkin.specs.declared.answers.Verdict.{Verdict}
use Rattle.fsl_checkin.specs.declared.answers.Verdict.TheVariants as verdict
use Rattle.fsl_checkin.specs.Exports.{checkin_at, items_at, tree}
use Rattle.fsl_checkin.specs.Reads.{IsExportRead, IsLacking, IsMissingIn, IsReadTree, IsVerdictRead}
use Rattle.fsl_checkin.proofs.FilesLemmas.{export_due, no_files, verdict_due}
use Rattle.fsl_checkin.proofs.HavingLemmas.{all_read}
use Rattle.fsl_checkin.proofs.OneLemmas.{export_is_one, verdict_is_one}
use Rattle.fsl_checkin.proofs.SomeTree.{some_export, some_verdict}
use Rattle.fossil.specs.Printed.{Printed}
use Rattle.fossil.specs.Printed as printing
use Rattle.fossil.specs.Trees.{export_printed, verdict_printed, IsExported, IsVerified}

-- what is printed by what was found
abbrev IsBy : {X : Type 0} → (List Item → List ℕ → X → Type 0) → (List ℕ → X → Printed) → Contents → Result (List ℕ) Refused → Printed → Type 0
IsBy {X} IsAnswer print c found printed =
    MatchResult found
    (λ name. (items : List Item) × AreItems c.held items × (answer : X) × IsAnswer items name answer × (printed ≡ print name answer))
    (λ refused. printed ≡ printing.refused (refusal_text refused))

-- two prints are the same, or related, where the answers are
by_answers : {X : Type 0} (R : Printed → Printed → Type 0) → ((a b : Printed) → a ≡ b → R a b) → (IsAnswer : List Item → List ℕ → X → Type 0) (print : List ℕ → X → Printed) (c : Contents)
    → ((items : List Item) → AreItems c.held items → (name : List ℕ) (x y : X) → IsAnswer items name x → IsAnswer items name y → R (print name x) (print name y))
    → (found : Result (List ℕ) Refused) (a b : Printed) → IsBy IsAnswer print c found a → IsBy IsAnswer print c found b → R a b
by_answers R same IsAnswer print c one (Ok name) a b h k =
    let items : h.0 ≡ k.0 = are_one_list c.held h.0 k.0 h.1 k.1 in
    subst (λ (x : Printed). R x b) (sym h.4)
    (subst (R (print name h.2)) (sym k.4) (one k.0 k.1 name h.2 k.2 (subst (λ (is : List Item). IsAnswer is name h.2) items h.3) k.3))
by_answers R same IsAnswer print c one (Err refused) a b h k = same a b (h ∙ sym k)

abbrev Equal : Printed → Printed → Type 0
Equal a b = a ≡ b

abbrev SameStatus : Printed → Printed → Type 0
SameStatus a b = a.status ≡ b.status

-- ---- over an honest disk

pub one_exported : (honest : Bool) (prefix : List ℕ) (c : Contents) → honest ≡ true → (a b : Printed) → IsExported honest prefix c a → IsExported honest prefix c b → a ≡ b
one_exported honest prefix c kind a b h k =
    by_answers Equal (λ x y e. e) (IsExportRead honest c.held) export_printed c
    (λ items each name x y p q. ap (export_printed name) (export_is_one c.held items name each x y (export_due c.held items name each x (subst (λ (t : Bool). IsExportRead t c.held items name x) kind p)) (export_due c.held items name each y (subst (λ (t : Bool). IsExportRead t c.held items name y) kind q))))
    (name_found c prefix) a b h k

pub one_verified : (honest : Bool) (prefix : List ℕ) (c : Contents) → honest ≡ true → (a b : Printed) → IsVerified honest prefix c a → IsVerified honest prefix c b → a ≡ b
one_verified honest prefix c kind a b h k =
    by_answers Equal (λ x y e. e) (IsVerdictRead honest c.held) verdict_printed c
    (λ items each name x y p q. ap (verdict_printed name) (verdict_is_one c.held items name x y (verdict_due c.held items name each x (subst (λ (t : Bool). IsVerdictRead t c.held items name x) kind p)) (verdict_due c.held items name each y (subst (λ (t : Bool). IsVerdictRead t c.held items name y) kind q))))
    (name_found c prefix) a b h k

-- ---- over every disk

module _ (honest : Bool) (held : HeldSet) (items : List Item) (each : AreItems held items) (name : List ℕ) where
  -- a tree that is read is defined
  read_there : (t : List TreeItem) → IsReadTree honest held items name t → tree held items name ≡ None → ⊥
  read_there t is none =
      let due = all_read honest held is.0 t is.2 in
      let some : tree held items name ≡ Some due.0 = ap (λ (o : Option (List FileRow)). option_and_then (items_at held) o) is.1 ∙ due.1 in
      let no : None ≡ Some due.0 = sym none ∙ some in cc

  -- and is a check-in's
  no_tree : checkin_at items name ≡ None → (t : List TreeItem) → IsReadTree honest held items name t → ⊥
  no_tree none t is = read_there t is (ap (λ (l : Listing). option_and_then (items_at held) (known l)) (no_files items (items_rise held items each) name none))

  -- and so is what lacks something
  no_lack : checkin_at items name ≡ None → (m : Ref) → IsLacking honest held items name m → ⊥
  no_lack none m is = subst (λ (l : Listing). IsMissingIn honest held name l m) (no_files items (items_rise held items each) name none) is.1

  same_export : (x y : Export) → IsExportRead honest held items name x → IsExportRead honest held items name y → SameStatus (export_printed name x) (export_printed name y)
  same_export export.NotCheckin export.NotCheckin p q = refl
  same_export export.NotCheckin (export.Incomplete m) p q = refl
  same_export export.NotCheckin (export.Tree t) p q = absurd (no_tree p t q)
  same_export (export.Incomplete m) export.NotCheckin p q = refl
  same_export (export.Incomplete m) (export.Incomplete n) p q = refl
  same_export (export.Incomplete m) (export.Tree t) p q = absurd (read_there t q p.0)
  same_export (export.Tree t) export.NotCheckin p q = absurd (no_tree q t p)
  same_export (export.Tree t) (export.Incomplete m) p q = absurd (read_there t p q.0)
  same_export (export.Tree t) (export.Tree u) p q = refl

  -- a verdict on a check-in
  is_one : (v : Verdict) → IsVerdictRead honest held items name v → checkin_at items name ≡ None → v ≡ verdict.NotCheckin
  is_one verdict.NotCheckin p none = refl
  is_one verdict.NoSum p none = absurd (p.0 none)
  is_one (verdict.Incomplete m) p none = absurd (no_lack none m p.1)
  is_one (verdict.Wrong kept found) p none = absurd (no_tree none p.1.0 p.1.1)
  is_one verdict.Right p none = absurd (no_tree none p.0 p.1)

  -- one with a line
  is_line : (v : Verdict) → (v ≡ verdict.NotCheckin → ⊥) → (verdict_printed name v).status ≡ 0
  is_line verdict.NotCheckin other = absurd (other refl)
  is_line verdict.NoSum other = refl
  is_line (verdict.Incomplete m) other = refl
  is_line (verdict.Wrong kept found) other = refl
  is_line verdict.Right other = refl

  not_checkin : (x y : Verdict) → IsVerdictRead honest held items name x → IsVerdictRead honest held items name y → x ≡ verdict.NotCheckin → SameStatus (verdict_printed name x) (verdict_printed name y)
  not_checkin x y p q e =
      let none : checkin_at items name ≡ None = subst (IsVerdictRead honest held items name) e p in
      ap (λ (v : Verdict). (verdict_printed name v).status) (e ∙ sym (is_one y q none))

  same_verdict : (x y : Verdict) → IsVerdictRead honest held items name x → IsVerdictRead honest held items name y → SameStatus (verdict_printed name x) (verdict_printed name y)
  same_verdict verdict.NotCheckin y p q = not_checkin verdict.NotCheckin y p q refl
  same_verdict x verdict.NotCheckin p q = sym (not_checkin verdict.NotCheckin x q p refl)
  same_verdict verdict.NoSum y p q = sym (is_line y (λ e. p.0 (subst (IsVerdictRead honest held items name) e q)))
  same_verdict (verdict.Incomplete m) y p q = sym (is_line y (λ e. no_lack (subst (IsVerdictRead honest held items name) e q) m p.1))
  same_verdict (verdict.Wrong kept found) y p q = sym (is_line y (λ e. no_tree (subst (IsVerdictRead honest held items name) e q) p.1.0 p.1.1))
  same_verdict verdict.Right y p q = sym (is_line y (λ e. no_tree (subst (IsVerdictRead honest held items name) e q) p.0 p.1))

pub exported_ends : (honest : Bool) (prefix : List ℕ) (c : Contents) (a b : Printed) → IsExported honest prefix c a → IsExported honest prefix c b → a.status ≡ b.status
exported_ends honest prefix c a b h k =
    by_answers SameStatus (λ x y e. ap (λ (p : Printed). p.status) e) (IsExportRead honest c.held) export_printed c
    (λ items each name x y p q. same_export honest c.held items each name x y p q) (name_found c prefix) a b h k

pub verified_ends : (honest : Bool) (prefix : List ℕ) (c : Contents) (a b : Printed) → IsVerified honest prefix c a → IsVerified honest prefix c b → a.status ≡ b.status
verified_ends honest prefix c a b h k =
    by_answers SameStatus (λ x y e. ap (λ (p : Printed). p.status) e) (IsVerdictRead honest c.held) verdict_printed c
    (λ items each name x y p q. same_verdict honest c.held items each name x y p q) (name_found c prefix) a b h k

-- ---- there is one

some_by : {X : Type 0} (IsAnswer : List Item → List ℕ → X → Type 0) (print : List ℕ → X → Printed) (c : Contents) → ((items : List Item) → AreItems c.held items → (name : List ℕ) → (x : X) × IsAnswer items name x)
    → (found : Result (List ℕ) Refused) → (a : Printed) × IsBy IsAnswer print c found a
some_by IsAnswer print c some (Ok name) =
    let i = some_items c.held in
    let x = some i.0 i.1 name in (print name x.0, (i.0, i.1, x.0, x.1, refl))
some_by IsAnswer print c some (Err refused) = (printing.refused (refusal_text refused), refl)

pub some_exported : (honest : Bool) (prefix : List ℕ) (records : List Record) → AreRecords records → (a : Printed) × IsExported honest prefix (contents records) a
some_exported honest prefix records are =
    some_by (IsExportRead honest (contents records).held) export_printed (contents records) (λ items each name. some_export honest records are items each name) (name_found (contents records) prefix)

pub some_verified : (honest : Bool) (prefix : List ℕ) (records : List Record) → AreRecords records → (a : Printed) × IsVerified honest prefix (contents records) a
some_verified honest prefix records are =
    some_by (IsVerdictRead honest (contents records).held) verdict_printed (contents records) (λ items each name. some_verdict honest records are items each name) (name_found (contents records) prefix)
