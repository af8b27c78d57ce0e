-- The tests of rows tell whether they are the same.
use Rattle.std.proofs.Common.{◌≡◌, ℕ, zero, suc, List, Bool, true, false, ◌&&◌, ◌==◌, Option, Some, None, is_some, refl, sym, ap, ◌∙◌}
use mathlib.Core.Bool.{true≢false}
use Rattle.std.specs.Bool.{Decides}
use Rattle.std.specs.Cmp.{unsigned_Decides}
use Rattle.std.specs.Cmp.Lexicographic.{pointwise_decides, bytes_decides}
use Rattle.std.specs.Option.{option_eq}
use Rattle.std.specs.Str.{bytes_eq}
use Rattle.std.proofs.lemmas.Bool.{and_parts}
use Rattle.fsl_name.specs.Ref.{same_ref}
use Rattle.fsl_name.specs.declared.reference.Ref.{Ref}
use Rattle.fsl_name.proofs.RefTexts.{ref_decides}
use Rattle.fsl_files.specs.declared.Change.{Change}
use Rattle.fsl_files.specs.declared.FileRow.{FileRow}
use Rattle.fsl_files.specs.declared.How.{How}
use Rattle.fsl_files.specs.declared.How.TheVariants.{Added, Edited, Deleted}
use Rattle.fsl_files.specs.declared.Perm.{Perm}
use Rattle.fsl_files.specs.declared.Perm.TheVariants.{Plain, Writable, Exec, Symlink}
use Rattle.fsl_files.specs.declared.Listing.{Listing}
use Rattle.fsl_files.specs.declared.Listing.TheVariants.{NotCheckin, NoBaseline, Known}
use Rattle.fsl_files.specs.Files.{known, files_row}
use Rattle.fsl_files.specs.At.{files_at, changes_at}
use Rattle.fsl_files.specs.Kept.{Lines, facts_of}
use Rattle.fsl_files.specs.Same.{perm_code, how_code, is_row, is_change, is_same_listing, is_same_changes, is_same_row}
use Rattle.fsl_files.proofs.Reading.{row-at}

no : {P : Type 0} → false ≡ true → P
no h = absurd (true≢false (sym h))

both : {P Q R : Type 0} (s t : Bool) → Decides s P → Decides t Q → (P → Q → R) → (R → P) → (R → Q) → Decides (s && t) R
both s t p q to left right =
    (λ h. to (p.0 (and_parts s t h).0) (q.0 (and_parts s t h).1), λ r. λ i. p.1 (left r) i && q.1 (right r) i)

-- ---- by numbers

abbrev perm_of : ℕ → Perm
perm_of zero = Plain
perm_of (suc zero) = Writable
perm_of (suc (suc zero)) = Exec
perm_of (suc (suc (suc n))) = Symlink

abbrev how_of : ℕ → How
how_of zero = Added
how_of (suc zero) = Edited
how_of (suc (suc n)) = Deleted

perm_back : (p : Perm) → perm_of (perm_code p) ≡ p
perm_back Plain = refl
perm_back Writable = refl
perm_back Exec = refl
perm_back Symlink = refl

how_back : (h : How) → how_of (how_code h) ≡ h
how_back Added = refl
how_back Edited = refl
how_back Deleted = refl

perm_decides : (a b : Perm) → Decides (perm_code a == perm_code b) (a ≡ b)
perm_decides a b =
    let d = unsigned_Decides (perm_code a) (perm_code b) in
    (λ h. sym (perm_back a) ∙ ap perm_of (d.0 h) ∙ perm_back b, λ e. d.1 (ap perm_code e))

how_decides : (a b : How) → Decides (how_code a == how_code b) (a ≡ b)
how_decides a b =
    let d = unsigned_Decides (how_code a) (how_code b) in
    (λ h. sym (how_back a) ∙ ap how_of (d.0 h) ∙ how_back b, λ e. d.1 (ap how_code e))

-- ---- files and changes

abbrev value_or : {X : Type 0} → X → Option X → X
value_or x None = x
value_or x (Some y) = y

hash_decides : (a b : Option Ref) → Decides (option_eq same_ref a b) (a ≡ b)
hash_decides None None = (λ _. refl, λ _. refl)
hash_decides None (Some y) = (no, λ e. ap is_some e)
hash_decides (Some x) None = (no, λ e. sym (ap is_some e))
hash_decides (Some x) (Some y) = (λ h. ap Some ((ref_decides x y).0 h), λ e. (ref_decides x y).1 (ap (value_or x) e))

row_decides : (a b : FileRow) → Decides (is_row a b) (a ≡ b)
row_decides a b =
    both (bytes_eq a.path b.path && option_eq same_ref a.hash b.hash) (perm_code a.perm == perm_code b.perm)
    (both {R = (a.path ≡ b.path) × (a.hash ≡ b.hash)} (bytes_eq a.path b.path) (option_eq same_ref a.hash b.hash) (bytes_decides a.path b.path) (hash_decides a.hash b.hash) (λ p q. (p, q)) (λ r. r.0) (λ r. r.1))
    (perm_decides a.perm b.perm)
    (λ p q. λ i. record { path = p.0 i; hash = p.1 i; perm = q i }) (λ e. (ap (λ r. r.path) e, ap (λ r. r.hash) e)) (ap (λ r. r.perm))

change_decides : (a b : Change) → Decides (is_change a b) (a ≡ b)
change_decides a b =
    both (bytes_eq a.path b.path) (how_code a.how == how_code b.how) (bytes_decides a.path b.path) (how_decides a.how b.how)
    (λ p q. λ i. record { path = p i; how = q i }) (ap (λ c. c.path)) (ap (λ c. c.how))

-- ---- rows

abbrev is_absent : Listing → Bool
is_absent NotCheckin = true
is_absent NoBaseline = false
is_absent (Known rows) = false

listing_decides : (a b : Listing) → Decides (is_same_listing a b) (a ≡ b)
listing_decides NotCheckin NotCheckin = (λ _. refl, λ _. refl)
listing_decides NoBaseline NoBaseline = (λ _. refl, λ _. refl)
listing_decides (Known a) (Known b) =
    let d = pointwise_decides row_decides a b in
    (λ h. ap Known (d.0 h), λ e. d.1 (ap (value_or a) (ap known e)))
listing_decides NotCheckin NoBaseline = (no, λ e. sym (ap is_absent e))
listing_decides NotCheckin (Known b) = (no, λ e. sym (ap is_absent e))
listing_decides NoBaseline NotCheckin = (no, λ e. ap is_absent e)
listing_decides (Known a) NotCheckin = (no, λ e. ap is_absent e)
listing_decides NoBaseline (Known b) = (no, λ e. ap (λ l. is_some (known l)) e)
listing_decides (Known a) NoBaseline = (no, λ e. sym (ap (λ l. is_some (known l)) e))

changes_decide : (a b : Option (List Change)) → Decides (is_same_changes a b) (a ≡ b)
changes_decide None None = (λ _. refl, λ _. refl)
changes_decide None (Some b) = (no, λ e. ap is_some e)
changes_decide (Some a) None = (no, λ e. sym (ap is_some e))
changes_decide (Some a) (Some b) =
    let d = pointwise_decides change_decides a b in
    (λ h. ap Some (d.0 h), λ e. d.1 (ap (value_or a) e))

pub same_row-decides : (es fs : Lines) (q : List ℕ) → Decides (is_same_row es fs q) (files_row (facts_of es) q ≡ files_row (facts_of fs) q)
same_row-decides es fs q =
    both (is_same_changes (changes_at es q) (changes_at fs q)) (is_same_listing (files_at es q) (files_at fs q)) (changes_decide (changes_at es q) (changes_at fs q)) (listing_decides (files_at es q) (files_at fs q))
    (λ c f. row-at es q ∙ (λ i. (f i, c i)) ∙ sym (row-at fs q))
    (λ e. ap (λ r. r.1) (sym (row-at es q) ∙ e ∙ row-at fs q)) (λ e. ap (λ r. r.0) (sym (row-at es q) ∙ e ∙ row-at fs q))
