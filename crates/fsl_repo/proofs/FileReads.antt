-- Files that are read for a reply.
use Rattle.std.proofs.Common.{◌≡◌, ◌<◌, ◌+◌, ℕ, zero, suc, Bool, true, false, List, [], ◌∷◌, ◌++◌, length, take, map, get_or, refl, sym, ap, subst, ◌∙◌, arith}
use Rattle.std.specs.Prelude.{◌||◌, IsTrue}
use Rattle.std.specs.List.{AllZip}
use Rattle.std.specs.Str.{bytes_eq}
use Rattle.std.specs.Cmp.Lexicographic.{bytes_decides}
use Rattle.fsl_order.specs.Names.{has}
use Rattle.fsl_answer.specs.declared.SentFile.{SentFile}
use Rattle.fsl_blobs.specs.declared.BlobFault.{BlobFault}
use Rattle.fsl_blobs.specs.declared.BlobFault.TheVariants as blob_fault
use Rattle.fsl_repo.specs.declared.BuildFault.{BuildFault}
use Rattle.fsl_repo.specs.declared.BuildFault.TheVariants as build_fault
use Rattle.fsl_repo.specs.declared.sending.Due.{Due}
use Rattle.fsl_repo.specs.Contents.{ContentFails}
use Rattle.fsl_repo.specs.Machine.{State}
use Rattle.fsl_repo.specs.Sending.{FilesFail, IsReadFile, as_build_fault}
use Rattle.fsl_repo.proofs.Zipped.{AllZip-push}

-- ---- names

is_first : (names : List (List ℕ)) (q : List ℕ) → has (q ∷ names) q ≡ true
is_first names q = ap (λ (b : Bool). b || has names q) ((bytes_decides q q).1 refl)

or_right : (a b : Bool) → b ≡ true → (a || b) ≡ true
or_right true b is = refl
or_right false b is = is

or_false : (b : Bool) → (b || false) ≡ true → b ≡ true
or_false true is = refl
or_false false is = is

only_one : (name q : List ℕ) → has (q ∷ []) name ≡ true → name ≡ q
only_one name q is = (bytes_decides name q).0 (or_false (bytes_eq name q) is)

abbrev names_of : List Due → List (List ℕ)
names_of due = map (λ d. d.name) due

among : (due : List Due) (i : ℕ) (d : Due) → i < length due → d ≡ get_or due i d → has (names_of due) d.name ≡ true
among [] i d lt is = absurd (omega (arith, lt))
among (x ∷ due) zero d lt is = subst (λ (y : Due). has (y.name ∷ names_of due) d.name ≡ true) is (is_first (names_of due) d.name)
among (x ∷ due) (suc i) d lt is = or_right (bytes_eq d.name x.name) (has (names_of due) d.name) (among due i d (omega (arith, lt)) is)

-- ---- faults

-- why a file isn't read, by why its content isn't
pub file_fails : (fault : BlobFault) (old new : State) (name : List ℕ) → ContentFails fault old name new → FilesFail (as_build_fault name fault) (name ∷ []) old new.faults
file_fails blob_fault.Absent old new name failed = failed.1
file_fails blob_fault.Disk old new name failed = (name, is_first [] name, failed)
file_fails (blob_fault.Damaged found) old new name failed = (is_first [] name, failed.0, failed.1)
file_fails blob_fault.Memory old new name failed = failed

-- why files aren't read, by why one of them isn't
pub files_fail : (fault : BuildFault) (due : List Due) (i : ℕ) (d : Due) (s : State) (faults : ℕ) → i < length due → d ≡ get_or due i d → FilesFail fault (d.name ∷ []) s faults → FilesFail fault (names_of due) s faults
files_fail build_fault.Disk due i d s faults lt is failed = (d.name, among due i d lt is, failed.2)
files_fail (build_fault.Damaged name found) due i d s faults lt is failed =
    (subst (λ (q : List ℕ). has (names_of due) q ≡ true) (sym (only_one name d.name failed.0)) (among due i d lt is), failed.1, failed.2)
files_fail build_fault.Memory due i d s faults lt is failed = failed

-- ---- files that are read

taken_next : {X : Type 0} (xs : List X) (i : ℕ) (x : X) → i < length xs → x ≡ get_or xs i x → take (i + 1) xs ≡ take i xs ++ x ∷ []
taken_next [] i x lt is = absurd (omega (arith, lt))
taken_next (y ∷ xs) zero x lt is = ap (λ z. z ∷ []) (sym is)
taken_next (y ∷ xs) (suc i) x lt is =
    let next : suc (i + 1) ≡ suc i + 1 = omega arith in
    sym (ap (λ (n : ℕ). take n (y ∷ xs)) next) ∙ ap (λ zs. y ∷ zs) (taken_next xs i x (omega (arith, lt)) is)

-- one more
pub read_more : (s : State) (due : List Due) (i : ℕ) (d : Due) (files more : List SentFile) (f : SentFile)
    → i < length due → d ≡ get_or due i d → AllZip (IsReadFile s) (take i due) files → IsReadFile s d f → more ≡ files ++ f ∷ [] → AllZip (IsReadFile s) (take (i + 1) due) more
read_more s due i d files more f lt is all one now =
    subst (λ (xs : List Due). AllZip (IsReadFile s) xs more) (sym (taken_next due i d lt is))
    (subst (λ (ys : List SentFile). AllZip (IsReadFile s) (take i due ++ d ∷ []) ys) (sym now) (AllZip-push (IsReadFile s) (take i due) files d f all one))
