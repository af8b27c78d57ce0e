-- Records as they are written, with contents as they were read.
use Rattle.std.proofs.Common.{◌≡◌, ℕ, ◌≤◌, Bool, true, not, List, [], ◌∷◌, ◌++◌, length, Option, Some, None, refl, sym, ap, subst, ◌∙◌, length-append, arith, IsTrue, Result, Ok, Err}
use Rattle.std.specs.Prelude.{◌&&◌, IsErrAnd, if◌then◌else◌, codes}
use Rattle.std.specs.List.{AllByRecursion, list_all}
use Rattle.std.specs.Int.{to_be_bytes, w64}
use Rattle.fsl_text.specs.Limits.{most_of_artifact}
use Rattle.fsl_disk.specs.Disk.{DiskState}
use Rattle.fsl_record.specs.Receipts.{Brought, receipt_bytes}
use Rattle.fsl_record.specs.declared.Record.{Record}
use Rattle.fsl_record.specs.declared.Record.TheVariants as record_of
use Rattle.fsl_record.specs.Records.{IsFit, is_config, record_bytes, records_bytes}
use Rattle.fsl_repo.specs.Machine.{State}
use Rattle.fsl_scrub.specs.Closing.{WrittenMomentsStand}
use Rattle.fsl_scrub.specs.Copying.{AsWritten}
use Rattle.fsl_scrub.specs.Scrubbed.{AreWrittenAs, HonestIsSame, IsReadAs, IsWrittenAs, WrittenAreRecords, file_text, scrubbed}
use Rattle.std.proofs.lemmas.List.{append-nil}
use Rattle.std.proofs.lemmas.List.Concat.{flat_map-append}
use Rattle.std.specs.Prelude.{option_to_list}
use Rattle.fsl_scrub.specs.declared.faults.WriteFault.{WriteFault}
use Rattle.fsl_scrub.specs.Closing.{WritesGroup}
use Rattle.fsl_scrub.specs.Copying.{IsBlobNow, WritesRecords, blob_now}
use Rattle.fsl_scrub.specs.Growing.{Writes}
use Rattle.fsl_scrub.specs.Scrubbed.{unsized}
use Rattle.fsl_scrub.proofs.GrowingLemmas.{faulted, same_bytes, writes_on}
use Rattle.fsl_scrub.proofs.ClosingLemmas.{length_closed, length_file}
use Rattle.fsl_scrub.proofs.FoldLemmas.{any_stands, scrubbed_are_records}

-- ---- a record

pub same_written : (honest : Bool) (r : Record) → IsWrittenAs honest r r
same_written honest (record_of.Config c) = refl
same_written honest (record_of.Blob private name receipt bytes) = (bytes, refl, record { named = refl; sized = refl; same = λ _. refl })
same_written honest (record_of.Publish name) = refl
same_written honest (record_of.Shun name) = refl
same_written honest (record_of.Unshun name) = refl

honest_one : (due written : Record) → IsWrittenAs true due written → written ≡ due
honest_one (record_of.Config c) written is = is
honest_one (record_of.Blob private name receipt bytes) written is = is.1 ∙ ap (λ (text : List ℕ). record_of.Blob private name receipt text) (is.2.same refl)
honest_one (record_of.Publish name) written is = is
honest_one (record_of.Shun name) written is = is
honest_one (record_of.Unshun name) written is = is

blob_fits : (private : Bool) (name : List ℕ) (receipt : Option Brought) (bytes text : List ℕ) (honest : Bool) → IsReadAs honest bytes text → IsFit (record_of.Blob private name receipt bytes) → IsFit (record_of.Blob private name receipt text)
blob_fits private name receipt bytes text honest is fit =
    (fit.0, (fit.1.0 ∙ sym is.named, subst (λ (n : ℕ). n ≤ most_of_artifact) (sym is.sized) fit.1.1), fit.2)

one_fits : (honest : Bool) (due written : Record) → IsWrittenAs honest due written → IsFit due → IsFit written
one_fits honest (record_of.Config c) written is fit = subst IsFit (sym is) fit
one_fits honest (record_of.Blob private name receipt bytes) written is fit = subst IsFit (sym is.1) (blob_fits private name receipt bytes is.0 honest is.2 fit)
one_fits honest (record_of.Publish name) written is fit = subst IsFit (sym is) fit
one_fits honest (record_of.Shun name) written is fit = subst IsFit (sym is) fit
one_fits honest (record_of.Unshun name) written is fit = subst IsFit (sym is) fit

one_config : (honest : Bool) (due written : Record) → IsWrittenAs honest due written → is_config written ≡ is_config due
one_config honest (record_of.Config c) written is = ap is_config is
one_config honest (record_of.Blob private name receipt bytes) written is = ap is_config is.1
one_config honest (record_of.Publish name) written is = ap is_config is
one_config honest (record_of.Shun name) written is = ap is_config is
one_config honest (record_of.Unshun name) written is = ap is_config is

behind_size : (front : ℕ → List ℕ) (text bytes : List ℕ) → length text ≡ length bytes → length (front (length text) ++ text) ≡ length (front (length bytes) ++ bytes)
behind_size front text bytes sized =
    ap (λ (n : ℕ). length (front n ++ text)) sized ∙ omega (arith, sized, length-append (front (length bytes)) text, length-append (front (length bytes)) bytes)

blob_size : (private : Bool) (name : List ℕ) (receipt : Option Brought) (text bytes : List ℕ) → length text ≡ length bytes
    → length (record_bytes (record_of.Blob private name receipt text)) ≡ length (record_bytes (record_of.Blob private name receipt bytes))
blob_size private name None text bytes sized = behind_size (λ (n : ℕ). codes "B" ++ (if private then 1 else 0) ∷ name ++ to_be_bytes w64 n) text bytes sized
blob_size private name (Some r) text bytes sized = behind_size (λ (n : ℕ). codes "R" ++ (if private then 1 else 0) ∷ name ++ receipt_bytes r ++ to_be_bytes w64 n) text bytes sized

one_size : (honest : Bool) (due written : Record) → IsWrittenAs honest due written → length (record_bytes written) ≡ length (record_bytes due)
one_size honest (record_of.Config c) written is = ap (λ (r : Record). length (record_bytes r)) is
one_size honest (record_of.Blob private name receipt bytes) written is = ap (λ (r : Record). length (record_bytes r)) is.1 ∙ blob_size private name receipt is.0 bytes is.2.sized
one_size honest (record_of.Publish name) written is = ap (λ (r : Record). length (record_bytes r)) is
one_size honest (record_of.Shun name) written is = ap (λ (r : Record). length (record_bytes r)) is
one_size honest (record_of.Unshun name) written is = ap (λ (r : Record). length (record_bytes r)) is

-- ---- records

pub all_same : (honest : Bool) (records : List Record) → AreWrittenAs honest records records
all_same honest [] = tt
all_same honest (r ∷ records) = (same_written honest r, all_same honest records)

pub all_parts : (honest : Bool) (due written more others : List Record) → AreWrittenAs honest due written → AreWrittenAs honest more others → AreWrittenAs honest (due ++ more) (written ++ others)
all_parts honest [] [] more others h k = k
all_parts honest [] (w ∷ written) more others h k = absurd h
all_parts honest (d ∷ due) [] more others h k = absurd h
all_parts honest (d ∷ due) (w ∷ written) more others h k = (h.0, all_parts honest due written more others h.1 k)

pub honest_is_same : HonestIsSame
honest_is_same [] [] h = refl
honest_is_same [] (w ∷ written) h = absurd h
honest_is_same (d ∷ due) [] h = absurd h
honest_is_same (d ∷ due) (w ∷ written) h = let one = honest_one d w h.0 in let rest = honest_is_same due written h.1 in λ i. one i ∷ rest i

all_fit : (honest : Bool) (due written : List Record) → AreWrittenAs honest due written → AllByRecursion IsFit due → AllByRecursion IsFit written
all_fit honest [] [] h fit = tt
all_fit honest [] (w ∷ written) h fit = absurd h
all_fit honest (d ∷ due) [] h fit = absurd h
all_fit honest (d ∷ due) (w ∷ written) h fit = (one_fits honest d w h.0 fit.0, all_fit honest due written h.1 fit.1)

no_config : (honest : Bool) (due written : List Record) → AreWrittenAs honest due written → list_all (λ (r : Record). not (is_config r)) written ≡ list_all (λ (r : Record). not (is_config r)) due
no_config honest [] [] h = refl
no_config honest [] (w ∷ written) h = absurd h
no_config honest (d ∷ due) [] h = absurd h
no_config honest (d ∷ due) (w ∷ written) h = let one = one_config honest d w h.0 in let rest = no_config honest due written h.1 in λ i. not (one i) && rest i

pub written_are_records : WrittenAreRecords
written_are_records honest [] written none h = absurd none
written_are_records honest (d ∷ due) [] are h = absurd h
written_are_records honest (d ∷ due) (w ∷ written) are h = (
  subst IsTrue (sym (one_config honest d w h.0)) are.0,
  subst IsTrue (sym (no_config honest due written h.1)) are.1,
  all_fit honest (d ∷ due) (w ∷ written) h are.2,
)

pub all_size : (honest : Bool) (due written : List Record) → AreWrittenAs honest due written → length (records_bytes written) ≡ length (records_bytes due)
all_size honest [] [] h = refl
all_size honest [] (w ∷ written) h = absurd h
all_size honest (d ∷ due) [] h = absurd h
all_size honest (d ∷ due) (w ∷ written) h =
    omega (arith, one_size honest d w h.0, all_size honest due written h.1, length-append (record_bytes w) (records_bytes written), length-append (record_bytes d) (records_bytes due))

-- so their file has the same length
pub text_size : (honest : Bool) (due written : List Record) → AreWrittenAs honest due written → length (file_text written) ≡ length (file_text due)
text_size honest due written h = omega (arith, all_size honest due written h, length_file written, length_file due, length_closed written, length_closed due)

pub written_moments_stand : WrittenMomentsStand
written_moments_stand honest records written are h c may = any_stands written (written_are_records honest (scrubbed records) written (scrubbed_are_records records are) h) c may

-- what is so of the scrubbed records as they are written is so of them over a disk that tells its contents and meets the disk model
pub where_honest : (s : State) (due written : List Record) (P : List Record → Type 0) → AreWrittenAs s.honest due written → P written → s.honest ≡ true → P due
where_honest s due written P h p honest = subst P (honest_is_same due written (subst (λ (b : Bool). AreWrittenAs b due written) honest h)) p

-- other records in their place that are the same
pub other_due : (s : State) (due others : List Record) (P : List Record → Type 0) → due ≡ others → AsWritten s due P → AsWritten s others P
other_due s due others P same w = subst (λ (l : List Record). AsWritten s l P) same w

-- ---- writing

-- one Blob
pub one_written : (s : State) (name : List ℕ) (entry : Record) (at : ℕ) (d0 d1 : DiskState) (r : Result ℕ WriteFault) → IsBlobNow s name entry → Writes at (record_bytes entry) d0 d1 r
    → WritesRecords s (blob_now s name) at d0 d1 r
one_written s name entry at d0 d1 r is w = (
  entry ∷ [],
  subst (λ (o : Option Record). AreWrittenAs s.honest (option_to_list o) (entry ∷ [])) (sym is.1) (is.2, tt),
  same_bytes at (record_bytes entry) (records_bytes (entry ∷ [])) d0 d1 r (sym (append-nil (record_bytes entry))) w,
)

-- records behind others
pub more_written : (s : State) (due more all : List Record) (at n : ℕ) (d0 d1 d2 : DiskState) (r : Result ℕ WriteFault) → due ++ more ≡ all
    → WritesRecords s due at d0 d1 (Ok n) → WritesRecords s more n d1 d2 r → WritesRecords s all at d0 d2 r
more_written s due more all at n d0 d1 d2 r is one two = (
  one.0 ++ two.0,
  subst (λ (l : List Record). AreWrittenAs s.honest l (one.0 ++ two.0)) is (all_parts s.honest due one.0 more two.0 one.1 two.1),
  same_bytes at (records_bytes one.0 ++ records_bytes two.0) (records_bytes (one.0 ++ two.0)) d0 d2 r (sym (flat_map-append record_bytes one.0 two.0))
      (writes_on at n (records_bytes one.0) (records_bytes two.0) d0 d1 d2 r one.2 two.2),
)

-- a fault is handed on, whatever was to be written
pub fault_written : (s : State) (due others : List Record) (at : ℕ) (d0 d1 : DiskState) (e : WriteFault) (r : Result ℕ WriteFault) → WritesRecords s due at d0 d1 (Err e) → IsErrAnd r (λ f. f ≡ e) → WritesRecords s others at d0 d1 r
fault_written s due others at d0 d1 e r w is = (others, all_same s.honest others, faulted at (records_bytes w.0) (records_bytes others) d0 d1 e r w.2 is)

pub group_fault : (s : State) (due : List Record) (bytes : List ℕ) (d0 d1 : DiskState) (e : WriteFault) (r : Result ℕ WriteFault) → Writes 16 bytes d0 d1 (Err e) → IsErrAnd r (λ f. f ≡ e) → WritesGroup s due d0 d1 r
group_fault s due bytes d0 d1 e r w is = (due, all_same s.honest due, faulted 16 bytes (unsized due) d0 d1 e r w is)
