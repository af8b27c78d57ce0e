-- Calls that only read a repository, one after another.
use Rattle.std.proofs.Common.{◌≡◌, ℕ, List, refl, sym, subst, ◌∙◌, arith, Result, Ok, Err}
use Rattle.std.specs.Prelude.{IsErrAnd, IfErr}
use Rattle.fsl_disk.specs.Disk.{DiskState}
use Rattle.fsl_disk.proofs.Moments.{quiet_on}
use Rattle.fsl_blobs.proofs.ContentLemmas.{quiet-same}
use Rattle.fsl_blobs.specs.declared.BlobFault.{BlobFault}
use Rattle.fsl_blobs.specs.declared.BlobFault.TheVariants as blob_fault
use Rattle.fsl_repo.specs.Contents.{ContentFails}
use Rattle.fsl_repo.specs.Machine.{Leaves, State}
use Rattle.fsl_repo.specs.Whole.{Whole}
use Rattle.fsl_scrub.specs.declared.faults.WriteFault.{WriteFault}
use Rattle.fsl_scrub.specs.declared.faults.WriteFault.TheVariants as write_fault
use Rattle.fsl_scrub.specs.Copying.{OnlyReads}
use Rattle.fsl_scrub.specs.Faults.{IsOfRead, IsOfSpare, ReadFails, unread_as}

-- ---- faults

-- a call over the spare file says nothing else of the repository
pub spare_reads : (fault : WriteFault) (s : State) → IsOfSpare fault → ReadFails fault s s
spare_reads write_fault.Unwritten s own = refl
spare_reads write_fault.Unread s own = absurd own
spare_reads (write_fault.Damaged name found) s own = absurd own
spare_reads write_fault.Memory s own = refl

-- what a content that isn't read says
pub content_reads : (name : List ℕ) (fault : BlobFault) (old new : State) → ContentFails fault old name new → ReadFails (unread_as name fault) old new
content_reads name blob_fault.Absent old new fails = fails.1
content_reads name blob_fault.Disk old new fails = fails
content_reads name (blob_fault.Damaged found) old new fails = fails
content_reads name blob_fault.Memory old new fails = fails

pub content_own : (name : List ℕ) (fault : BlobFault) → IsOfRead (unread_as name fault)
content_own name blob_fault.Absent = tt
content_own name blob_fault.Disk = tt
content_own name (blob_fault.Damaged found) = tt
content_own name blob_fault.Memory = tt

-- ---- calls

pub leaves_none : (s : State) → Leaves s s s
leaves_none s = record { state = refl; faults = omega arith }

leaves_then : (s t u : State) → t ≡ s → Leaves t t u → Leaves s s u
leaves_then s t u same leaves = subst (λ (x : State). Leaves x x u) same leaves

-- nothing was read
pub reads_ok : {D X : Type 0} (s : DiskState) (a : Whole D) (x : X) → OnlyReads s s a a (Ok x)
reads_ok s a x = record { quiet = quiet-same s; state = leaves_none a.seen.state; items = refl; loaded = refl; log = refl; same = refl; failed = tt }

pub reads_err : {D X : Type 0} (s : DiskState) (a : Whole D) (e : WriteFault) (r : Result X WriteFault) → IsErrAnd r (λ f. f ≡ e) → ReadFails e a.seen.state a.seen.state → OnlyReads s s a a r
reads_err s a e (Ok x) is fails = absurd is
reads_err s a e (Err f) is fails =
    record { quiet = quiet-same s; state = leaves_none a.seen.state; items = refl; loaded = refl; log = refl; same = tt; failed = subst (λ (g : WriteFault). ReadFails g a.seen.state a.seen.state) (sym is) fails }

-- one call after another that was done
pub reads_then : {D X Y : Type 0} (s0 s1 s2 : DiskState) (a b c : Whole D) (x : X) (r : Result Y WriteFault) → OnlyReads s0 s1 a b (Ok x) → OnlyReads s1 s2 b c r → OnlyReads s0 s2 a c r
reads_then s0 s1 s2 a b c x (Ok y) one two = record {
  quiet = quiet_on s0 s1 s2 one.quiet two.quiet;
  state = leaves_then a.seen.state b.seen.state c.seen.state one.same two.state;
  items = two.items ∙ one.items;
  loaded = two.loaded ∙ one.loaded;
  log = two.log ∙ one.log;
  same = two.same ∙ one.same;
  failed = tt;
}
reads_then s0 s1 s2 a b c x (Err e) one two = record {
  quiet = quiet_on s0 s1 s2 one.quiet two.quiet;
  state = leaves_then a.seen.state b.seen.state c.seen.state one.same two.state;
  items = two.items ∙ one.items;
  loaded = two.loaded ∙ one.loaded;
  log = two.log ∙ one.log;
  same = tt;
  failed = subst (λ (s : State). ReadFails e s c.seen.state) one.same two.failed;
}

-- and then a call over the spare file, whatever it answers
pub reads_spare : {D X Y : Type 0} (s0 s1 : DiskState) (a b : Whole D) (x : X) (r : Result Y WriteFault) → OnlyReads s0 s1 a b (Ok x) → IfErr r IsOfSpare → OnlyReads s0 s1 a b r
reads_spare s0 s1 a b x (Ok y) one own = reads_then s0 s1 s1 a b b x (Ok y) one (reads_ok s1 b y)
reads_spare s0 s1 a b x (Err e) one own = reads_then s0 s1 s1 a b b x (Err e) one (reads_err s1 b e (Err e) refl (spare_reads e b.seen.state own))

-- a fault is handed on
pub reads_fault : {D X Y : Type 0} (s0 s1 : DiskState) (a b : Whole D) (e : WriteFault) (r : Result Y WriteFault) → OnlyReads {X = X} s0 s1 a b (Err e) → IsErrAnd r (λ f. f ≡ e) → OnlyReads s0 s1 a b r
reads_fault s0 s1 a b e (Ok y) one is = absurd is
reads_fault s0 s1 a b e (Err f) one is =
    record { quiet = one.quiet; state = one.state; items = one.items; loaded = one.loaded; log = one.log; same = tt; failed = subst (λ (g : WriteFault). ReadFails g a.seen.state b.seen.state) (sym is) one.failed }

-- a fault of a call over the spare file is handed on
pub own_fault : {Y : Type 0} (e : WriteFault) (r : Result Y WriteFault) → IsErrAnd r (λ f. f ≡ e) → IsOfSpare e → IfErr r IsOfSpare
own_fault e (Ok y) is own = tt
own_fault e (Err f) is own = subst IsOfSpare (sym is) own
