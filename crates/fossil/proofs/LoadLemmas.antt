-- What a file stands for after it was loaded, or wasn't.
use Rattle.std.proofs.Common.{◌≡◌, ◌≢◌, inl, inr, ℕ, List, [], ◌∷◌, ◌++◌, length, take, IsTrue, refl, sym, ap, subst, ◌∙◌, arith, length-append}
use Rattle.std.proofs.lemmas.List.{append-nil, take_all}
use Rattle.fsl_record.specs.declared.Record.{Record}
use Rattle.fsl_record.specs.Records.{AreRecords}
use Rattle.fsl_disk.specs.Disk.{DiskState, IsModelled, Keeps, LeavesOnly, Quiet}
use Rattle.fsl_disk.proofs.Moments.{weaker, and_then, quiet_moments}
use Rattle.fsl_journal.specs.File.{IsFileOf}
use Rattle.fsl_journal.specs.Log.{Log, IsLoaded, IsBetween, StandsBetween, committed}
use Rattle.fsl_journal.specs.Journal.{Belongs, OfBytes, LoadFailed, IsSpared}
use Rattle.fsl_journal.specs.declared.LoadFault.{LoadFault}
use Rattle.fsl_journal.specs.declared.LoadFault.TheVariants as load_fault
use Rattle.fsl_journal.proofs.Unique.{one_file}
use Rattle.fossil.specs.Acts.{Loaded, KeepsContents, KeepsImages, KeepsUnreadable, IsOpened, IsNotLoaded, IsUnopened}
use Rattle.fossil.proofs.FileLemmas.{some_same}

-- ---- images

nothing_behind : (records a b : List Record) → records ≡ (records ++ a) ++ b → a ≡ []
nothing_behind records [] b e = refl
nothing_behind records (x ∷ a) b e = absurd (omega (arith, ap length e, length-append (records ++ x ∷ a) b, length-append records (x ∷ a)))

-- between a list and itself there is no other
same_between : (old records : List Record) → IsBetween old old records → records ≡ old
same_between old records between =
    let more = between.more in
    let front = between.front in
    let none = nothing_behind old more.0 front.0 (front.1 ∙ ap (λ (rs : List Record). rs ++ front.0) more.1) in
    more.1 ∙ ap (λ (rs : List Record). old ++ rs) none ∙ append-nil old

-- what `load` says of each moment
abbrev pub KeepsBetween : DiskState → DiskState → Type 0
KeepsBetween file left =
    IsModelled file → (low high : List Record) → ((c : List ℕ) → file.images c → StandsBetween low high c) → LeavesOnly file left (StandsBetween low high)

pub images_kept : (file left : DiskState) → KeepsBetween file left → KeepsImages file left
images_kept file left between modelled old are =
    weaker file left (StandsBetween old old) (λ c. IsFileOf c old) (λ c h. subst (λ (rs : List Record). IsFileOf c rs) (same_between old h.0 h.2) h.1)
    (between modelled old old (λ c image. (old, are c image, record { more = ([], sym (append-nil old)); front = ([], sym (append-nil old)) })))

-- and a file that is only read then keeps them
pub images_quiet : (file mid left : DiskState) → KeepsImages file mid → Keeps file mid → Quiet mid left → (IsTrue mid.is_model → (c : List ℕ) → mid.since mid.moment c → mid.images c) → KeepsImages file left
images_quiet file mid left stays keeps quiet no_other modelled old are =
    let model : IsTrue mid.is_model = keeps.model ∙ modelled.model in
    let before = stays modelled old are in
    and_then file mid left (λ c. IsFileOf c old) before (quiet_moments mid left (λ c. IsFileOf c old) quiet model (no_other model) before.now)

-- ---- a file that was loaded

module _ (file left : DiskState) (log : Log) (records : List Record) (loaded : IsLoaded log records) (stands : OfBytes file (λ bytes. IsFileOf bytes records)) (belongs : Belongs log left) where
  all_committed : committed log ≡ records
  all_committed = (λ i. take (loaded.stable i) (loaded.records i)) ∙ take_all (length records) records (omega arith)

  pub contents_kept : KeepsContents file left
  contents_kept bytes told old are held left_told =
      let same : records ≡ old = one_file bytes records old (subst (λ (b : List ℕ). IsFileOf b records) (stands.1 bytes told) stands.2) are in
      subst (λ (rs : List Record). IsFileOf held rs) (all_committed ∙ same) (belongs.reads loaded.runs held left_told).0.file

  pub opened : (l : Loaded) → l.journal ≡ log → l.records ≡ records → l.places ≡ log.places → KeepsBetween file left → Keeps file left → left.faults ≡ file.faults → IsOpened file left l
  opened l same read starts between keeps faults = record {
    is_open = record {
      runs = ap (λ (j : Log). j.stopped) same ∙ loaded.runs;
      stable = ap (λ (j : Log). j.stable) same ∙ loaded.stable ∙ ap length (sym (ap (λ (j : Log). j.records) same ∙ loaded.records));
      fit = subst AreRecords (sym read) loaded.fit;
      same = (ap (λ (j : Log). j.records) same ∙ loaded.records ∙ sym read, ap (λ (j : Log). j.places) same ∙ sym starts);
    };
    stands = (stands.0, stands.1, subst (λ (rs : List Record). IsFileOf stands.0 rs) (sym (ap (λ (j : Log). j.records) same ∙ loaded.records)) stands.2);
    belongs = subst (λ (j : Log). Belongs j left) (sym same) belongs;
    faults = faults;
    contents = contents_kept;
    any_moment = images_kept file left between;
    keeps = keeps;
  }

-- ---- a file that wasn't

pub same_contents : (file left : DiskState) → left.contents ≡ file.contents → KeepsContents file left
same_contents file left same bytes told old are held left_told =
    subst (λ (b : List ℕ). IsFileOf b old) (some_same (sym told ∙ sym same ∙ left_told)) are

-- whatever the answer, as far as the disk model tells
pub spared_contents : (file left : DiskState) → IsSpared file left → IsModelled file → KeepsContents file left
spared_contents file left (inl same) model = same_contents file left same
spared_contents file left (inr kept) model = λ bytes told old are held left_told.
    let same : kept.0 ≡ old = one_file bytes kept.0 old (subst (λ (b : List ℕ). IsFileOf b kept.0) (kept.1.1 bytes told) kept.1.2) are in
    subst (λ (rs : List Record). IsFileOf held rs) same (kept.2 model held left_told)

-- why it wasn't, and the contents and the count where no call of the disk failed
is_why : (file left : DiskState) (fault : LoadFault) → LoadFailed fault file left
    → IsNotLoaded fault file left × (fault ≢ load_fault.Disk → KeepsContents file left) × (fault ≢ load_fault.Disk → left.faults ≡ file.faults)
is_why file left load_fault.Disk failed = (failed, (λ other. absurd (other refl)), λ other. absurd (other refl))
is_why file left (load_fault.NotRepository at) failed = (failed.2, (λ other. same_contents file left failed.0.contents), λ other. failed.0.faults)
is_why file left load_fault.Memory failed = (tt, (λ other. same_contents file left failed.0.contents), λ other. failed.0.faults)

pub unopened : (file left : DiskState) (fault : LoadFault) → LoadFailed fault file left → IsSpared file left → KeepsUnreadable file left → KeepsBetween file left → Keeps file left → IsUnopened file left fault
unopened file left fault failed spared unreadable between keeps =
    let why = is_why file left fault failed in
    record { cause = why.0; contents = why.1; faults = why.2; modelled = spared_contents file left spared; unreadable = unreadable; any_moment = images_kept file left between; keeps = keeps }
