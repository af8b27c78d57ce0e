-- What a sync of unversioned files leaves of one file.
use Rattle.std.proofs.Common.{◌≡◌, ◌⊎◌, inl, inr, ℕ, ◌+◌, List, [], ◌++◌, length, take, map, Some, is_some, IsTrue, refl, sym, ap, subst, ◌∙◌, arith}
use Rattle.std.proofs.lemmas.List.{append-nil, take_all}
use Rattle.fsl_order.specs.Causes.{Rose}
use Rattle.fsl_record.specs.declared.Record.{Record}
use Rattle.fsl_disk.specs.Disk.{DiskState, IsModelled, Told, Keeps, LeavesOnly}
use Rattle.fsl_disk.proofs.Moments.{started, weaker, and_then, keeps_on, modelled_after, told_contents}
use Rattle.fsl_journal.specs.File.{IsFileOf}
use Rattle.fsl_journal.specs.Log.{committed}
use Rattle.fsl_journal.specs.Journal.{OfBytes, HeldOrSame, IsSpared}
use Rattle.fsl_journal.proofs.Unique.{one_file}
use Rattle.fsl_uv.specs.declared.Card.{Card}
use Rattle.fsl_uv.specs.declared.UvLoadFault.{UvLoadFault}
use Rattle.fsl_uv.specs.declared.UvLoadFault.TheVariants as load_fault
use Rattle.fsl_uv.specs.Stores.{Seen, Whole, IsStore, IsSettled, IsCutAtMost, OpenFailed, blob_of}
use Rattle.fsl_uv.specs.Exchanging.{taken, Commits, Took, Lost}
use Rattle.fossil.specs.Acts.{KeepsContents, KeepsUnreadable}
use Rattle.fossil.specs.Synced.{AreImagesOf}
use Rattle.fossil.specs.UvSyncs.{aside, kept, takes, cut, IsLeftAs}
use Rattle.fossil.specs.UvMerging.{IsReady}
use Rattle.fossil.proofs.FileLemmas.{both, some_same, quiet_none, readable}
use Rattle.fossil.proofs.LoadLemmas.{KeepsBetween, images_kept, contents_kept, same_contents, spared_contents}

-- ---- a file that isn't touched

pub idle_left : (file : DiskState) → (IsTrue file.is_model → (c : List ℕ) → file.since file.moment c → file.images c) → (bytes : List ℕ) → IsLeftAs aside (both file file) bytes
idle_left file no_other bytes = record {
  contents = λ old held file_told left_told is known. subst (λ (b : List ℕ). IsFileOf b old) (some_same (sym file_told ∙ left_told)) is;
  any_moment = λ modelled old are. started file (λ c. IsFileOf c old) (no_other modelled.model) are;
  durable = λ modelled file_told old is c image. inl image;
  refused = λ file_told refused. quiet_none file;
  keeps = record { tells = refl; model = refl };
}

-- nothing was appended, as one says who appends no records
pub takes_none : (file left : DiskState) (bytes : List ℕ) → IsLeftAs kept (both file left) bytes → IsLeftAs (takes []) (both file left) bytes
takes_none file left bytes h = record {
  contents = λ old held file_told left_told is known. subst (λ (rs : List Record). IsFileOf held rs) (sym (append-nil old)) (h.contents old held file_told left_told is known);
  any_moment = λ modelled old are. weaker file left (λ c. IsFileOf c old) (λ c. IsFileOf c old ⊎ IsFileOf c (old ++ [])) (λ c is. inl is) (h.any_moment modelled old are);
  durable = λ modelled file_told old is c image. subst (λ (rs : List Record). IsFileOf c rs) (sym (append-nil old)) (h.durable modelled file_told old is c image);
  refused = h.refused;
  keeps = h.keeps;
}

-- ---- a file that was opened

module _ (file mid : DiskState) (s : Seen) (ready : IsReady file mid s) where
  abbrev records : List Record
  records = s.log.records

  -- its records are those that its bytes stand for
  pub same_records : (bytes : List ℕ) → file.contents ≡ Some bytes → (old : List Record) → IsFileOf bytes old → records ≡ old
  same_records bytes told old is = one_file bytes records old (subst (λ (b : List ℕ). IsFileOf b records) (ready.opened.stands.1 bytes told) ready.opened.stands.2) is

  pub stays_readable : (left : DiskState) → KeepsUnreadable file left
  stays_readable left = readable file left (ready.opened.stands.0, ready.opened.stands.1, (records, ready.opened.stands.2))

  pub kept_left : (bytes : List ℕ) → IsLeftAs kept (both file mid) bytes
  kept_left bytes = record {
    contents = λ old held file_told left_told is known. contents_kept file mid s.log records ready.opened.loaded ready.opened.stands ready.store.belongs bytes file_told old is held left_told;
    any_moment = images_kept file mid ready.any_moment;
    durable = λ modelled file_told old is c image. subst (λ (rs : List Record). IsFileOf c rs) (same_records bytes file_told old is) (ready.durable modelled c image);
    refused = λ file_told refused. stays_readable mid bytes file_told refused.0 refused.1;
    keeps = ready.keeps;
  }

-- ---- a commit

module _ {D : Type 0} (state : D → DiskState) (file : DiskState) (before after : Whole D) (cards : List Card) (ready : IsReady file (state before.disk) before.seen) (store : IsStore (state after.disk) after.seen)
    (file_reads : (held : List ℕ) → IsTrue file.is_model → file.contents ≡ Some held → file.images held)
    (left_reads : (held : List ℕ) → IsTrue (state after.disk).is_model → (state after.disk).contents ≡ Some held → (state after.disk).images held) (bytes : List ℕ) where
  abbrev mid : DiskState
  mid = state before.disk

  abbrev left : DiskState
  left = state after.disk

  abbrev had : List Record
  had = before.seen.log.records

  abbrev more : List Record
  more = map blob_of (taken before.seen cards)

  abbrev Either : List Record → List ℕ → Type 0
  Either old c = IsFileOf c old ⊎ IsFileOf c (old ++ more)

  moments : Commits state before cards after → IsModelled file → (old : List Record) → AreImagesOf old file.images → LeavesOnly file left (Either old)
  moments commits modelled old are =
      let told = told_contents file modelled in
      let same : had ≡ old = same_records file mid before.seen ready told.0 told.1 old (are told.0 (file_reads told.0 modelled.model told.1)) in
      let first = images_kept file mid ready.any_moment modelled old are in
      and_then file mid left (Either old) (weaker file mid (λ c. IsFileOf c old) (Either old) (λ c is. inl is) first)
      (subst (λ (rs : List Record). LeavesOnly mid left (Either rs)) same (commits.any_moment (modelled_after file mid ready.keeps modelled)))

  image : Commits state before cards after → IsModelled file → (old : List Record) → had ≡ old → (c : List ℕ) → left.images c → Either old c
  image commits modelled old same c is =
      subst (λ (rs : List Record). Either rs c) same ((commits.any_moment (modelled_after file mid ready.keeps modelled)).now c is)

  all_committed : IsSettled after.seen.log → committed after.seen.log ≡ after.seen.log.records
  all_committed settled =
      (λ i. take (settled.1 i) after.seen.log.records) ∙ take_all (length after.seen.log.records) after.seen.log.records (omega arith)

  pub takes_left : Took state before cards after → IsLeftAs (takes more) (both file left) bytes
  takes_left took = record {
    contents = λ old held file_told left_told is known.
        let same = same_records file mid before.seen ready bytes file_told old is in
        subst (λ (rs : List Record). IsFileOf held rs) (all_committed took.settled ∙ took.commits.records ∙ ap (λ (rs : List Record). rs ++ more) same)
        (store.belongs.reads took.settled.0 held left_told).0.file;
    any_moment = moments took.commits;
    durable = λ modelled file_told old is c image.
        let same = same_records file mid before.seen ready bytes file_told old is in
        subst (λ (rs : List Record). IsFileOf c rs) (ap (λ (rs : List Record). rs ++ more) same) (took.lasts (modelled_after file mid ready.keeps modelled) c image);
    refused = λ file_told refused. stays_readable file mid before.seen ready left bytes file_told refused.0 refused.1;
    keeps = keeps_on file mid left ready.keeps took.commits.keeps;
  }

  pub took_faults : Took state before cards after → left.faults ≡ file.faults
  took_faults took = took.faults ∙ ready.opened.faults

  pub lost_faults : Lost state before cards after → Rose file.faults left.faults
  lost_faults lost = subst (λ (n : ℕ). Rose n left.faults) ready.opened.faults lost.rose

  pub cut_left : Lost state before cards after → IsLeftAs (cut more) (both file left) bytes
  cut_left lost = record {
    contents = λ old held file_told left_told is known.
        let keeps = keeps_on file mid left ready.keeps lost.commits.keeps in
        let model = known (lost_faults lost) in
        let modelled : IsModelled file = record { tells = ap is_some file_told; model = model } in
        image lost.commits modelled old (same_records file mid before.seen ready bytes file_told old is) held (left_reads held (keeps.model ∙ model) left_told);
    any_moment = moments lost.commits;
    durable = λ modelled file_told old is c at. image lost.commits modelled old (same_records file mid before.seen ready bytes file_told old is) c at;
    refused = λ file_told refused. stays_readable file mid before.seen ready left bytes file_told refused.0 refused.1;
    keeps = keeps_on file mid left ready.keeps lost.commits.keeps;
  }

-- ---- a file that wasn't opened

cut_contents : (file left : DiskState) → IsCutAtMost file left → KeepsContents file left
cut_contents file left h = by h.contents
  where
    by : (left.contents ≡ file.contents) ⊎ ((records : List Record) × (place : ℕ) × OfBytes file (λ bytes. IsFileOf bytes records)
        × Told file (λ held. left.contents ≡ Some (take (place + 1) held)) × Told left (λ held. IsFileOf held records)) → KeepsContents file left
    by (inl same) = same_contents file left same
    by (inr off) = λ bytes told old are held left_told.
        let same : off.0 ≡ old = one_file bytes off.0 old (subst (λ (b : List ℕ). IsFileOf b off.0) (off.2.1 bytes told) off.2.2) are in
        subst (λ (rs : List Record). IsFileOf held rs) same (off.4 held left_told)

-- what a failed opening tells of the contents
contents_by : (file left : DiskState) (fault : UvLoadFault) → OpenFailed fault file left → IsSpared file left → (Rose file.faults left.faults → IsModelled file) → KeepsContents file left
contents_by file left load_fault.Disk failed spared known = spared_contents file left spared (known failed)
contents_by file left (load_fault.NotRepository at) failed spared known = same_contents file left failed.0.contents
contents_by file left (load_fault.NotEntry name) failed spared known = cut_contents file left failed.0
contents_by file left load_fault.Memory failed spared known = cut_contents file left failed

module _ (file left : DiskState) (fault : UvLoadFault) (failed : OpenFailed fault file left) (spared : IsSpared file left) (between : KeepsBetween file left) (unreadable : KeepsUnreadable file left)
    (harmless : IsModelled file → LeavesOnly file left (HeldOrSame file)) (keeps : Keeps file left) (bytes : List ℕ) where
  contents : (old : List Record) (held : List ℕ) → file.contents ≡ Some bytes → left.contents ≡ Some held → IsFileOf bytes old → (Rose file.faults left.faults → IsTrue file.is_model) → IsFileOf held old
  contents old held file_told left_told is known =
      contents_by file left fault failed spared (λ rose. record { tells = ap is_some file_told; model = known rose }) bytes file_told old is held left_told

  -- a crash leaves what it might have left before, or the same records
  held_or : file.contents ≡ Some bytes → (old : List Record) → IsFileOf bytes old → (c : List ℕ) → HeldOrSame file c → file.images c ⊎ IsFileOf c old
  held_or told old is c (inl before) = inl before
  held_or told old is c (inr (records, of, stands)) =
      inr (subst (λ (rs : List Record). IsFileOf c rs) (one_file bytes records old (subst (λ (b : List ℕ). IsFileOf b records) (of.1 bytes told) of.2) is) stands)

  pub aside_left : IsLeftAs aside (both file left) bytes
  aside_left = record {
    contents = contents;
    any_moment = images_kept file left between;
    durable = λ modelled file_told old is c image. held_or file_told old is c ((harmless modelled).now c image);
    refused = λ file_told refused. unreadable bytes file_told refused.0 refused.1;
    keeps = keeps;
  }

  -- a file with a Blob that is no entry
  pub no_entry_left : (name : List ℕ) → fault ≡ load_fault.NotEntry name → IsLeftAs kept (both file left) bytes
  no_entry_left name why =
      let is = subst (λ (f : UvLoadFault). OpenFailed f file left) why failed in
      record {
        contents = contents;
        any_moment = images_kept file left between;
        durable = λ modelled file_told old stands c image.
            subst (λ (rs : List Record). IsFileOf c rs) (one_file bytes is.1 old (subst (λ (b : List ℕ). IsFileOf b is.1) (is.2.1 bytes file_told) is.2.2) stands) (is.4 modelled c image);
        refused = λ file_told refused. unreadable bytes file_told refused.0 refused.1;
        keeps = keeps;
      }
