-- What a file stands for after a repository was opened over it, or wasn't.
use Rattle.std.proofs.Common.{◌≡◌, ◌⊎◌, inl, inr, ◌≢◌, ℕ, ◌+◌, List, take, Some, refl, ap, subst}
use Rattle.fsl_record.specs.declared.Record.{Record}
use Rattle.fsl_disk.specs.Disk.{DiskState, Told, Keeps}
use Rattle.fsl_journal.specs.File.{IsFileOf}
use Rattle.fsl_journal.specs.Journal.{OfBytes, IsSpared}
use Rattle.fsl_journal.specs.declared.LoadFault.{LoadFault}
use Rattle.fsl_journal.specs.declared.LoadFault.TheVariants as load_fault
use Rattle.fsl_journal.proofs.Unique.{one_file}
use Rattle.fsl_repo.specs.Whole.{Whole, log_of, IsWholeOn}
use Rattle.fsl_repo.specs.Opening as opening
use Rattle.fsl_repo.specs.declared.Opened.{Opened}
use Rattle.fsl_blobs.specs.Seen.{Seen}
use Rattle.fossil.specs.Acts.{loaded_file, loaded_of, KeepsContents, KeepsUnreadable, IsOpened, IsNotLoaded, IsUnopened}
use Rattle.fossil.proofs.LoadLemmas.{KeepsBetween, opened, images_kept, same_contents, spared_contents}

pub repo_opened : {D : Type 0} (file left : DiskState) (r : Whole D) → opening.IsOpened file left r → IsWholeOn left r → KeepsBetween file left → Keeps file left → IsOpened file left (loaded_of r)
repo_opened file left r is whole between keeps =
    opened file left (log_of r) r.seen.state.records
    (record { records = refl; stable = ap (λ s. s.committed) is.state; runs = ap (λ s. s.stopped) is.state; fit = whole.seen.records })
    is.stands whole.belongs (loaded_of r) refl refl refl between keeps is.faults

-- ---- a file over which none was opened

-- it was left as it was, or was cut where it is closed
abbrev CutAtMost : DiskState → DiskState → Type 0
CutAtMost file left = (left.contents ≡ file.contents) ⊎ ((records : List Record) × (place : ℕ) × OfBytes file (λ bytes. IsFileOf bytes records)
    × Told file (λ held. left.contents ≡ Some (take (place + 1) held)) × Told left (λ held. IsFileOf held records))

cut_contents : (file left : DiskState) → CutAtMost file left → KeepsContents file left
cut_contents file left (inl same) = same_contents file left same
cut_contents file left (inr cut) = λ bytes told old are held left_told.
    let same : cut.0 ≡ old = one_file bytes cut.0 old (subst (λ (b : List ℕ). IsFileOf b cut.0) (cut.2.1 bytes told) cut.2.2) are in
    subst (λ (rs : List Record). IsFileOf held rs) same (cut.4 held left_told)

why : (file left : DiskState) (fault : LoadFault) → opening.OpenFailed fault file left → IsNotLoaded fault file left × (fault ≢ load_fault.Disk → KeepsContents file left)
why file left load_fault.Disk failed = (failed, λ other. absurd (other refl))
why file left (load_fault.NotRepository at) failed = (failed.2, λ other. same_contents file left failed.0.contents)
why file left load_fault.Memory failed = (tt, λ other. cut_contents file left failed.contents)

-- no call of its disk failed, but for that with which the opening ended
counts : (file left : DiskState) (fault : LoadFault) → opening.OpenFailed fault file left → (fault ≡ load_fault.Disk → ⊥) → left.faults ≡ file.faults
counts file left load_fault.Disk failed other = absurd (other refl)
counts file left (load_fault.NotRepository at) failed other = failed.0.faults
counts file left load_fault.Memory failed other = failed.faults

pub repo_unopened : (file left : DiskState) (fault : LoadFault) → opening.OpenFailed fault file left → IsSpared file left → KeepsUnreadable file left → KeepsBetween file left → Keeps file left → IsUnopened file left fault
repo_unopened file left fault failed spared unreadable between keeps =
    let is = why file left fault failed in
    record { cause = is.0; contents = is.1; faults = counts file left fault failed; modelled = spared_contents file left spared; unreadable = unreadable; any_moment = images_kept file left between; keeps = keeps }

-- ---- a file that was opened without tables, or wasn't

pub file_opened : (file left : DiskState) (f : Opened) → opening.IsFileOpened file left f.journal f.blobs → opening.SparesFile file left → IsOpened file left (loaded_file f)
file_opened file left f is spares =
    opened file left f.journal f.blobs.records is.loaded is.stands is.belongs (loaded_file f) refl refl (ap (λ (b : Seen). b.starts) is.held) spares.any_moment spares.keeps is.faults

pub file_unopened : (file left : DiskState) (fault : LoadFault) → opening.OpenFailed fault file left → opening.SparesFile file left → IsUnopened file left fault
file_unopened file left fault failed spares = repo_unopened file left fault failed spares.spared spares.refused spares.any_moment spares.keeps
