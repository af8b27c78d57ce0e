-- Openings of a journal, one after the other: what each answered, by the disk as it stood then.
use Rattle.std.specs.Prelude.{◌≡◌, ℕ, List, [], ◌∷◌, length, Result, Ok, Err}
use Rattle.fsl_disk.specs.Disk.{DiskState, IsModelled, Keeps, Told}
use Rattle.fsl_record.specs.declared.Record.{Record}
use Rattle.fsl_journal.specs.File.{IsFileOf}
use Rattle.fsl_journal.specs.Journal.{OfBytes, LoadFailed}
use Rattle.fsl_journal.specs.declared.LoadFault.{LoadFault}
use Rattle.laws_openings.specs.declared.reopening.Opening.{Opening}
use Rattle.laws_openings.specs.Chain.{IsLeftBy}

-- the bytes that were read stand for so many records, and so do those that the disk then tells; no call failed, and a crash then leaves nothing but files of
-- just these
pub record HasLoaded (count : ℕ) (before after : DiskState) : Type 0 where
  pub records : List Record
  pub counted : count ≡ length records
  pub stands : OfBytes before (λ bytes. IsFileOf bytes records)
  pub contents : Told after (λ held. IsFileOf held records)
  pub faults : after.faults ≡ before.faults
  pub durable : IsModelled before → (c : List ℕ) → after.images c → IsFileOf c records

-- what an opening answers is so of the disk: how many records it stands for, or why it wasn't opened
abbrev pub IsAnsweredAs : DiskState → DiskState → Result ℕ LoadFault → Type 0
IsAnsweredAs before after (Ok count) = HasLoaded count before after
IsAnsweredAs before after (Err fault) = LoadFailed fault before after

-- an opening of such a disk, ended so. It changes neither whether the disk tells its contents nor whether it meets the disk model
pub record IsOpeningOf {D : Type 0} (state : D → DiskState) (first : D) (o : Opening D) (left : D) : Type 0 where
  pub began : o.began.value ≡ first
  pub keeps : Keeps (state o.began.value) (state o.ended.value)
  pub answer : IsAnsweredAs (state o.began.value) (state o.ended.value) o.answer
  pub crash : IsLeftBy (state o.began.value) (state o.ended.value) (state left)

-- openings one after the other, of the first disk, and each other of what the end of the one before it left
abbrev pub AreOpenings : {D : Type 0} → (D → DiskState) → D → List (Opening D) → D → Type 0
AreOpenings state first [] last = last ≡ first
AreOpenings {D} state first (o ∷ later) last = (left : D) × IsOpeningOf state first o left × AreOpenings state left later last
