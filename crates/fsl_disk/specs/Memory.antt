-- What clauses see of a disk in memory.
use Rattle.std.specs.Prelude.{◌≡◌, ℕ, List, [], ◌∷◌, length, true, Option, None, Some, refl}
use Rattle.std.proofs.Common.{inl, inr, ap, subst}
use Rattle.std.proofs.Math.Nat.{not-suc-le_self}
use Rattle.fsl_disk.specs.Disk.{DiskState}
use Rattle.fsl_disk.specs.Change.{reads, Leaves, LeftSince}
use Rattle.fsl_disk.specs.declared.change.Change.{Change}
use Rattle.fsl_disk.specs.declared.change.Change.TheVariants.{Write, Cut, Sync}

-- The bytes that it began with and its changes since, the newest first; the numbers of the calls that are to fail, counted
-- from 1; the number of its calls, and of those that failed, each up to the last value of u64.
pub record InMemory : Type 0 where
  pub first : List ℕ
  pub past : List Change
  pub fails : List ℕ
  pub made : ℕ
  pub faults : ℕ

-- what a read gives
abbrev pub held : InMemory → List ℕ
held disk = reads disk.first disk.past

abbrev pub memory_state : InMemory → DiskState
memory_state disk = record {
  contents = Some (held disk);
  is_model = true;
  images = Leaves disk.first disk.past;
  moment = length disk.past;
  since = LeftSince disk.first disk.past;
  faults = disk.faults;
}

-- what a read gives is one of the images
pub reads_left : (first : List ℕ) (past : List Change) → Leaves first past (reads first past)
reads_left first [] = refl
reads_left first (Write at bytes range ∷ before) = inl refl
reads_left first (Cut len left ∷ before) = inl refl
reads_left first (Sync ∷ before) = refl

told_bytes : Option (List ℕ) → List ℕ
told_bytes None = []
told_bytes (Some bytes) = bytes

pub memory_reads : (first : List ℕ) (past : List Change) (bytes : List ℕ) → Some (reads first past) ≡ Some bytes → Leaves first past bytes
unfolding told_bytes
memory_reads first past bytes told = subst (Leaves first past) (ap told_bytes told) (reads_left first past)

pub memory_counts : (first : List ℕ) (past : List Change) (t : ℕ) (c : List ℕ) → Leaves first past c → LeftSince first past t c
memory_counts first [] t c now = now
memory_counts first (change ∷ before) t c now = inl now

pub memory_only : (first : List ℕ) (past : List Change) (c : List ℕ) → LeftSince first past (length past) c → Leaves first past c
memory_only first [] c left = left
memory_only first (change ∷ before) c (inl now) = now
memory_only first (change ∷ before) c (inr earlier) = absurd (not-suc-le_self (length before) earlier.0)
