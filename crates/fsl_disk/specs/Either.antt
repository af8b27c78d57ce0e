-- What clauses see of one of two disks.
use Rattle.std.specs.Prelude.{◌≡◌, ◌≤◌, ℕ, List, Some, IsTrue}
use Rattle.fsl_disk.specs.Disk.{DiskState}
use Rattle.fsl_disk.specs.declared.either.EitherDisk.{EitherDisk}
use Rattle.fsl_disk.specs.declared.either.EitherDisk.TheVariants.{One, Other}

-- the state of the one that is there
unfoldable pub either_state : {A B : Type 0} → (A → DiskState) → (B → DiskState) → EitherDisk A B → DiskState
either_state one other (One a) = one a
either_state one other (Other b) = other b

-- what a read gives is one of the images
abbrev pub Reads : {D : Type 0} → (D → DiskState) → Type 0
Reads {D} state = (disk : D) (held : List ℕ) → IsTrue (state disk).is_model → (state disk).contents ≡ Some held → (state disk).images held

pub either_reads : {A B : Type 0} (one : A → DiskState) (other : B → DiskState) → Reads one → Reads other → Reads (either_state one other)
unfolding either_state
either_reads one other p q (One a) = p a
either_reads one other p q (Other b) = q b

-- this moment is one of those since an earlier one
abbrev pub Counts : {D : Type 0} → (D → DiskState) → Type 0
Counts {D} state = (disk : D) (t : ℕ) (c : List ℕ) → IsTrue (state disk).is_model → t ≤ (state disk).moment → (state disk).images c → (state disk).since t c

pub either_counts : {A B : Type 0} (one : A → DiskState) (other : B → DiskState) → Counts one → Counts other → Counts (either_state one other)
unfolding either_state
either_counts one other p q (One a) = p a
either_counts one other p q (Other b) = q b

-- since this moment there is no other
abbrev pub OnlyNow : {D : Type 0} → (D → DiskState) → Type 0
OnlyNow {D} state = (disk : D) (c : List ℕ) → IsTrue (state disk).is_model → (state disk).since (state disk).moment c → (state disk).images c

pub either_only : {A B : Type 0} (one : A → DiskState) (other : B → DiskState) → OnlyNow one → OnlyNow other → OnlyNow (either_state one other)
unfolding either_state
either_only one other p q (One a) = p a
either_only one other p q (Other b) = q b
