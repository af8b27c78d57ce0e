-- What is left of a disk in memory, behind a fuse, where something ends a step.
use Rattle.std.specs.Prelude.{◌≡◌, ℕ, List, Some}
use Rattle.fsl_disk.specs.Disk.{DiskState, IsModelled, Only}
use Rattle.fsl_disk.specs.Fuse.{Fused, fused}
use Rattle.fsl_disk.specs.Memory.{InMemory, memory_state}

abbrev pub state_of : Fused InMemory → DiskState
state_of disk = fused disk.blown (memory_state disk.disk)

-- a disk of its kind, of which a crash leaves nothing but what one at each earlier moment, or since, might have left
pub record IsCrashOf (ended left : DiskState) : Type 0 where
  pub modelled : IsModelled ended → IsModelled left
  pub images : (t : ℕ) (c : List ℕ) → left.images c → ended.since t c

-- a disk of its kind with one of these contents, which a crash of it leaves alone
pub record IsImageOf (ended left : DiskState) : Type 0 where
  pub modelled : IsModelled ended → IsModelled left
  pub image : (t : ℕ) → (held : List ℕ) × ended.since t held × Only held left.images

-- a disk of its kind that reads as one of these contents, and of which a crash leaves nothing but such
pub record IsKeptOf (ended left : DiskState) : Type 0 where
  pub modelled : IsModelled ended → IsModelled left
  pub kept : (t : ℕ) → (held : List ℕ) × ended.since t held × (left.contents ≡ Some held) × ((c : List ℕ) → left.images c → ended.since t c)
