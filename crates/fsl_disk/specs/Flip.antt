-- What clauses see of a disk one byte of which is given wrong.
use Rattle.std.specs.Prelude.{ℕ, ◌+◌, ◌-◌, ◌%◌, ◌^◌, ◌==◌, ◌&&◌, min, nat_le, Bool, if◌then◌else◌, List, length, slice_index, slice_set}
use Rattle.fsl_disk.specs.Disk.{DiskState}
use Rattle.fsl_disk.specs.File.{untold}

-- the disk behind it, the place of the byte, how many more reads of it are given right, and how many calls were refused, up to the last value of u64
pub record Flipped (D : Type 0) : Type 0 where
  pub disk : D
  pub at : ℕ
  pub reads : ℕ
  pub refused : ℕ

-- it tells nothing, and its faults are those of the disk and the calls that it refused
abbrev pub flipped : ℕ → DiskState → DiskState
flipped refused disk = untold (min (disk.faults + refused) (2 ^ 64 - 1))

-- a flip as a clause sees any disk
abbrev pub flip_state : {D : Type 0} → (D → DiskState) → Flipped D → DiskState
flip_state state f = flipped f.refused (state f.disk)

-- a byte with its lowest bit turned
abbrev pub turned : ℕ → ℕ
turned b = if b % 2 == 0 then b + 1 else b - 1

-- a read of so many bytes from one place covers the byte at another
abbrev pub covers : ℕ → ℕ → ℕ → Bool
covers from size at = nat_le from at && nat_le (at + 1) (from + size)

-- what a read from a place gives for these bytes, and how many more are given right after it
abbrev pub given : ℕ → ℕ → ℕ → List ℕ → List ℕ
given at reads from bytes = if covers from (length bytes) at && reads == 0 then slice_set bytes (at - from) (turned (slice_index bytes (at - from))) else bytes

abbrev pub reads_after : ℕ → ℕ → ℕ → ℕ → ℕ
reads_after at reads from size = if covers from size at then reads - 1 else reads
