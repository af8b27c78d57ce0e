-- What clauses see of a disk behind a fuse.
use Rattle.std.specs.Prelude.{◌≡◌, ◌<◌, ℕ, ◌+◌, ◌-◌, ◌^◌, min, Result, IsErr}
use Rattle.fsl_order.specs.Causes.{HasCause}
use Rattle.fsl_disk.specs.Disk.{DiskState}

-- the disk, how many calls the fuse still passes, and how many it has failed, up to the last value of u64
pub record Fused (D : Type 0) : Type 0 where
  pub disk : D
  pub calls : ℕ
  pub blown : ℕ

-- the state of the disk, with the calls that the fuse failed among the faults
abbrev pub fused : ℕ → DiskState → DiskState
fused blown disk = record {
  contents = disk.contents;
  is_model = disk.is_model;
  images = disk.images;
  moment = disk.moment;
  since = disk.since;
  faults = min (disk.faults + blown) (2 ^ 64 - 1);
}

-- One call: a fuse that is blown fails it and leaves the disk; another passes it, and then only the disk fails.
pub record Burns {D T E : Type 0} (faults : D → ℕ) (old new : Fused D) (result : Result T E) : Type 0 where
  pub calls : new.calls ≡ old.calls - 1
  pub stopped : old.calls ≡ 0 → IsErr result
  pub left : old.calls ≡ 0 → new.disk ≡ old.disk
  pub passed : 0 < old.calls → HasCause (faults old.disk) (faults new.disk) result
