-- What clauses see of a disk over a real file: whether there is one, and the faults.
use Rattle.std.specs.Prelude.{◌≡◌, ℕ, Bool, false, None, IsErr, Result}
use Rattle.fsl_disk.specs.Disk.{DiskState}

-- a disk that tells nothing, and of which nothing is promised
abbrev pub untold : ℕ → DiskState
untold faults = record {
  contents = None;
  is_model = false;
  images = λ c. Unit {0};
  moment = 0;
  since = λ t c. Unit {0};
  faults = faults;
}

-- whether there is a file, and how many calls failed, up to the last value of u64
pub record OverFile : Type 0 where
  pub is_open : Bool
  pub faults : ℕ

-- Over no file each call fails, and no call opens or closes one.
pub record Serves {T E : Type 0} (old new : OverFile) (result : Result T E) : Type 0 where
  pub closed : old.is_open ≡ false → IsErr result
  pub stays : new.is_open ≡ old.is_open
