-- What an end leaves of a disk: a power failure, or the end of a process alone.
use Rattle.std.specs.Prelude.{◌≡◌, ℕ, ◌≤◌, List, Some}
use Rattle.fsl_disk.specs.Disk.{DiskState, IsModelled, Only}

-- the disk holds one of the contents that a crash at some moment since the beginning might have left, and a crash of it leaves this alone
abbrev pub IsRebooted : DiskState → DiskState → DiskState → Type 0
IsRebooted began ended left =
    IsModelled ended → began.moment ≤ ended.moment → (held : List ℕ) × ended.since began.moment held × Only held left.images

-- the disk reads as one of these contents, as the files of a process do that was killed at some moment since, within a call too; and a crash of it may leave
-- any of them, since the system goes on and nothing was made stable
abbrev pub IsKilled : DiskState → DiskState → DiskState → Type 0
IsKilled began ended left =
    IsModelled ended → began.moment ≤ ended.moment → (held : List ℕ) × ended.since began.moment held × (left.contents ≡ Some held)
    × ((c : List ℕ) → left.images c → ended.since began.moment c)
