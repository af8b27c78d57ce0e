-- What the images of a repository's file are while a sync runs, by the commits of its rounds.
use Rattle.std.specs.Prelude.{◌≡◌, ℕ, List, ◌++◌, flat_map}
use Rattle.fsl_disk.specs.Disk.{DiskState, IsModelled, LeavesOnly}
use Rattle.fsl_record.specs.declared.Record.{Record}
use Rattle.fsl_journal.specs.File.{IsFileOf}

-- the records of some commits
abbrev pub all_of_them : List (List Record) → List Record
all_of_them commits = flat_map (λ c. c) commits

-- the bytes stand for the records that were there and those of some first commits
abbrev pub StandsForSome : List Record → List (List Record) → List ℕ → Type 0
StandsForSome base commits bytes = (done left : List (List Record)) × (commits ≡ done ++ left) × IsFileOf bytes (base ++ all_of_them done)

-- where each image stood for the records that were there, then at each moment since each stands for these and some first commits
abbrev pub IsKeptAtAnyMoment : List Record → DiskState → DiskState → List (List Record) → Type 0
IsKeptAtAnyMoment base before after commits =
    IsModelled before → ((c : List ℕ) → before.images c → IsFileOf c base) → LeavesOnly before after (StandsForSome base commits)
