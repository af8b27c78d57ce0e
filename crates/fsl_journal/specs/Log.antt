-- What clauses see of a journal, and of a file that it reads.
use Rattle.std.specs.Prelude.{◌≡◌, ◌⊎◌, ℕ, ◌+◌, Option, None, List, [], ◌++◌, length, take, drop, flat_map}
use Rattle.fsl_disk.specs.Disk.{DiskState, IsModelled}
use Rattle.fsl_record.specs.declared.Record.{Record}
use Rattle.fsl_record.specs.Records.{AreRecords}
use Rattle.fsl_journal.specs.File.{IsFileOf, group_bytes}

-- what a journal holds
pub record Log : Type 0 where
  -- all records, loaded, committed and appended, in order
  pub records : List Record
  -- for each of them the place in the file where its content begins, and 0 where it is no Blob
  pub places : List ℕ
  -- how many of them are committed, from the front
  pub stable : ℕ
  -- the disk's count of faults when a commit failed
  pub stopped : Option ℕ
  -- the byte of the header that tells the version
  pub mark : ℕ
  -- where the closed gate stands in the file
  pub place : ℕ

-- the committed records, and the others
abbrev pub committed : Log → List Record
committed log = take log.stable log.records

abbrev pub uncommitted : Log → List Record
uncommitted log = drop log.stable log.records

-- a journal that was loaded: its records are these, and each is committed
pub record IsLoaded (log : Log) (loaded : List Record) : Type 0 where
  pub records : log.records ≡ loaded
  pub stable : log.stable ≡ length loaded
  pub runs : log.stopped ≡ None
  pub fit : AreRecords loaded

-- the file stands for these records, has this mark, and the closed gate behind their groups stands at this place
pub record IsLog (records : List Record) (mark place : ℕ) (bytes : List ℕ) : Type 0 where
  pub file : IsFileOf bytes records
  pub marked : file.mark ≡ mark
  pub at : place ≡ 15 + length (flat_map group_bytes file.groups)

-- the bytes stand for no records
abbrev pub IsNoFile : List ℕ → Type 0
IsNoFile bytes = (records : List Record) → ¬ (IsFileOf bytes records)

-- the bytes stand for the records that were committed before, or for all
abbrev pub BeforeOrAll : Log → List ℕ → Type 0
BeforeOrAll log bytes = IsFileOf bytes (committed log) ⊎ IsFileOf bytes log.records

-- these records begin with the first list and are a front of the second
pub record IsBetween (low high records : List Record) : Type 0 where
  pub more : (rest : List Record) × (records ≡ low ++ rest)
  pub front : (rest : List Record) × (high ≡ records ++ rest)

-- the bytes stand for such records
abbrev pub StandsBetween : List Record → List Record → List ℕ → Type 0
StandsBetween low high bytes = (records : List Record) × IsFileOf bytes records × IsBetween low high records

-- what is so where each image of a modelled disk is empty
abbrev pub WhereEmpty : DiskState → Type 0 → Type 0
WhereEmpty disk P = IsModelled disk → ((c : List ℕ) → disk.images c → c ≡ []) → P

-- what is so of each two lists between which the records of each image of a modelled disk stand
abbrev pub WhereBetween : DiskState → (List Record → List Record → Type 0) → Type 0
WhereBetween disk P = IsModelled disk → (low high : List Record) → ((c : List ℕ) → disk.images c → StandsBetween low high c) → P low high
