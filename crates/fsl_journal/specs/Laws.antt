-- Laws of files.
use Rattle.std.specs.Prelude.{◌≡◌, ◌⊎◌, ℕ, List}
use Rattle.fsl_record.specs.declared.Record.{Record}
use Rattle.fsl_journal.specs.File.{IsFileOf, FailsAt}

-- bytes stand for one list of records at most
abbrev pub IsOneFile : Type 0
IsOneFile = (bytes : List ℕ) (one other : List Record) → IsFileOf bytes one → IsFileOf bytes other → one ≡ other

-- bytes fail to be a file at one place at most
abbrev pub FailsOnce : Type 0
FailsOnce = (bytes : List ℕ) (one other : ℕ) → FailsAt bytes one → FailsAt bytes other → one ≡ other

-- bytes that fail to be a file stand for no records
abbrev pub IsNoFileThere : Type 0
IsNoFileThere = (bytes : List ℕ) (at : ℕ) (records : List Record) → FailsAt bytes at → ¬ (IsFileOf bytes records)

-- bytes fail to be a file at some place, or stand for some records
abbrev pub IsSomeFile : Type 0
IsSomeFile = (bytes : List ℕ) → ((at : ℕ) × FailsAt bytes at) ⊎ ((records : List Record) × IsFileOf bytes records)
