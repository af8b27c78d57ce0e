-- What a file stands for behind any number of runs, each of which may have been stopped at any moment.
use Rattle.std.specs.Prelude.{◌≡◌, ◌⊎◌, ℕ, ◌≤◌, Bool, true, false, List, [], ◌∷◌, length, IsTrue}
use Rattle.fsl_disk.specs.Disk.{DiskState, Told, Only}
use Rattle.fsl_record.specs.declared.Record.{Record}
use Rattle.fsl_journal.specs.File.{IsFileOf}
use Rattle.fsl_journal.specs.Log.{IsNoFile}
use Rattle.fossil.specs.Run.{StandsFor, after_commits}

-- each image stands for these records; or there are none, and a crash leaves nothing but one content, empty or not, that is no repository
abbrev pub IsSettled : List Record → (List ℕ → Type 0) → Type 0
IsSettled records images =
    ((c : List ℕ) → images c → IsFileOf c records) ⊎ ((records ≡ []) × (held : List ℕ) × Only held images × IsNoFile held)

-- what is known of a disk that is to stand for these records: it is settled with them; or, behind a process that was killed, it reads as something that stands
-- for them, and what a crash would leave is open
abbrev pub Stands : Bool → List Record → DiskState → Type 0
Stands false records disk = IsSettled records disk.images
Stands true records disk = Told disk (λ held. StandsFor records held)

-- what a run came to: the records that it was to append, a list for each commit, and whether somebody knows that it was done
pub record Step : Type 0 where
  pub commits : List (List Record)
  pub sure : Bool

-- these are the old records followed by, for each run in order, none, some or all of its commits, whole and in order; all of those of a run of which somebody
-- knows that it was done
abbrev pub IsBehind : List Record → List Step → List Record → Type 0
IsBehind old [] records = records ≡ old
IsBehind old (step ∷ later) records =
    (n : ℕ) × (n ≤ length step.commits) × (IsTrue step.sure → n ≡ length step.commits) × IsBehind (after_commits old step.commits n) later records
