-- What `shun` prints and appends, by its name and the records of the file.
use Rattle.std.specs.Prelude.{ℕ, List, [], ◌∷◌, codes, if◌then◌else◌}
use Rattle.std.specs.FinMap as map_of
use Rattle.std.specs.FinSet as set
use Rattle.fsl_record.specs.declared.Record.{Record}
use Rattle.fsl_record.specs.declared.Record.TheVariants as record_of
use Rattle.fsl_blobs.specs.Fold.{Contents}
use Rattle.fsl_repo.specs.declared.Shunning.{Shunning}
use Rattle.fsl_repo.specs.declared.Shunning.TheVariants as became
use Rattle.fossil.specs.Printed.{name_line}

-- what is printed, and what is appended
pub record TextAndRecords : Type 0 where
  pub text : List ℕ
  pub records : List Record

-- a name that is shunned appends nothing; each other name gets a Shun record, which takes its artifact out where it is held
abbrev pub shunning : Contents → List ℕ → TextAndRecords
shunning c name =
    if set.contains c.shunned name then record { text = name_line (codes "already") name; records = [] }
    else if map_of.contains_key c.held name then record { text = name_line (codes "removed") name; records = record_of.Shun name ∷ [] }
    else record { text = name_line (codes "listed") name; records = record_of.Shun name ∷ [] }

-- the word for what became of a name that was shunned
abbrev pub word_of : Shunning → List ℕ
word_of became.Already = codes "already"
word_of became.Removed = codes "removed"
word_of became.Listed = codes "listed"
