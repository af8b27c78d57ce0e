-- What `unshun` prints and appends, by its name and the records of the file.
use Rattle.std.specs.Prelude.{◌≡◌, ℕ, nat_lt, List, [], ◌∷◌, length, codes, MatchBool}
use Rattle.std.specs.FinSet as set
use Rattle.fsl_text.specs.Limits.{most_names}
use Rattle.fsl_record.specs.declared.Record.{Record}
use Rattle.fsl_record.specs.declared.Record.TheVariants as record_of
use Rattle.fsl_blobs.specs.Fold.{Contents, after}
use Rattle.fsl_cross.specs.declared.Item.{Item}
use Rattle.fsl_repo.specs.Machine.{AreItems, wants}
use Rattle.fsl_repo.specs.declared.Unshunning.{Unshunning}
use Rattle.fsl_repo.specs.declared.Unshunning.TheVariants as became
use Rattle.fossil.specs.Printed.{Printed, name_line, full}

-- so many names are wanted once the name is off the list of the shunned ones
abbrev pub wanted_without : List ℕ → Contents → List Item → ℕ
wanted_without name c items = length (wants (after c (record_of.Unshun name)) items)

-- a name that isn't shunned appends nothing; a shunned one gets an Unshun record, and is refused where too many names would be wanted then
abbrev pub IsUnshun : List ℕ → Contents → Printed → List Record → Type 0
IsUnshun name c printed appended =
    MatchBool (set.contains c.shunned name)
    ((items : List Item) × AreItems c.held items
    × MatchBool (nat_lt most_names (wanted_without name c items)) ((printed ≡ full name) × (appended ≡ []))
    ((printed ≡ record { status = 0; text = name_line (codes "unshunned") name }) × (appended ≡ record_of.Unshun name ∷ [])))
    ((printed ≡ record { status = 0; text = name_line (codes "not shunned") name }) × (appended ≡ []))

-- the word for what became of a name that was to be taken off the list
abbrev pub word_of : Unshunning → List ℕ
word_of became.NotShunned = codes "not shunned"
word_of became.Unshunned = codes "unshunned"
