-- What `ingest` prints, by its input.
use Rattle.std.specs.Prelude.{◌≡◌, ℕ, ◌⊎◌, true, nat_lt, List, [], ◌++◌, length, flat_map, codes, None, Result, Ok, Err, MatchBool}
use Rattle.fsl_text.specs.Limits.{most_of_message}
use Rattle.fsl_blobs.specs.Fold.{Contents}
use Rattle.fsl_cross.specs.declared.Item.{Item}
use Rattle.fsl_repo.specs.Machine.{State, now, AreItems, unclustered_names, wants}
use Rattle.fsl_repo.specs.Whole.{opened}
use Rattle.fossil.specs.declared.reading.message.MessageFile.{MessageFile}
use Rattle.fossil.specs.Printed.{Printed, too_long, name_line}
use Rattle.fossil.specs.Messages.{IsMessageRefused, IsFileList}
use Rattle.fossil.specs.Arrivals.{Taken, none_taken, Arrive}

-- a set without artifacts
abbrev pub fresh : State
fresh = opened [] 0 true

-- the lines of a set: the unclustered names and the wanted ones, ascending
abbrev pub report : Contents → List Item → List ℕ
report c items = flat_map (name_line (codes "unclustered")) (unclustered_names items) ++ flat_map (name_line (codes "wanted")) (wants c items)

-- the set that files leave is printed
abbrev pub IsSetPrinted : State → Printed → Type 0
IsSetPrinted s printed = (items : List Item) × AreItems (now s).held items × (printed ≡ record { status = 0; text = report (now s) items })

-- what files come to: their set, or the refusal
abbrev pub IsPrintedBy : Result Taken Printed → Printed → Type 0
IsPrintedBy (Ok t) printed = IsSetPrinted t.state printed
IsPrintedBy (Err refusal) printed = printed ≡ refusal

-- the files arrive in a set of their own, without receipts
abbrev pub IsReported : List MessageFile → Printed → Type 0
IsReported files printed = (result : Result Taken Printed) × Arrive None (none_taken fresh) files result × IsPrintedBy result printed

-- a message is refused, or its files are reported
abbrev pub IsRead : List ℕ → Printed → Type 0
IsRead input printed = IsMessageRefused input printed ⊎ ((files : List MessageFile) × IsFileList input files × IsReported files printed)

-- what `ingest` prints: the length of the input first, and then what its message comes to
abbrev pub IsIngested : List ℕ → Printed → Type 0
IsIngested input printed = MatchBool (nat_lt most_of_message (length input)) (printed ≡ too_long) (IsRead input printed)
