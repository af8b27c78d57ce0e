-- What `put` prints and appends, by its input and the records of the file.
use Rattle.std.specs.Prelude.{◌≡◌, ℕ, ◌⊎◌, true, nat_lt, List, [], length, drop, Some, Result, Ok, Err, MatchBool}
use Rattle.fsl_text.specs.Limits.{most_of_message}
use Rattle.fsl_record.specs.Receipts.{Brought}
use Rattle.fsl_record.specs.declared.Record.{Record}
use Rattle.fsl_repo.specs.Whole.{opened}
use Rattle.fossil.specs.declared.reading.message.MessageFile.{MessageFile}
use Rattle.fossil.specs.Printed.{Printed}
use Rattle.fossil.specs.Printed as printing
use Rattle.fossil.specs.Messages.{IsMessageRefused, IsFileList}
use Rattle.fossil.specs.Arrivals.{Taken, none_taken, Arrive}

-- what is printed: a line for each file, or the refusal
abbrev pub printed_by : Result Taken Printed → Printed
printed_by (Ok t) = record { status = 0; text = t.text }
printed_by (Err refusal) = refusal

-- what is appended to the old records: what all arrivals append, or nothing
abbrev pub appended_by : List Record → Result Taken Printed → List Record
appended_by old (Ok t) = drop (length old) t.state.records
appended_by old (Err refusal) = []

-- the receipt of what is put: no login, and the moment that the clock answered
abbrev pub put_receipt : ℕ → Brought
put_receipt moment = record { login = []; moment = moment }

-- the files arrive behind the old records, each with this receipt
abbrev pub IsPutFiles : List MessageFile → ℕ → List Record → Printed → List Record → Type 0
IsPutFiles files moment old printed appended =
    (result : Result Taken Printed) × Arrive (Some (put_receipt moment)) (none_taken (opened old 0 true)) files result
    × (printed ≡ printed_by result) × (appended ≡ appended_by old result)

-- a message is refused, and nothing is taken of it; or its files arrive
abbrev pub IsPutRead : List ℕ → ℕ → List Record → Printed → List Record → Type 0
IsPutRead input moment old printed appended =
    (IsMessageRefused input printed × (appended ≡ []))
    ⊎ ((files : List MessageFile) × IsFileList input files × IsPutFiles files moment old printed appended)

-- the length of the input first, and then what its message comes to
abbrev pub IsPut : List ℕ → ℕ → List Record → Printed → List Record → Type 0
IsPut input moment old printed appended =
    MatchBool (nat_lt most_of_message (length input)) ((printed ≡ printing.too_long) × (appended ≡ [])) (IsPutRead input moment old printed appended)
