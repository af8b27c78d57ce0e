-- How files arrive one after another, in a repository or in a set of their own.
use Rattle.std.specs.Prelude.{◌≡◌, ℕ, List, [], ◌∷◌, ◌++◌, codes, Option, Some, None, Result, Ok, Err, MatchOption}
use Rattle.fsl_record.specs.Receipts.{Brought}
use Rattle.fsl_repo.specs.declared.Arrival.{Arrival}
use Rattle.fsl_repo.specs.declared.Arrival.TheVariants as arrival
use Rattle.fsl_repo.specs.declared.ArriveFault.{ArriveFault}
use Rattle.fsl_repo.specs.declared.ArriveFault.TheVariants as arrive_fault
use Rattle.fsl_repo.specs.Machine.{State, IsArrival, arrived}
use Rattle.fossil.specs.declared.reading.message.MessageFile.{MessageFile}
use Rattle.fossil.specs.Printed.{Printed, too_large, wrong, full, name_line}

-- what files leave that were taken: the state, and a line for each
pub record Taken : Type 0 where
  pub state : State
  pub text : List ℕ

-- before the first file
abbrev pub none_taken : State → Taken
none_taken s = record { state = s; text = [] }

-- the word for what became of a file
abbrev pub arrival_word : Arrival → List ℕ
arrival_word arrival.Shunned = codes "shunned"
arrival_word arrival.Present = codes "present"
arrival_word arrival.Published = codes "published"
arrival_word arrival.Stored = codes "stored"

-- the line of a file that is taken
abbrev pub arrival_line : List ℕ → Result Arrival ArriveFault → List ℕ
arrival_line name (Ok a) = name_line (arrival_word a) name
arrival_line name (Err fault) = []

-- what the answer of a file's arrival refuses
abbrev pub refusal_of : List ℕ → Result Arrival ArriveFault → Option Printed
refusal_of name (Err (arrive_fault.TooLarge size)) = Some (too_large name size)
refusal_of name (Err (arrive_fault.NameWrong found)) = Some (wrong (name, found))
refusal_of name (Err (arrive_fault.Full bytes count wants)) = Some (full name)
refusal_of name _ = None

-- what was taken, and one file more, by the answer of its arrival; it is stored with this receipt, or without one
abbrev pub and_taken : Option Brought → Taken → MessageFile → Result Arrival ArriveFault → Taken
and_taken receipt t f answer =
    record { state = arrived t.state f.name receipt f.bytes f.private answer; text = t.text ++ arrival_line f.name answer }

-- the files arrive one after another: the first that is refused refuses all, and without one all are taken
abbrev pub Arrive : Option Brought → Taken → List MessageFile → Result Taken Printed → Type 0
Arrive receipt t [] result = result ≡ Ok t
Arrive receipt t (f ∷ files) result =
    (answer : Result Arrival ArriveFault) × IsArrival t.state f.name f.bytes f.private answer
    × MatchOption (refusal_of f.name answer) (Arrive receipt (and_taken receipt t f answer) files result) (λ refusal. result ≡ Err refusal)
