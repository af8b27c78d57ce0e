-- What the parts of a serve say of what they did.
use Rattle.std.specs.Prelude.{◌≡◌, ◌<◌, ◌≤◌, ◌⊎◌, ℕ, List, length, slice_index_or, Some, None}
use Rattle.fsl_serve.specs.declared.work.Work.{Work}
use Rattle.fsl_login.specs.UserFiles.{IsFirstBadLine}
use Rattle.fossil.specs.Due.{Due, printed}
use Rattle.fossil.specs.Printed.{Printed, no_memory}
use Rattle.fossil.specs.Printed as printing
use Rattle.fossil.specs.Run.{Output, IsWritten}
use Rattle.fossil.specs.Served.{bad_users, serving_in}

-- bytes that aren't a users file, for the line that is bad; or there was no memory
abbrev pub IsNoUserFile : List ℕ → Due → Type 0
IsNoUserFile bytes d = ((n : ℕ) × IsFirstBadLine bytes n × (printed d ≡ bad_users n)) ⊎ (printed d ≡ no_memory)

-- why words are no serve: they are none, or there was no memory to read them
abbrev pub IsUnasked : List (List ℕ) → Due → Type 0
IsUnasked words d = ((serving_in words ≡ None) × (printed d ≡ printing.usage)) ⊎ (printed d ≡ no_memory)

-- words are a serve with so many connections for each worker
abbrev pub IsAsked : List (List ℕ) → ℕ → Type 0
IsAsked words requests = (workers : ℕ) × (serving_in words ≡ Some (record { workers = workers; requests = requests }))

-- what workers did that serve at most so many connections each
abbrev pub AreWithin : ℕ → List Work → Type 0
AreWithin requests works = (i : ℕ) (w : Work) → i < length works → (slice_index_or works i w).sessions ≤ requests

-- the text of an outcome is written, or want of memory in its place
abbrev pub IsSaidOf : Printed → Output → ℕ → Type 0
IsSaidOf o out status = IsWritten o out status ⊎ IsWritten no_memory out status
