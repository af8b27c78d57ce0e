-- What clauses see of a source and a disk that tell how far they are, at most once a second.
use Rattle.std.specs.Prelude.{◌≡◌, ℕ, nat_le, Bool, true, false, if◌then◌else◌, List}
use Rattle.fsl_outside.specs.Streams.{SinkState}
use Rattle.fsl_watch.specs.declared.lines.Whose.{Whose}
use Rattle.fsl_watch.specs.declared.lines.Progress.{Progress}
use Rattle.fsl_watch.specs.Lines.{more, Notes}

-- where lines go, and the millisecond of the clock from which the next one may come
pub record Paced (K : Type 0) : Type 0 where
  pub out : K
  pub due : ℕ

-- the source behind it, its lines, and how many bytes were read
pub record WatchedFrom (S K : Type 0) : Type 0 where
  pub source : S
  pub lines : Paced K
  pub count : ℕ

-- the disk behind it, its lines, whose file it is, and what was counted
pub record WatchedOn (D K : Type 0) : Type 0 where
  pub disk : D
  pub lines : Paced K
  pub whose : Whose
  pub progress : Progress

-- the clock showed some millisecond: where that is due, the next is due a second later
abbrev pub Ticks : ℕ → ℕ → Bool → Type 0
Ticks old new is_due = (now : ℕ) × (is_due ≡ nat_le old now) × (new ≡ (if nat_le old now then more 1000 now else old))

abbrev pub NotesIf : Bool → SinkState → SinkState → List ℕ → Type 0
NotesIf true old new line = Notes old new line
NotesIf false old new line = new ≡ old

-- a line was put out where one was due, and then the next is due a second later; else none was
abbrev pub TellsSoFar : {K : Type 0} → (K → SinkState) → Paced K → Paced K → List ℕ → Type 0
TellsSoFar state old new line = (is_due : Bool) × Ticks old.due new.due is_due × NotesIf is_due (state old.out) (state new.out) line
