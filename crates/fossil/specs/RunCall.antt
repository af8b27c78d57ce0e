-- The clauses of a run, and those of its parts, by what their objects tell. An object stands behind what tells its state, before and after; where the
-- whole answer of a run or of a serve is handed on, which has the object as it came back, it stands as it was before.
use Rattle.std.specs.Prelude.{◌≡◌, ℕ, false, map, List, Some, Option, String, string_bytes, IsTrue}
use Rattle.fsl_outside.specs.Connections.{LinkState}
use Rattle.fsl_outside.specs.Streams.{SourceState, SinkState}
use Rattle.fsl_disk.specs.Disk.{DiskState}
use Rattle.fsl_repo.specs.Whole.{Whole}
use Rattle.fsl_words.specs.declared.Question.{Question}
use Rattle.fsl_words.specs.declared.Command.{Command}
use Rattle.fsl_words.specs.declared.Command.TheVariants.{Ask}
use Rattle.fossil.specs.declared.ran.Done.{Done}
use Rattle.fossil.specs.declared.ran.Ran.{Ran}
use Rattle.fossil.specs.Due.{Due}
use Rattle.fossil.specs.Uses.{command_meets, command_syncs}
use Rattle.fossil.specs.Outcome.{said, meets}
use Rattle.fossil.specs.Run.{HasRun}
use Rattle.fossil.specs.Acts.{Loaded, input_of, clock_of, output_of, file_of, loaded_of, IsOpened, Acts}
use Rattle.fossil.specs.Synced.{Syncs}
use Rattle.fossil.specs.Cloned.{ClonesIf}

-- words as their bytes
abbrev pub texts : {Z : Type 0} → List (String Z) → List (List ℕ)
texts words = map string_bytes words

-- the states of an object before and after
abbrev pub states {ℓ} : {X : Type 0} {Y : Type ℓ} → (X → Y) × X × X → Y × Y
states x = (x.0 x.1, x.0 x.2)

-- the same of one that comes back as this
abbrev pub back {ℓ} : {X : Type 0} {Y : Type ℓ} → (X → Y) × X → X → Y × Y
back x left = (x.0 x.1, x.0 left)

-- ---- before the text is printed

-- the moments that a clock answered, where it tells them
abbrev pub Moments : Type 0
Moments = Option (List ℕ)

-- what a command did that reads the input and asks the clock
abbrev pub ActsReading : {S C D : Type 0} → Command → (S → SourceState) × S × S → (C → Moments) × C × C → (D → DiskState) × D × D →
    Due → Type 0
ActsReading command input clock file result = Acts command (states input) (states clock) (states file) result

-- what one did that does neither, whatever the input and the clock are
abbrev pub ActsUnread : {D : Type 0} → Command → (D → DiskState) × D × D → Due → Type 0
ActsUnread command file result = (input : SourceState) (clock : Moments) → Acts command (input, input) (clock, clock) (states file) result

-- what such a command did over a repository that was opened from whatever file
abbrev pub ActsOpened : {D : Type 0} → Command → (D → DiskState) × Whole D × Whole D → Due → Type 0
ActsOpened command repo result =
    (disk : _) (input : SourceState) (clock : Moments) → IsOpened (repo.0 disk) (repo.0 repo.1.disk) (loaded_of repo.1)
    → Acts command (input, input) (clock, clock) (repo.0 disk, repo.0 repo.2.disk) result

-- what a question about a file that was loaded came to, from whatever file, under whatever input and clock
abbrev pub AnswersQuestion : {D : Type 0} → Question → Loaded → (D → DiskState) × D × D → Due → Type 0
AnswersQuestion question loaded file result =
    (disk : _) (input : SourceState) (clock : Moments) → IsOpened (file.0 disk) (file.0 file.1) loaded
    → Acts (Ask question) (input, input) (clock, clock) (file.0 disk, file.0 file.2) result

-- ---- behind the printing

-- what a command came to
abbrev pub RunsCommand : {S C K D : Type 0} → Command → (S → SourceState) × S × S → (C → Moments) × C × C → (K → SinkState) × K × K →
    (D → DiskState) × D → Done D → Type 0
RunsCommand command input clock out repo done =
    HasRun (Some command) (input_of (states input)) (clock_of (states clock)) (output_of (states out)) (file_of (back repo done.repo)) done.status

-- what a question came to, whatever the input and the clock are
abbrev pub RunsQuestion : {K D : Type 0} → Question → (K → SinkState) × K × K → (D → DiskState) × D × D → ℕ → Type 0
RunsQuestion question out file status =
    (input : SourceState) (clock : Moments) →
    HasRun (Some (Ask question)) (input_of (input, input)) (clock_of (clock, clock)) (output_of (states out)) (file_of (states file)) status

-- ---- a run, by its command

-- of one that meets no peer
abbrev pub RunsFor : {S C K D P : Type 0} → Command → (S → SourceState) × S × S → (C → Moments) × C × C → (K → SinkState) × K × K →
    (D → DiskState) × D → Ran D P → Type 0
RunsFor command input clock out repo ran =
    command_meets command ≡ false →
    HasRun (Some command) (input_of (states input)) (clock_of (states clock)) (output_of (states out)) (file_of (back repo ran.repo)) ran.status

-- of one that syncs
abbrev pub SyncsFor : {D P N K : Type 0} → Command → (D → DiskState) × D → (P → DiskState) × P → (N → LinkState) × N × N → (K → SinkState) × K × K →
    Ran D P → Type 0
SyncsFor command repo peer dial out ran =
    IsTrue (command_syncs command) → Syncs command (back repo ran.repo) (back peer ran.peer) (states dial) (states out) ran.status

-- of one that clones
abbrev pub ClonesFor : {D P N K : Type 0} → Command → (D → DiskState) × D → (N → LinkState) × N × N → (K → SinkState) × K × K → Ran D P → Type 0
ClonesFor command repo dial out ran = ClonesIf (Some command) repo.0 repo.1 ran.repo (states dial) (states out) ran.status

-- ---- a run, by its words

-- where they say no command that meets a peer
abbrev pub RunsAlone : {S C K D P : Type 0} → List (List ℕ) → (S → SourceState) × S × S → (C → Moments) × C × C → (K → SinkState) × K × K →
    (D → DiskState) × D → Ran D P → Type 0
RunsAlone words input clock out repo ran =
    meets (said words) ≡ false →
    HasRun (said words) (input_of (states input)) (clock_of (states clock)) (output_of (states out)) (file_of (back repo ran.repo)) ran.status

-- where they say a command that syncs
abbrev pub SyncsAs : {D P N K : Type 0} → List (List ℕ) → (D → DiskState) × D → (P → DiskState) × P → (N → LinkState) × N × N →
    (K → SinkState) × K × K → Ran D P → Type 0
SyncsAs words repo peer dial out ran = (command : Command) → said words ≡ Some command → SyncsFor command repo peer dial out ran

-- where they say a clone
abbrev pub ClonesAs : {D P N K : Type 0} → List (List ℕ) → (D → DiskState) × D → (N → LinkState) × N × N → (K → SinkState) × K × K → Ran D P → Type 0
ClonesAs words repo dial out ran = ClonesIf (said words) repo.0 repo.1 ran.repo (states dial) (states out) ran.status
