-- The clause of a serve, and those of its stages, by what their objects tell, as those of a run.
use Rattle.std.specs.Prelude.{ℕ, List, Option, String}
use Rattle.fsl_outside.specs.Connections.{LinkState}
use Rattle.fsl_outside.specs.Streams.{SourceState, SinkState}
use Rattle.fsl_disk.specs.Disk.{DiskState}
use Rattle.fsl_repo.specs.Whole.{Whole}
use Rattle.fsl_login.specs.declared.User.{User}
use Rattle.fsl_serve.specs.declared.work.Crew.{Crew}
use Rattle.fsl_serve.specs.Points.{Points}
use Rattle.fsl_serve.specs.declared.work.Work.{Work}
use Rattle.fsl_serve.specs.Crews.{AreWorked, AreGated}
use Rattle.fsl_serve.specs.Ordered.{HasOneHistory}
use Rattle.fossil.specs.declared.commands.serve.State.{State}
use Rattle.fossil.specs.declared.commands.serve.State.TheVariants as state
use Rattle.fossil.specs.declared.commands.serve.Served.{Served}
use Rattle.fossil.specs.Acts.{input_of, output_of}
use Rattle.fossil.specs.RunCall.{Moments, texts, states}
use Rattle.fossil.specs.Served.{Left, Loaded, Unloaded, ServesLoaded, ServesDisk, Serves, Ends, Says}

abbrev pub left_of : {D : Type 0} → State D → Left D
left_of (state.Loaded repo) = Loaded repo
left_of (state.Unloaded disk) = Unloaded disk

-- the disk of a repository that is left, or the one that wasn't loaded
abbrev pub disk_left : {D : Type 0} → State D → D
disk_left (state.Loaded repo) = repo.disk
disk_left (state.Unloaded disk) = disk

-- what the doors, the gates and the clocks of crews tell
abbrev pub Telling : Type 0 → Type 0 → Type 0 → Type 0
Telling A G C = (A → LinkState) × (G → Option Points) × (C → Moments)

-- one worker for each crew, and each crew as its worker left it, its gate and its clock too; and the steps of all sessions make one history of the repository
pub record CrewsWorked {D A G C : Type 0} (tells : D → DiskState) (crew : Telling A G C) (before after : List (Crew A G C))
    (users : List User) (project : List ℕ) (requests : ℕ) (works : List Work) (first last : Whole D) : Type 0 where
  pub worked : AreWorked tells (λ c. crew.0 c.door) users project requests works before after
  pub gates : AreGated tells crew users project requests works before after
  pub history : HasOneHistory tells crew users project requests works before after first last

-- The words, or how many connections each worker is to take; the users, or what tells their file, before and after; the output before and after; the disk;
-- what the doors, the gates and the clocks tell, with the crews; and the answer.

-- a loaded repository was served to these users
abbrev pub IsLoadedServed : {K D A G C : Type 0} → ℕ → List User → (K → SinkState) × K × K → (D → DiskState) × Whole D →
    Telling A G C × List (Crew A G C) → Served D A G C → Type 0
IsLoadedServed requests users out repo crews answer =
    Says (λ o. ServesLoaded repo.0 (CrewsWorked repo.0 crews.0 crews.1 answer.crews.items) repo.1 (left_of answer.state) crews.1
    answer.crews.items users requests o) (output_of (states out)) answer.status

-- a disk was served to these users
abbrev pub IsDiskServed : {K D A G C : Type 0} → ℕ → List User → (K → SinkState) × K × K → (D → DiskState) × D →
    Telling A G C × List (Crew A G C) → Served D A G C → Type 0
IsDiskServed requests users out disk crews answer =
    Says (λ o. ServesDisk disk.0 (CrewsWorked disk.0 crews.0 crews.1 answer.crews.items) disk.1 (left_of answer.state) crews.1
    answer.crews.items users requests o) (output_of (states out)) answer.status

-- a disk was served to the users of a file
abbrev pub IsFileServed : {S K D A G C : Type 0} → ℕ → (S → SourceState) × S × S → (K → SinkState) × K × K → (D → DiskState) × D →
    Telling A G C × List (Crew A G C) → Served D A G C → Type 0
IsFileServed requests users out disk crews answer =
    Says (λ o. Serves disk.0 (CrewsWorked disk.0 crews.0 crews.1 answer.crews.items) (input_of (states users)) disk.1 (left_of answer.state) crews.1
    answer.crews.items requests o) (output_of (states out)) answer.status

-- the same by the words
abbrev pub IsServe : {Z S K D A G C : Type 0} → List (String Z) → (S → SourceState) × S × S → (K → SinkState) × K × K → (D → DiskState) × D →
    Telling A G C × List (Crew A G C) → Served D A G C → Type 0
IsServe words users out disk crews answer =
    Says (λ o. Ends disk.0 (CrewsWorked disk.0 crews.0 crews.1 answer.crews.items) (texts words) (input_of (states users)) disk.1 (left_of answer.state) crews.1
    answer.crews.items o) (output_of (states out)) answer.status
