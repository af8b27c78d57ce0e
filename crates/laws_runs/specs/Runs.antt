-- Runs over one disk, one after the other, and what its file stands for behind them.
use Rattle.std.specs.Prelude.{◌≡◌, ◌⊎◌, ℕ, ◌≤◌, Bool, true, false, List, [], ◌∷◌, length, Option, Some, IsTrue, MatchBool, ⊤}
use Rattle.std.specs.List.{AllByRecursion}
use Rattle.fsl_outside.specs.Connections.{LinkState}
use Rattle.fsl_outside.specs.Streams.{SourceState, SinkState}
use Rattle.fsl_disk.specs.Disk.{DiskState, IsModelled, Told, Only}
use Rattle.fsl_record.specs.declared.Record.{Record}
use Rattle.fsl_journal.specs.File.{IsFileOf}
use Rattle.fsl_pull.specs.Dialled.{HasRounds}
use Rattle.fsl_words.specs.declared.Command.{Command}
use Rattle.fossil.specs.declared.ran.Ran.{Ran}
use Rattle.fossil.specs.Uses.{command_syncs}
use Rattle.fossil.specs.Outcome.{Outcome, said, meets}
use Rattle.fossil.specs.Run.{RunsBy, IsWritten, after_commits, is_done, reads_input, opens_file, asks_clock}
use Rattle.fossil.specs.Synced.{Read, Objects, SyncsBy, asks_peer, dials, reached, objects_of}
use Rattle.fossil.specs.Acts.{input_of, clock_of, output_of, file_of}
use Rattle.fossil.specs.RunCall.{texts, RunsAlone, SyncsAs, ClonesAs}
use Rattle.fossil.specs.UvMerging.{MergesAs}
use Rattle.fossil.specs.ScrubCall.{ScrubsAs}
use Rattle.laws_runs.specs.declared.session.End.{End}
use Rattle.laws_runs.specs.declared.session.End.TheVariants as end_is
use Rattle.laws_runs.specs.declared.session.Session.{Session}
use Rattle.laws_runs.specs.declared.session.Past.{Past}
use Rattle.laws_runs.specs.Reboot.{IsRebooted, IsKilled}
use Rattle.laws_runs.specs.Stands.{Step, Stands, IsSettled, IsBehind}

-- what tells the state of each object
pub record States (S K P N C D : Type 0) : Type 1 where
  pub input : S → SourceState
  pub out : K → SinkState
  pub peer : P → DiskState
  pub dial : N → LinkState
  pub clock : C → Option (List ℕ)
  pub disk : D → DiskState

abbrev pub states_of : {S K P N C D : Type 0} → (S → SourceState) → (K → SinkState) → (P → DiskState) → (N → LinkState) → (C → Option (List ℕ)) →
    (D → DiskState) → States S K P N C D
states_of input out peer dial clock disk = record { input = input; out = out; peer = peer; dial = dial; clock = clock; disk = disk }

-- ---- one run

-- its words
abbrev pub words_of : {S K P N C : Type 0} → Session S K P N C → List (List ℕ)
words_of s = texts s.words.items

-- what a run of this session over such a disk came to is what `run` promises of its words, by each object before it and behind it
pub record IsRun {S K P N C D : Type 0} (states : States S K P N C D) (handed left : Session S K P N C) (began : D) (ran : Ran D P) : Type 0 where
  pub runs : RunsAlone (words_of handed) (states.input, handed.input, left.input) (states.clock, handed.clock, left.clock) (states.out, handed.out, left.out)
      (states.disk, began) ran
  pub synced : SyncsAs (words_of handed) (states.disk, began) (states.peer, handed.peer) (states.dial, handed.dial, left.dial) (states.out, handed.out, left.out) ran
  pub cloned : ClonesAs (words_of handed) (states.disk, began) (states.dial, handed.dial, left.dial) (states.out, handed.out, left.out) ran
  pub merged : MergesAs (words_of handed) (states.disk, began) (states.peer, handed.peer) (states.out, handed.out, left.out) ran
  pub scrubbed : ScrubsAs (words_of handed) (states.disk, began) (states.peer, handed.peer) (states.out, handed.out, left.out) ran
  -- what its words don't name is as it was
  pub unread : reads_input (words_of handed) ≡ false → left.input ≡ handed.input
  pub untouched : opens_file (words_of handed) ≡ false → ran.repo ≡ began
  pub unasked : asks_peer (words_of handed) ≡ false → ran.peer ≡ handed.peer
  pub undialled : dials (words_of handed) ≡ false → left.dial ≡ handed.dial
  pub unasked_clock : asks_clock (words_of handed) ≡ false → left.clock ≡ handed.clock
  pub words : left.words ≡ handed.words
  pub end : left.end ≡ handed.end

-- what a run left
abbrev pub ran_of : {S K P N C D : Type 0} → Past S K P N C D → Ran D P
ran_of p = record { status = p.status; repo = p.ended.value; peer = p.session.peer }

-- ---- its end

-- the disk behind it: as a power failure at some moment since it began leaves it, or the end of its process alone, or a power failure behind it; or as the run
-- left it, where it was done and nothing failed
abbrev pub IsEndedBy : {D : Type 0} → (D → DiskState) → End → ℕ → D → D → D → Type 0
IsEndedBy disk end_is.Cut status began ended left = IsRebooted (disk began) (disk ended) (disk left)
IsEndedBy disk end_is.Killed status began ended left = IsKilled (disk began) (disk ended) (disk left)
IsEndedBy disk end_is.Heard status began ended left = IsRebooted (disk ended) (disk ended) (disk left)
IsEndedBy disk end_is.Spared status began ended left = MatchBool (is_done status) (left ≡ ended) (IsRebooted (disk ended) (disk ended) (disk left))

-- whether somebody knows that it was done: the power didn't fail before its status was heard, and its process ended by itself
abbrev pub is_sure : End → ℕ → Bool
is_sure end_is.Cut status = false
is_sure end_is.Killed status = false
is_sure _ status = is_done status

-- whether its process was killed while the system went on
abbrev pub is_killed : End → Bool
is_killed end_is.Killed = true
is_killed _ = false

-- a run of this session over such a disk, and its end
pub record IsRunOf {S K P N C D : Type 0} (states : States S K P N C D) (first : D) (s : Session S K P N C) (p : Past S K P N C D) (left : D) : Type 0 where
  pub handed : p.handed.value ≡ s
  pub began : p.began.value ≡ first
  pub run : IsRun states p.handed.value p.session p.began.value (ran_of p)
  pub ended : IsEndedBy states.disk p.handed.value.end p.status p.began.value p.ended.value left
  pub modelled : IsModelled (states.disk p.ended.value) → IsModelled (states.disk left)

-- runs of these sessions, one for each, the first over the first disk, and each other over what the end of the one before it left
abbrev pub AreRuns : {S K P N C D : Type 0} → States S K P N C D → D → List (Session S K P N C) → List (Past S K P N C D) → D → Type 0
AreRuns states first [] [] last = last ≡ first
AreRuns {S} {K} {P} {N} {C} {D} states first (s ∷ sessions) (p ∷ pasts) last =
    (left : D) × IsRunOf states first s p left × AreRuns states left sessions pasts last
AreRuns states first _ _ last = ⊥

-- ---- what they append

-- by one reading of what the run was handed, and one outcome, these are the commits of that outcome
abbrev pub AreOfOutcome : {S K P N C D : Type 0} → States S K P N C D → Past S K P N C D → List (List Record) → Type 0
AreOfOutcome states p commits =
    (read : List ℕ) × (moment : ℕ) × (bytes : List ℕ) × (o : Outcome)
    × RunsBy (said (words_of p.handed.value)) (input_of (states.input p.handed.value.input, states.input p.session.input))
    (clock_of (states.clock p.handed.value.clock, states.clock p.session.clock)) (output_of (states.out p.handed.value.out, states.out p.session.out))
    (file_of (states.disk p.began.value, states.disk p.ended.value)) p.status read moment bytes o
    × (commits ≡ o.commits)

-- the disks and the dial of a run
abbrev pub objects_in : {S K P N C D : Type 0} → States S K P N C D → Past S K P N C D → Objects
objects_in states p =
    objects_of (states.disk p.began.value, states.disk p.ended.value) (states.peer p.handed.value.peer, states.peer p.session.peer)
    (states.dial p.handed.value.dial, states.dial p.session.dial)

-- by one reading of what a sync was handed, and the rounds by which its dial's list grew, these are the commits that it made, and where a disk failed the one
-- that was due
abbrev pub AreOfSync : {S K P N C D : Type 0} → States S K P N C D → Past S K P N C D → List (List Record) → Type 0
AreOfSync states p commits =
    (command : Command) × (said (words_of p.handed.value) ≡ Some command)
    × HasRounds (objects_in states p).dial.before (objects_in states p).dial.after
    (λ rounds broken. (r : Read) × (all : List (List Record))
    × (synced : SyncsBy command (objects_in states p) (λ o. IsWritten o (output_of (states.out p.handed.value.out, states.out p.session.out)) p.status)
    p.status rounds broken r all)
    × (commits ≡ reached p.status synced.far))

-- the commits of a run, by its outcome where it meets no peer
abbrev pub AreCommitsOf : {S K P N C D : Type 0} → States S K P N C D → Past S K P N C D → List (List Record) → Type 0
AreCommitsOf states p commits = AreOfOutcome states p commits ⊎ AreOfSync states p commits

-- what each of the runs came to
abbrev pub AreSteps : {S K P N C D : Type 0} → States S K P N C D → List (Past S K P N C D) → List Step → Type 0
AreSteps states [] [] = ⊤
AreSteps states (p ∷ pasts) (step ∷ steps) =
    AreCommitsOf states p step.commits × (step.sure ≡ is_sure p.handed.value.end p.status) × AreSteps states pasts steps
AreSteps states _ _ = ⊥

-- the words say no command that meets a peer, or one that pulls from a peer or pushes to it
abbrev pub IsCovered : Option Command → Type 0
IsCovered command = (meets command ≡ false) ⊎ ((c : Command) × (command ≡ Some c) × IsTrue (command_syncs c))

abbrev pub AreCovered : {S K P N C : Type 0} → List (Session S K P N C) → Type 0
AreCovered sessions = AllByRecursion (λ s. IsCovered (said (words_of s))) sessions

-- ---- what stands through them

-- a run over what a process left that was killed makes this stable again: the system had made it so before; or it reads as a repository, which the run opens,
-- and somebody knows that the run was done. Behind each other end this is no question
abbrev pub IsFirm : {S K P N C D : Type 0} → States S K P N C D → Bool → Past S K P N C D → Type 0
IsFirm states false p = ⊤
IsFirm states true p =
    ((held : List ℕ) × Only held (states.disk p.began.value).images)
    ⊎ (Told (states.disk p.began.value) (λ held. (records : List Record) × IsFileOf held records)
    × IsTrue (opens_file (words_of p.handed.value)) × IsTrue (is_sure p.handed.value.end p.status))

-- so is each run behind one whose process was killed, which isn't the last one
abbrev pub AreFirm : {S K P N C D : Type 0} → States S K P N C D → Bool → List (Past S K P N C D) → Type 0
AreFirm states killed [] = killed ≡ false
AreFirm states killed (p ∷ pasts) = IsFirm states killed p × AreFirm states (is_killed p.handed.value.end) pasts

-- the disk before each run, and the last one, stands for the old records followed by none, some or all of the commits of each run before it, whole and in
-- order; all of those of a run of which somebody knows that it was done. So each that was acknowledged stands from then on. Where a process was killed this
-- goes on behind the next run that makes it stable
abbrev pub StandThrough : {S K P N C D : Type 0} → States S K P N C D → Bool → List Record → List (Past S K P N C D) → List Step → D → Type 0
StandThrough states killed old [] [] last = Stands killed old (states.disk last)
StandThrough states killed old (p ∷ pasts) (step ∷ steps) last =
    Stands killed old (states.disk p.began.value)
    × (IsFirm states killed p →
    (n : ℕ) × (n ≤ length step.commits) × (IsTrue step.sure → n ≡ length step.commits)
    × StandThrough states (is_killed p.handed.value.end) (after_commits old step.commits n) pasts steps last)
StandThrough states killed old _ _ last = ⊥

-- each run has commits, by what it was handed; and where the first disk stood for old records, each disk behind it stands for these followed by first commits of
-- the runs before it; so does the last one, if each end of a process alone was mended
abbrev pub AllSurvive : {S K P N C D : Type 0} → States S K P N C D → D → List (Session S K P N C) → List (Past S K P N C D) → D → Type 0
AllSurvive states first sessions pasts last =
    AreCovered sessions →
    (steps : List Step) × AreSteps states pasts steps
    × ((old : List Record) → IsModelled (states.disk first) → IsSettled old (states.disk first).images →
    StandThrough states false old pasts steps last
    × (AreFirm states false pasts → (records : List Record) × IsBehind old steps records × IsSettled records (states.disk last).images))

-- Law. Whatever runs follow one another over a disk of this type, and whatever ends each of them, what they leave survives: no body that makes the runs, or that
-- makes the power fail, has a part in it
abbrev pub RunsSurvive : {S K P N C D : Type 0} → States S K P N C D → Type 0
RunsSurvive {S} {K} {P} {N} {C} {D} states =
    (sessions : List (Session S K P N C)) (pasts : List (Past S K P N C D)) (first last : D) → AreRuns states first sessions pasts last →
    AllSurvive states first sessions pasts last
