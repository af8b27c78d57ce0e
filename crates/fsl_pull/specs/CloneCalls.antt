-- What a clone says of its answer, of its rounds and of the file that it makes.
use Rattle.std.specs.Prelude.{◌≡◌, ℕ, ◌+◌, ◌<◌, ◌≤◌, ◌⊎◌, ⊤, Bool, false, List, [], ◌∷◌, ◌++◌, length, take, Option, Some, None, IsSome, Result, Ok, Err, if◌then◌else◌}
use Rattle.fsl_order.specs.Causes.{Rose}
use Rattle.fsl_disk.specs.Disk.{DiskState, IsModelled, LeavesOnly, Quiet, Told}
use Rattle.fsl_outside.specs.Connections.{Connection, LinkState}
use Rattle.fsl_record.specs.declared.Record.{Record}
use Rattle.fsl_journal.specs.File.{IsFileOf}
use Rattle.fsl_journal.specs.Log.{IsNoFile}
use Rattle.fsl_repo.specs.Whole.{is_modelled}
use Rattle.fsl_wire.specs.declared.WireCard.{WireCard}
use Rattle.fsl_http.specs.Responses.{Exchanged, IsBrokenOff, IsLeft}
use Rattle.fsl_pull.specs.declared.Login.{Login}
use Rattle.fsl_pull.specs.declared.Pulled.{Pulled}
use Rattle.fsl_pull.specs.declared.PullFault.{PullFault}
use Rattle.fsl_pull.specs.declared.PullFault.TheVariants as fault
use Rattle.fsl_pull.specs.Rounds.{Round, Point, End, Then, Course, GoOn, state_of, most_rounds}
use Rattle.fsl_pull.specs.Dialled.{Rounds, HasRounds, HasSent, Breaks}
use Rattle.fsl_pull.specs.Replies.{IsReplyRead}
use Rattle.fsl_pull.specs.Kept.{all_of_them, StandsForSome}
use Rattle.fsl_pull.specs.Clones.{Cloning, IsClone, CloneAsks, CloneRound, CloneSoFar, clone_start, project_in, first_record}
use Rattle.fsl_pull.specs.Turns.{commits_of}
use Rattle.fsl_pull.specs.Calls.{AreCommitsOf, Dialled, dialled}

-- ---- the file

-- the number of the file's bytes, where they are told
abbrev pub HasLength : Option (List ℕ) → ℕ → Type 0
HasLength None len = ⊤
HasLength (Some bytes) len = len ≡ length bytes

-- the disk meets the disk model, and a crash leaves an empty file
pub record IsEmptied (disk : DiskState) : Type 0 where
  pub model : IsModelled disk
  pub empty : (c : List ℕ) → disk.images c → c ≡ []

-- a repository of all that was committed
abbrev pub StandsForAll : List (List Record) → List ℕ → Type 0
StandsForAll commits bytes = IsFileOf bytes (all_of_them commits)

-- the file stands for some commits, where it is told, and so does each image, whatever the images were before
pub record IsStable (before after : DiskState) (commits : List (List Record)) : Type 0 where
  pub file : Told after (StandsForAll commits)
  pub images : IsModelled before → (c : List ℕ) → after.images c → StandsForAll commits c

-- what a call leaves by its commits: nothing was written where there is none
abbrev pub IsLeftAs : DiskState → DiskState → List (List Record) → Type 0
IsLeftAs before after [] = Quiet before after
IsLeftAs before after (commit ∷ commits) = IsStable before after (commit ∷ commits)

-- behind a commit that failed each image stands for the commits before it, or for all
abbrev pub IsLostAs : DiskState → DiskState → List (List Record) → List (List Record) → Type 0
IsLostAs before after done all = IsModelled before → (c : List ℕ) → after.images c → StandsForAll done c ⊎ StandsForAll all c

-- no repository, or that of the first commit
abbrev pub NoneOr : List Record → List ℕ → Type 0
NoneOr first bytes = IsNoFile bytes ⊎ IsFileOf bytes first

-- what is left at each moment of a call: nothing is written, where nothing is committed. Else at first no repository or that of the first commit, and once each image is that, this and some further commits
abbrev pub IsKeptSince : {D : Type 0} → (D → DiskState) → D → D → List (List Record) → Type 0
IsKeptSince disk before after [] = Quiet (disk before) (disk after)
IsKeptSince {D} disk before after (first ∷ more) =
    IsEmptied (disk before) →
    LeavesOnly (disk before) (disk after) (NoneOr first)
    ⊎ ((mid : D) × LeavesOnly (disk before) (disk mid) (NoneOr first) × ((c : List ℕ) → (disk mid).images c → IsFileOf c first)
    × LeavesOnly (disk mid) (disk after) (StandsForSome first more))

-- ---- the answer

-- a clone: its words, its disk's count of faults and whether it tells its contents and meets the disk model, what is said of the length that it found, of what it leaves by the commits, of what a commit that failed leaves by those before it and by all, and where the file that it made may read back as another
pub record CloneOf : Type 1 where
  pub server : List ℕ
  pub fields : List (List ℕ)
  pub login : Option Login
  pub faults : ℕ
  pub honest : Bool
  pub Length : ℕ → Type 0
  pub Leaves : List (List Record) → Type 0
  pub Loses : List (List Record) → List (List Record) → Type 0
  pub MayDiffer : Type 0

abbrev pub round_of : CloneOf → Course Cloning (List ℕ) Exchanged
round_of k = CloneRound k.server k.fields k.login

-- the whole clone, of which no connection broke off
abbrev pub IsCloneEnd : CloneOf → Option PullFault → Option Pulled → Rounds → List Connection → Type 0
IsCloneEnd k why pulled rounds broken =
    (broken ≡ [])
    × ((len : ℕ) × k.Length len
    × ((e : End) × IsClone k.server k.fields k.login len k.faults k.honest rounds e × (e.fault ≡ why)
    × (pulled ≡ None ⊎ (pulled ≡ Some (record { rounds = length rounds; stored = e.count }))) × k.Leaves e.commits))

-- the rounds went on, nothing of a further one was taken, and the file has their commits
pub record IsCloneLeftOff (k : CloneOf) (BreaksOff : Breaks) (more : ℕ) (rounds : Rounds) (broken : List Connection) : Type 0 where
  pub empty : k.Length 0
  pub point : Point Cloning
  pub go : GoOn (round_of k) (clone_start k.faults k.honest) rounds point
  pub few : length rounds + more ≤ most_rounds
  pub sent : HasSent BreaksOff broken (CloneAsks k.login point)
  pub left : k.Leaves point.commits

-- the commits before a round's own: those of the rounds before it, and of the first reply that of the Config, once the file was made
pub data AreBegun (server : List ℕ) (fields : List (List ℕ)) (point : Point Cloning) (reply : List WireCard) (commits : List (List Record)) : Type 0 where
  as_before : commits ≡ point.commits → AreBegun server fields point reply commits
  made : (project : List ℕ) → point.memory.begun ≡ false → project_in reply ≡ Some project → commits ≡ (first_record project server fields ∷ []) ∷ [] → AreBegun server fields point reply commits

-- the last of the rounds was read whole, and its commit wasn't reached
pub record IsCloneBroken (k : CloneOf) (IsKept : List (List Record) → Type 0) (rounds : Rounds) : Type 0 where
  pub empty : k.Length 0
  pub front : Rounds
  pub last : Round (List ℕ) Exchanged
  pub whole : rounds ≡ front ++ last ∷ []
  pub few : length rounds ≤ most_rounds
  pub point : Point Cloning
  pub go : GoOn (round_of k) (clone_start k.faults k.honest) front point
  pub asked : CloneAsks k.login point last.request
  pub reply : List WireCard
  pub read : IsReplyRead last.reply (Ok reply)
  pub commits : List (List Record)
  pub begun : AreBegun k.server k.fields point reply commits
  pub left : k.Leaves commits
  -- and no more was committed at any moment
  pub kept : IsKept commits

-- one round was made: its reply has a project, by which the file was to be made
pub record IsUnmade (k : CloneOf) (rounds : Rounds) : Type 0 where
  pub empty : k.Length 0
  pub last : Round (List ℕ) Exchanged
  pub one : rounds ≡ last ∷ []
  pub asked : CloneAsks k.login (clone_start k.faults k.honest) last.request
  pub reply : List WireCard
  pub read : IsReplyRead last.reply (Ok reply)
  pub pushes : IsSome (project_in reply)

-- how many records are committed when the cards of a reply are taken: that of the Config behind the first
abbrev pub committed_before : Point Cloning → ℕ
committed_before p = if p.memory.begun then p.state.committed else 1

-- the commits before that of a round: those of the rounds before it, and behind the first reply that of the Config
abbrev pub commits_before : Point Cloning → List (List Record) → List (List Record)
commits_before p all = if p.memory.begun then p.commits else take 1 all

-- the last of the rounds was taken whole, and its commit was due
pub record IsCommitLost (k : CloneOf) (rounds : Rounds) : Type 0 where
  pub empty : k.Length 0
  pub front : Rounds
  pub last : Round (List ℕ) Exchanged
  pub whole : rounds ≡ front ++ last ∷ []
  pub few : length rounds ≤ most_rounds
  pub point : Point Cloning
  pub go : GoOn (round_of k) (clone_start k.faults k.honest) front point
  pub step : Then Cloning
  pub is_round : round_of k point last step
  -- the commit is behind all arrivals: a round that a fault ended before its commit has none
  pub is_due : (state_of step).committed ≡ length (state_of step).records
  -- and there is something to commit
  pub some : committed_before point < length (state_of step).records
  pub left : k.Loses (commits_before point (commits_of step)) (commits_of step)

-- the disk failed before the first round, while the file was made, or in the last commit; what that leaves of the file is said of its images
abbrev pub IsCloneFailed : CloneOf → Rounds → Type 0
IsCloneFailed k rounds = (rounds ≡ []) ⊎ (IsUnmade k rounds ⊎ IsCommitLost k rounds)

-- the file, which was empty before the first round, had bytes when it was to be made, and stays as it is
pub record IsForestalled (k : CloneOf) (len : ℕ) (rounds : Rounds) (broken : List Connection) : Type 0 where
  pub may : k.MayDiffer
  pub some : 0 < len
  pub whole : broken ≡ []
  pub unmade : IsUnmade k rounds
  pub left : k.Leaves []

-- what a clone answers: its end; a fault of the dial, whose count rose, within the limit of rounds; a fault of the disk, whose count rose; want of memory, behind some rounds or in the midst of the last; that the file that it made reads back as another; or that another program wrote the file meanwhile
abbrev pub IsCloneAnswer : CloneOf → Dialled → ℕ → (List (List Record) → Type 0) → Result Pulled PullFault → Rounds → List Connection → Type 0
IsCloneAnswer k d faults IsKept (Ok pulled) rounds broken = IsCloneEnd k None (Some pulled) rounds broken
IsCloneAnswer k d faults IsKept (Err fault.Link) rounds broken = Rose d.faults_before d.faults_after × IsCloneLeftOff k IsBrokenOff 1 rounds broken
IsCloneAnswer k d faults IsKept (Err fault.Disk) rounds broken = Rose k.faults faults × (broken ≡ []) × IsCloneFailed k rounds
IsCloneAnswer k d faults IsKept (Err fault.Memory) rounds broken =
    IsCloneLeftOff k IsLeft (length broken) rounds broken ⊎ ((broken ≡ []) × IsCloneBroken k IsKept rounds)
IsCloneAnswer k d faults IsKept (Err (fault.NotRepository at)) rounds broken = k.MayDiffer × (broken ≡ []) × IsUnmade k rounds
IsCloneAnswer k d faults IsKept (Err (fault.NotEmpty len)) rounds broken = IsCloneEnd k (Some (fault.NotEmpty len)) None rounds broken ⊎ IsForestalled k len rounds broken
IsCloneAnswer k d faults IsKept (Err why) rounds broken = IsCloneEnd k (Some why) None rounds broken

-- of an answer other than `Disk` this holds
abbrev pub UnlessDisk : {A : Type 0} → Type 0 → Result A PullFault → Type 0
UnlessDisk P (Err fault.Disk) = ⊤
UnlessDisk P result = P

-- a fault other than `Damaged`
abbrev pub IsUndamaged : PullFault → Type 0
IsUndamaged (fault.Damaged name found) = ⊥
IsUndamaged why = ⊤

-- the commits that rounds come to: those of their end, or of rounds that all went on
abbrev pub AreCloneCommits : CloneOf → Rounds → List (List Record) → Type 0
AreCloneCommits k rounds commits = AreCommitsOf (IsClone k.server k.fields k.login 0 k.faults k.honest) (CloneSoFar k.server k.fields k.login k.faults k.honest) rounds commits

-- one clone. IsKept: what the images of the file are at each moment of it, by the commits that its rounds come to
abbrev pub IsCloneCall : CloneOf → Dialled → ℕ → (List (List Record) → Type 0) → Result Pulled PullFault → Type 0
IsCloneCall k d faults IsKept result =
    HasRounds d.before d.after
    (λ rounds broken. IsCloneAnswer k d faults IsKept result rounds broken × ((commits : List (List Record)) → AreCloneCommits k rounds commits → IsKept commits))

-- a clone onto a disk. What a fault of the disk leaves of the file is said of its images alone, since a call that failed may leave what is read half way; where the file is told it never reads back as another
abbrev pub clone_onto : List ℕ → List (List ℕ) → Option Login → DiskState → DiskState → CloneOf
clone_onto server fields login before after =
    record {
      server = server;
      fields = fields;
      login = login;
      faults = before.faults;
      honest = is_modelled before;
      Length = HasLength before.contents;
      Leaves = λ commits. IsLeftAs before after commits;
      Loses = λ done all. IsLostAs before after done all;
      MayDiffer = after.contents ≡ None;
    }

-- one call of `clone_from`, by its dial and its disk before and after
abbrev pub IsClonedOver : {D : Type 0} → (D → DiskState) → List ℕ → List (List ℕ) → Option Login → LinkState → LinkState → D → D → Result Pulled PullFault → Type 0
IsClonedOver disk server fields login d e before after result =
    IsCloneCall (clone_onto server fields login (disk before) (disk after)) (dialled d e) (disk after).faults (IsKeptSince disk before after) result
