-- What the calls of the client say of their answers, of the repository and of the rounds.
use Rattle.std.specs.Prelude.{◌≡◌, ℕ, ◌⊎◌, ⊤, true, IsTrue, List, [], ◌∷◌, ◌++◌, length, Option, Some, None, Result, Ok, Err}
use Rattle.fsl_order.specs.Causes.{Rose}
use Rattle.fsl_record.specs.declared.Record.{Record}
use Rattle.fsl_wire.specs.declared.WireCard.{WireCard}
use Rattle.fsl_http.specs.Responses.{Exchanged, IsBrokenOff, IsLeft}
use Rattle.std.specs.Str.{bytes_eq}
use Rattle.fsl_outside.specs.Connections.{Connection, LinkState, listed}
use Rattle.fsl_disk.specs.Disk.{DiskState}
use Rattle.fsl_repo.specs.Machine.{State, now}
use Rattle.fsl_repo.specs.Whole.{Whole, front}
use Rattle.fsl_pull.specs.Kept.{IsKeptAtAnyMoment}
use Rattle.fsl_pull.specs.declared.Login.{Login}
use Rattle.fsl_pull.specs.declared.Pulled.{Pulled}
use Rattle.fsl_pull.specs.declared.PullFault.{PullFault}
use Rattle.fsl_pull.specs.declared.PullFault.TheVariants as fault
use Rattle.fsl_pull.specs.Rounds.{Round, Point, End, GoOn, CommitFailed}
use Rattle.fsl_pull.specs.Dialled.{Rounds, HasRounds, HasSent, Breaks}
use Rattle.fsl_pull.specs.Pulls.{IsPull, PullAsks, IsPullLeftOff, IsPullBroken, IsPullFailed, PullSoFar, pull_start}
use Rattle.fsl_pull.specs.Pushes.{IsPush, PushAsks, IsPushLeftOff, IsPushBroken, IsPushFailed, IsPushUnread, PushSoFar, AreRead, is_public}
use Rattle.fsl_pull.specs.Reading.{CantRead}
use Rattle.fsl_pull.specs.Locals.{LocalRounds, IsLocalPull, LocalRound, IsLocalReply, local_reply, project_code}
use Rattle.fsl_pull.specs.Arrivals.{Taken, Takes, AreWants, AreUnclustered, IsPartlyTaken}
use Rattle.fsl_pull.specs.Turns.{commits_of}

-- the answer is that of the end, and the repository is the one that it leaves
pub record Ended (e : End) (rounds : ℕ) (new : State) (why : Option PullFault) (pulled : Option Pulled) : Type 0 where
  pub fault : e.fault ≡ why
  pub state : new ≡ e.state
  pub numbers : pulled ≡ None ⊎ (pulled ≡ Some (record { rounds = rounds; stored = e.count }))

-- a whole sync, of which no connection broke off
abbrev pub IsWhole : (Rounds → End → Type 0) → State → Option PullFault → Option Pulled → Rounds → List Connection → Type 0
IsWhole IsSynced new why pulled rounds broken = (broken ≡ []) × ((e : End) × IsSynced rounds e × Ended e (length rounds) new why pulled)

-- what a sync is: of these rounds this is the end; behind them nothing of a further one was taken, and so many more there may be; the last of them was
-- taken in part; the disk failed in its commit, or before a further one was made; a file of a further one is damaged; and the commits of rounds that all went on
pub record Kind : Type 1 where
  pub Is : Rounds → End → Type 0
  pub IsLeftOff : Breaks → List Connection → ℕ → Rounds → State → Type 0
  pub IsBroken : Rounds → State → Type 0
  pub IsFailed : Rounds → State → Type 0
  pub IsDamaged : List ℕ → List ℕ → Rounds → State → Type 0
  pub SoFar : Rounds → List (List Record) → Type 0

-- want of memory: before anything was done; behind some rounds; or in the midst of a reply, where this is said of the commits of the rounds before it
abbrev pub IsCutShort : Kind → State → State → Rounds → List Connection → (List (List Record) → Type 0) → Type 0
IsCutShort k old new rounds broken IsKept =
    ((rounds ≡ []) × (broken ≡ []) × (new ≡ old))
    ⊎ (k.IsLeftOff IsLeft broken (length broken) rounds new
    ⊎ ((broken ≡ []) × k.IsBroken rounds new
    × ((front : Rounds) (last : Round (List ℕ) Exchanged) (done : List (List Record)) → rounds ≡ front ++ last ∷ [] → k.SoFar front done → IsKept done)))

-- what a sync over a network answers: its end; a fault of the dial, whose count rose, within the limit of rounds; a fault of the disk, whose count rose
-- in the commit of its last round or in a read of a file that a further one was to send; that such a file is damaged; or want of memory
abbrev pub IsSynced : Kind → State → State → ℕ → ℕ → (List (List Record) → Type 0) → Result Pulled PullFault → Rounds → List Connection → Type 0
IsSynced k old new before after IsKept (Ok pulled) rounds broken = IsWhole k.Is new None (Some pulled) rounds broken
IsSynced k old new before after IsKept (Err fault.Link) rounds broken = Rose before after × k.IsLeftOff IsBrokenOff broken 1 rounds new
IsSynced k old new before after IsKept (Err fault.Disk) rounds broken = Rose old.faults new.faults × (broken ≡ []) × k.IsFailed rounds new
IsSynced k old new before after IsKept (Err (fault.Damaged name found)) rounds broken = (broken ≡ []) × k.IsDamaged name found rounds new
IsSynced k old new before after IsKept (Err fault.Memory) rounds broken = IsCutShort k old new rounds broken IsKept
IsSynced k old new before after IsKept (Err why) rounds broken = IsWhole k.Is new (Some why) None rounds broken

-- the commits that rounds come to: those of their end, or of rounds that all went on
abbrev pub AreCommitsOf : (Rounds → End → Type 0) → (Rounds → List (List Record) → Type 0) → Rounds → List (List Record) → Type 0
AreCommitsOf Is SoFar rounds commits = ((e : End) × Is rounds e × (commits ≡ e.commits)) ⊎ SoFar rounds commits

-- a dial before and after: its connections, where they are told, and its count of faults
pub record Dialled : Type 0 where
  pub before : Option (List Connection)
  pub after : Option (List Connection)
  pub faults_before : ℕ
  pub faults_after : ℕ

abbrev pub dialled : LinkState → LinkState → Dialled
dialled old new =
    record {
      before = listed old.standing.earlier old.present;
      after = listed new.standing.earlier new.present;
      faults_before = old.faults;
      faults_after = new.faults;
    }

-- a pull sends no file
abbrev pub a_pull : Option Login → State → Kind
a_pull login old =
    record {
      Is = IsPull login old;
      IsLeftOff = λ BreaksOff broken more. IsPullLeftOff login old (λ p. HasSent BreaksOff broken (PullAsks login p)) more;
      IsBroken = IsPullBroken login old;
      IsFailed = IsPullFailed login old;
      IsDamaged = λ name found rounds left. ⊥;
      SoFar = PullSoFar login old;
    }

abbrev pub a_push : Option Login → State → Kind
a_push login old =
    record {
      Is = IsPush login old;
      IsLeftOff = λ BreaksOff broken more. IsPushLeftOff login old (λ p. HasSent BreaksOff broken (PushAsks login p)) more;
      IsBroken = IsPushBroken login old;
      IsFailed = λ rounds left. IsPushFailed login old rounds left ⊎ IsPushUnread login old fault.Disk rounds left;
      IsDamaged = λ name found. IsPushUnread login old (fault.Damaged name found);
      SoFar = PushSoFar login old;
    }

-- one call of `pull`, and one of `push`. IsKept: what the images of the file are at each moment of the call, by the commits that its rounds come to
abbrev pub IsCall : Kind → State → State → Dialled → (List (List Record) → Type 0) → Result Pulled PullFault → Type 0
IsCall k old new d IsKept result =
    HasRounds d.before d.after
    (λ rounds broken. IsSynced k old new d.faults_before d.faults_after IsKept result rounds broken
    × ((commits : List (List Record)) → AreCommitsOf k.Is k.SoFar rounds commits → IsKept commits))

abbrev pub IsPullCall : Option Login → State → State → Dialled → (List (List Record) → Type 0) → Result Pulled PullFault → Type 0
IsPullCall login old new d IsKept result = IsCall (a_pull login old) old new d IsKept result

abbrev pub IsPushCall : Option Login → State → State → Dialled → (List (List Record) → Type 0) → Result Pulled PullFault → Type 0
IsPushCall login old new d IsKept result = IsCall (a_push login old) old new d IsKept result

-- one call of `pull`, by what tells its dial, before and after, and its repository with what tells the disk
abbrev pub IsPulledOver : {N D : Type 0} → Option Login → (N → LinkState) × N × N → (D → DiskState) × Whole D × Whole D → Result Pulled PullFault → Type 0
IsPulledOver login dial repo result =
    let kept = IsKeptAtAnyMoment (front repo.1.seen.state) (repo.0 repo.1.disk) (repo.0 repo.2.disk) in
    IsPullCall login repo.1.seen.state repo.2.seen.state (dialled (dial.0 dial.1) (dial.0 dial.2)) kept result

-- one call of `push`, by the same
abbrev pub IsPushedOver : {N D : Type 0} → Option Login → (N → LinkState) × N × N → (D → DiskState) × Whole D × Whole D → Result Pulled PullFault → Type 0
IsPushedOver login dial repo result =
    let kept = IsKeptAtAnyMoment (front repo.1.seen.state) (repo.0 repo.1.disk) (repo.0 repo.2.disk) in
    IsPushCall login repo.1.seen.state repo.2.seen.state (dialled (dial.0 dial.1) (dial.0 dial.2)) kept result

-- a whole pull from another repository; this is said of its commits
abbrev pub IsLocalEnd : State → State → State → (List (List Record) → Type 0) → Option PullFault → Option Pulled → Type 0
IsLocalEnd old peer new IsKept why pulled =
    (rounds : LocalRounds) × ((e : End) × IsLocalPull old peer rounds e × Ended e (length rounds) new why pulled × IsKept e.commits)

-- a pull may begin: the peer is of the same project, and the repository isn't stopped
pub record MayBegin (old peer : State) : Type 0 where
  pub project : IsTrue (bytes_eq (project_code (now old)) (project_code (now peer)))
  pub runs : old.stopped ≡ None

-- some rounds went on, and behind them this is said of where the pull stands, by the peer's unclustered public names
abbrev pub IsLocalSoFar : State → State → (List (List ℕ) → Point (List (List ℕ)) → Type 0) → Type 0
IsLocalSoFar old peer Says =
    (unclustered wanted : List (List ℕ)) × AreUnclustered peer unclustered × AreWants old wanted
    × ((rounds : LocalRounds)
    × ((p : Point (List (List ℕ))) × GoOn (LocalRound peer unclustered) (pull_start old wanted) rounds p × Says unclustered p))

-- some rounds went on, and of a further one some cards were taken; this is said of the commits of those rounds
abbrev pub IsLocalCut : State → State → State → (List (List Record) → Type 0) → Type 0
IsLocalCut old peer new IsKept =
    IsLocalSoFar old peer (λ unclustered p.
    ((reply : List WireCard) × IsLocalReply peer unclustered p.memory reply × IsPartlyTaken reply p.state new) × IsKept p.commits)

-- nothing was done, or some rounds were
abbrev pub IsLocalShort : State → State → State → (List (List Record) → Type 0) → Type 0
IsLocalShort old peer new IsKept = ((new ≡ old) × IsKept []) ⊎ (MayBegin old peer × IsLocalCut old peer new IsKept)

-- the commit of the last round failed, where its records are in the file in part; this is said of the commits with that one
abbrev pub IsLocalFailed : State → State → State → (List (List Record) → Type 0) → Type 0
IsLocalFailed old peer new IsKept =
    MayBegin old peer
    × ((unclustered wanted : List (List ℕ)) × AreUnclustered peer unclustered × AreWants old wanted
    × ((rounds : LocalRounds)
    × ((f : CommitFailed (LocalRound peer unclustered) (pull_start old wanted) rounds new) × IsKept (commits_of f.step))))

-- of the names that are asked for, the files of those before this one were taken as they were read, and that of this one isn't read
pub record IsStuck (why : PullFault) (peer : State) (unclustered asked : List (List ℕ)) (s left peer_left : State) : Type 0 where
  pub front : List (List ℕ)
  pub name : List ℕ
  pub rest : List (List ℕ)
  pub whole : asked ≡ front ++ name ∷ rest
  pub public : IsTrue (is_public (now peer) name)
  pub files : List (List ℕ × List ℕ)
  pub read : AreRead peer front files
  pub taken : Taken
  pub takes : Takes s None (local_reply unclustered files) taken
  pub well : taken.fault ≡ None
  pub state : left ≡ taken.state
  pub cant : CantRead why peer name peer_left

-- some rounds went on, and of a further one a file of the peer isn't read; this is said of the commits of those rounds
abbrev pub IsLocalUnread : PullFault → State → State → State → State → (List (List Record) → Type 0) → Type 0
IsLocalUnread why old peer new peer_new IsKept =
    MayBegin old peer
    × IsLocalSoFar old peer (λ unclustered p. IsStuck why peer unclustered p.memory p.state new peer_new × IsKept p.commits)

-- the peer's files are read from its disk, whose calls may fail, and whose bytes may have other names than they should
abbrev pub IsLocalAnswer : State → State → State → State → (List (List Record) → Type 0) → Result Pulled PullFault → Type 0
IsLocalAnswer old new peer peer_new IsKept (Ok pulled) = IsLocalEnd old peer new IsKept None (Some pulled)
IsLocalAnswer old new peer peer_new IsKept (Err fault.Disk) =
    ((peer_new ≡ peer) × Rose old.faults new.faults × IsLocalFailed old peer new IsKept)
    ⊎ IsLocalUnread fault.Disk old peer new peer_new IsKept
IsLocalAnswer old new peer peer_new IsKept (Err (fault.Damaged name found)) =
    IsLocalUnread (fault.Damaged name found) old peer new peer_new IsKept
IsLocalAnswer old new peer peer_new IsKept (Err fault.Memory) = IsLocalShort old peer new IsKept
IsLocalAnswer old new peer peer_new IsKept (Err why) = IsLocalEnd old peer new IsKept (Some why) None

-- the faults of a pull from another repository; what such a one gives is never wrong
abbrev pub IsLocalFault : PullFault → Type 0
IsLocalFault (fault.Project found) = ⊤
IsLocalFault (fault.Stopped faults) = ⊤
IsLocalFault (fault.Full name) = ⊤
IsLocalFault fault.Disk = ⊤
IsLocalFault (fault.Damaged name found) = ⊤
IsLocalFault fault.Memory = ⊤
IsLocalFault why = ⊥

-- IsKept: what the images of the repository's file are at each moment of the call, by the commits that its rounds come to. Over a peer's disk that tells its
-- contents and meets the disk model there is one end, whatever the answer is
abbrev pub IsLocalCall : State → State → State → State → (List (List Record) → Type 0) → Result Pulled PullFault → Type 0
IsLocalCall old new peer peer_new IsKept result =
    IsLocalAnswer old new peer peer_new IsKept result
    × (peer.honest ≡ true → (rounds : LocalRounds) (e : End) → IsLocalPull old peer rounds e → IsKept e.commits)
