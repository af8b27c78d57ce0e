-- What the code says of the parts of a clone.
use Rattle.std.specs.Prelude.{◌≡◌, ◌≢◌, ℕ, ◌<◌, ◌≤◌, ◌==◌, ◌⊎◌, Bool, true, List, [], ◌∷◌, take, Option, Some, None, Result, Ok, Err, if◌then◌else◌}
use Rattle.fsl_order.specs.Causes.{Rose}
use Rattle.fsl_disk.specs.Disk.{DiskState, IsModelled, LeavesOnly, Quiet, Told}
use Rattle.fsl_outside.specs.Connections.{LinkState}
use Rattle.fsl_record.specs.declared.Config.{Config}
use Rattle.fsl_record.specs.declared.Record.{Record}
use Rattle.fsl_record.specs.declared.Record.TheVariants as record_of
use Rattle.fsl_journal.specs.File.{IsFileOf}
use Rattle.fsl_journal.specs.declared.CreateFault.{CreateFault}
use Rattle.fsl_journal.specs.declared.CreateFault.TheVariants as create_fault
use Rattle.fsl_journal.specs.declared.LoadFault.{LoadFault}
use Rattle.fsl_journal.specs.declared.LoadFault.TheVariants as load_fault
use Rattle.fsl_wire.specs.declared.WireCard.{WireCard}
use Rattle.fsl_http.specs.Responses.{Exchanged, IsLeft}
use Rattle.fsl_http.specs.Exchanges.{HasJoined, IsExchangeOf}
use Rattle.fsl_repo.specs.Machine.{State}
use Rattle.fsl_repo.specs.Whole.{Whole, Seen, front, stored, opened}
use Rattle.fsl_pull.specs.declared.Login.{Login}
use Rattle.fsl_pull.specs.declared.PeerFault.TheVariants as peer
use Rattle.fsl_pull.specs.declared.Pulled.{Pulled}
use Rattle.fsl_pull.specs.declared.PullFault.{PullFault}
use Rattle.fsl_pull.specs.declared.PullFault.TheVariants as fault
use Rattle.fsl_pull.specs.Rounds.{Round, Point, Then, Broken, state_of}
use Rattle.fsl_pull.specs.Requests.{request_bytes, clone_cards}
use Rattle.fsl_pull.specs.Replies.{IsReplyRead}
use Rattle.fsl_pull.specs.Clones.{Cloning, IsCloned, CloneRound, CloneAsks, project_in, config_of, first_record}
use Rattle.fsl_pull.specs.Kept.{all_of_them, StandsForSome}
use Rattle.fsl_pull.specs.Asking.{IsAsked, IsIdle, IsLinkLost}
use Rattle.fsl_pull.specs.Turns.{commits_of, AreCommitted, IsKeptBy, IsCarried, ComesTo, TurnsTo}
use Rattle.fsl_pull.specs.Calls.{dialled}
use Rattle.fsl_pull.specs.CloneCalls.{CloneOf, IsCloneCall, IsLeftAs}

-- ---- a request

-- the request for the files from a place on
abbrev pub clone_bytes : Option Login → ℕ → List ℕ
clone_bytes login from = request_bytes login (clone_cards from)

-- why there is no reply: one came that is wrong; the dial failed; or there was no memory, before a connection or for the reply
abbrev pub IsUnreplied : LinkState → LinkState → List ℕ → PullFault → Type 0
IsUnreplied d e request (fault.Peer why) = IsAsked d e request (Err why)
IsUnreplied d e request fault.Link = IsLinkLost d e request
IsUnreplied d e request fault.Memory = IsIdle d e ⊎ HasJoined d e (λ c. IsLeft c request)
IsUnreplied d e request why = ⊥

-- ---- rounds

-- a clone whose repository was begun, and that asks from this place
abbrev pub cloning : ℕ → Cloning
cloning from = record { begun = true; from = from }

abbrev pub AsksFrom : Cloning → ℕ → Type 0
AsksFrom memory from = memory ≡ cloning from

-- the place that the next round asks from, or none at the end
abbrev pub place_by : ℕ → Option ℕ
place_by next = if next == 0 then None else Some next

-- a reply that was read, of which nothing was committed
abbrev pub BrokenClone : Option Login → Broken Cloning (List ℕ) Exchanged
BrokenClone login p r left = CloneAsks login p r.request × ((reply : List WireCard) × IsReplyRead r.reply (Ok reply) × (front left ≡ front p.state))

-- what a round leaves of the file, that the commits behind it are the file's, and that its records begin with those that were committed
abbrev pub IsKeptOn : DiskState → DiskState → Type 0 → Point Cloning → Then Cloning → Type 0
IsKeptOn before after Still p step =
    IsKeptBy before after Still p step
    × ((base : List Record) → AreCommitted base p.state p.commits → AreCommitted base (state_of step) (commits_of step))
    × (take p.state.committed (state_of step).records ≡ front p.state)

-- the cards of a reply to a request for the files from a place on were taken, and committed
abbrev pub IsCloneTaken : ℕ → List WireCard → DiskState → DiskState → Seen → Seen → Type 0 → Result (Option ℕ) PullFault → Type 0
IsCloneTaken from reply before after old new Still result =
    (p : Point Cloning) → p.state ≡ old.state → p.memory ≡ cloning from →
    ComesTo AsksFrom p (λ s. IsCloned p reply s × IsKeptOn before after Still p s) (IsCarried (stored old) (stored new) p)
    (λ left. (front left ≡ front p.state) × Still) new.state result

-- one round behind the first, whatever the repository was begun with
abbrev pub IsCloneTurned : Option Login → ℕ → LinkState → LinkState → DiskState → DiskState → Seen → Seen → Type 0 → Result (Option ℕ) PullFault → Type 0
IsCloneTurned login from d e before after old new Still result =
    (server : List ℕ) (fields : List (List ℕ)) (p : Point Cloning) → p.state ≡ old.state → p.memory ≡ cloning from →
    TurnsTo AsksFrom (CloneRound server fields login) (CloneAsks login) (BrokenClone login) p d e (IsKeptOn before after Still p)
    (IsCarried (stored old) (stored new) p) Still new.state result

-- ---- the repository is made

-- a repository with this Config alone was opened on a disk with that count of faults, which tells its contents and meets the disk model or not
pub record IsMadeBy (config : Config) (faults : ℕ) (honest : Bool) (seen : Seen) : Type 0 where
  pub state : seen.state ≡ opened (record_of.Config config ∷ []) faults honest
  pub loaded : seen.loaded ≡ 1

-- the repository that was opened has this Config alone, and is as it was
pub record IsOnly (config : Config) (old new : Seen) : Type 0 where
  pub alone : old.state.records ≡ record_of.Config config ∷ []
  pub state : new.state ≡ old.state
  pub loaded : new.loaded ≡ old.loaded

-- why a repository wasn't opened
abbrev pub opening_fault : LoadFault → PullFault
opening_fault load_fault.Disk = fault.Disk
opening_fault (load_fault.NotRepository at) = fault.NotRepository at
opening_fault load_fault.Memory = fault.Memory

-- why a file wasn't made
abbrev pub making_fault : CreateFault → PullFault
making_fault (create_fault.NotEmpty len) = fault.NotEmpty len
making_fault create_fault.Disk = fault.Disk
making_fault create_fault.Memory = fault.Memory

-- a file of this Config alone wasn't opened: the disk failed; there was no memory, and it stays such a file; or it reads as another, which one that is told doesn't
abbrev pub IsUnopened : Config → DiskState → DiskState → PullFault → Type 0
IsUnopened config before after fault.Disk = Rose before.faults after.faults
IsUnopened config before after fault.Memory =
    (after.faults ≡ before.faults) × Told before (λ held. IsFileOf held (record_of.Config config ∷ []) → Told after (λ left. IsFileOf left (record_of.Config config ∷ [])))
IsUnopened config before after (fault.NotRepository at) = (after.faults ≡ before.faults) × Told before (λ held. IsFileOf held (record_of.Config config ∷ []) → ⊥)
IsUnopened config before after why = ⊥

-- the file is left as by these commits, and the count as it was
pub record IsLeftBy (before after : DiskState) (commits : List (List Record)) : Type 0 where
  pub faults : after.faults ≡ before.faults
  pub left : IsLeftAs before after commits

-- it wasn't: the disk failed; there was no memory, before the file was made or behind that; or a file that isn't told reads back as another, or has bytes after all and stays as it is
abbrev pub IsUnmadeBy : Config → DiskState → DiskState → PullFault → Type 0
IsUnmadeBy config before after fault.Disk = Rose before.faults after.faults
IsUnmadeBy config before after fault.Memory = IsLeftBy before after [] ⊎ IsLeftBy before after ((record_of.Config config ∷ []) ∷ [])
IsUnmadeBy config before after (fault.NotRepository at) = (after.faults ≡ before.faults) × (before.contents ≡ None)
IsUnmadeBy config before after (fault.NotEmpty len) = (after.faults ≡ before.faults) × (before.contents ≡ None) × (0 < len) × Quiet before after
IsUnmadeBy config before after why = ⊥

-- the disk that comes back
abbrev pub made_disk : {D : Type 0} → Result (Whole D) (D × PullFault) → D
made_disk (Ok repo) = repo.disk
made_disk (Err failed) = failed.0

-- by a first reply
abbrev pub IsBegunBy : List ℕ → List (List ℕ) → List WireCard → ℕ → Bool → Seen → Type 0
IsBegunBy server fields reply faults honest seen = (project : List ℕ) × (project_in reply ≡ Some project) × IsMadeBy (config_of project server fields) faults honest seen

abbrev pub IsUnbegun : {D : Type 0} → (D → DiskState) → List ℕ → List (List ℕ) → List WireCard → D → D → PullFault → Type 0
IsUnbegun disk server fields reply before after (fault.Peer why) = (why ≡ peer.NoPush) × (project_in reply ≡ None) × (after ≡ before)
IsUnbegun disk server fields reply before after why = (project : List ℕ) × (project_in reply ≡ Some project) × IsUnmadeBy (config_of project server fields) (disk before) (disk after) why

-- ---- all rounds

-- the first round: it was made by this dial, its reply was read, and the reply has this project
pub record IsFirst (server : List ℕ) (fields : List (List ℕ)) (login : Option Login) (l0 d : LinkState) (reply : List WireCard) (project : List ℕ) (r : Round (List ℕ) Exchanged) (old : Seen) : Type 0 where
  pub exchange : IsExchangeOf l0 d r.request r.reply
  pub later : l0.faults ≤ d.faults
  pub asked : r.request ≡ clone_bytes login 1
  pub read : IsReplyRead r.reply (Ok reply)
  pub pushes : project_in reply ≡ Some project
  pub made : IsMadeBy (config_of project server fields) old.state.faults old.state.honest old

-- a clone whose repository was begun
abbrev pub clone_within : List ℕ → List (List ℕ) → Option Login → ℕ → Bool → (List (List Record) → Type 0) → (List (List Record) → List (List Record) → Type 0) → CloneOf
clone_within server fields login faults honest Leaves Loses =
    record {
      server = server;
      fields = fields;
      login = login;
      faults = faults;
      honest = honest;
      Length = λ len. len ≡ 0;
      Leaves = Leaves;
      Loses = Loses;
      MayDiffer = ⊥;
    }

-- the commits begin with that of the Config, and at each moment since then the file has this and some further ones
abbrev pub IsKeptFrom : DiskState → DiskState → List Record → List (List Record) → Type 0
IsKeptFrom before after first commits =
    (more : List (List Record)) × (commits ≡ first ∷ more) × (IsModelled before → LeavesOnly before after (StandsForSome first more))

-- there is a commit, and the committed records of an open repository are those of the commits
abbrev pub HasCommitted : State → List (List Record) → Type 0
HasCommitted s commits = (commits ≢ []) × (front s ≡ all_of_them commits)

-- the committed records of an open repository are those of the commits before one that failed, and all its records are those of all
abbrev pub HasLost : State → List (List Record) → List (List Record) → Type 0
HasLost s done all = HasCommitted s done × (s.records ≡ all_of_them all)

-- each image stands for the records of the commits before one that failed, or for those of all
abbrev pub StandsForEither : DiskState → List (List Record) → List (List Record) → Type 0
StandsForEither disk done all = IsModelled disk → (c : List ℕ) → disk.images c → IsFileOf c (all_of_them done) ⊎ IsFileOf c (all_of_them all)

-- there is a commit, the file stands for the records of the commits, and so does each image
abbrev pub StandsFor : DiskState → List (List Record) → Type 0
StandsFor disk commits =
    (commits ≢ [])
    × Told disk (λ held. IsFileOf held (all_of_them commits))
    × (IsModelled disk → (c : List ℕ) → disk.images c → IsFileOf c (all_of_them commits))

-- all rounds of a clone whose repository this reply began; and behind them the repository was closed
abbrev pub IsClonedOn : Option Login → List WireCard → LinkState → LinkState → DiskState → DiskState → Seen → Seen → Result Pulled PullFault → Type 0
IsClonedOn login reply d e before after old new result =
    (server : List ℕ) (fields : List (List ℕ)) (l0 : LinkState) (project : List ℕ) (r : Round (List ℕ) Exchanged) → IsFirst server fields login l0 d reply project r old →
    IsCloneCall (clone_within server fields login old.state.faults old.state.honest (HasCommitted new.state) (HasLost new.state)) (dialled l0 e) new.state.faults
    (IsKeptFrom before after (first_record project server fields ∷ [])) result

abbrev pub IsClosedOn : Option Login → List WireCard → LinkState → LinkState → DiskState → DiskState → Seen → Result Pulled PullFault → Type 0
IsClosedOn login reply d e before after old result =
    (server : List ℕ) (fields : List (List ℕ)) (l0 : LinkState) (project : List ℕ) (r : Round (List ℕ) Exchanged) → IsFirst server fields login l0 d reply project r old →
    IsCloneCall (clone_within server fields login old.state.faults old.state.honest (StandsFor after) (StandsForEither after)) (dialled l0 e) after.faults
    (IsKeptFrom before after (first_record project server fields ∷ [])) result
