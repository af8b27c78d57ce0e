-- The outcomes of the commands that sync: by the rounds that were read, and by the peer's file.
use Rattle.std.specs.Prelude.{[], ◌≡◌, ℕ, Bool, ◌+◌, ◌≤◌, ◌⊎◌, IsTrue, List, ◌++◌, length, Option, Some, None, option_map, codes, decimal}
use Rattle.fsl_text.specs.Escapes.{escape}
use Rattle.fsl_name.specs.Name.{name_text}
use Rattle.fsl_record.specs.declared.Record.{Record}
use Rattle.fsl_journal.specs.File.{IsFileOf, FailsAt}
use Rattle.fsl_order.specs.Names.{has}
use Rattle.fsl_repo.specs.Machine.{State, now}
use Rattle.fsl_repo.specs.Whole.{opened}
use Rattle.fsl_wire.specs.declared.WireCard.{WireCard}
use Rattle.fsl_pull.specs.declared.Login.{Login}
use Rattle.fsl_pull.specs.declared.PeerFault.{PeerFault}
use Rattle.fsl_pull.specs.declared.PeerFault.TheVariants as peer
use Rattle.fsl_pull.specs.declared.PullFault.{PullFault}
use Rattle.fsl_pull.specs.declared.PullFault.TheVariants as fault
use Rattle.fsl_pull.specs.Rounds.{Round, Point, End, GoOn, most_rounds}
use Rattle.fsl_pull.specs.Calls.{IsLocalSoFar}
use Rattle.fsl_pull.specs.Dialled.{Rounds}
use Rattle.fsl_pull.specs.Arrivals.{AreWants}
use Rattle.fsl_pull.specs.Pulls.{IsPull, PullAsks, PullRound, PullSoFar, pull_start}
use Rattle.fsl_pull.specs.Pushes.{Sending, IsPush, PushAsks, PushRound, PushSoFar, push_start, files_to_send, names_of, is_public}
use Rattle.fsl_pull.specs.Locals.{IsLocalPull}
use Rattle.fossil.specs.Printed.{Printed, with_text, line_of, with_line, refused, wrong_name, full, too_large}
use Rattle.fossil.specs.Outcome.{Outcome}

-- ---- texts

-- how many rounds there were, and how many artifacts were stored, or files sent
abbrev pub sync_text : ℕ → ℕ → List ℕ
sync_text rounds stored = line_of (codes "rounds " ++ decimal rounds) ++ line_of (codes "stored " ++ decimal stored)

-- the text of an error card, escaped
abbrev pub error_text : List ℕ → List ℕ
error_text text = codes "error " ++ escape text

-- what is wrong with a reply
abbrev pub peer_text : PeerFault → List ℕ
peer_text peer.Head = codes "head"
peer_text (peer.Http n) = codes "http " ++ decimal n
peer_text (peer.Long n) = codes "long " ++ decimal n
peer_text (peer.Short n) = codes "short " ++ decimal n
peer_text (peer.Line n) = codes "line " ++ decimal n
peer_text (peer.Error text) = error_text text
peer_text (peer.WrongName name found) = wrong_name name found
peer_text peer.NoPush = codes "no push card"
peer_text peer.NoSequence = codes "no sequence"
peer_text (peer.Sequence n) = codes "sequence " ++ decimal n
peer_text (peer.Again name) = codes "asked again " ++ name_text name

-- a sync that ended well
abbrev pub synced : ℕ → ℕ → Printed
synced rounds stored = with_text 0 (sync_text rounds stored)

-- a wrong reply
abbrev pub wrong_reply : PeerFault → Printed
wrong_reply why = with_line 8 (codes "peer: " ++ peer_text why)

-- a name that was asked for and isn't sent
abbrev pub missing : List ℕ → Printed
missing name = with_line 10 (codes "missing " ++ name_text name)

-- a sync that was given up
abbrev pub too_many_rounds : Printed
too_many_rounds = with_line 11 (codes "too many rounds")

-- a peer of another project, by its code
abbrev pub other_project : List ℕ → Printed
other_project found = refused (codes "other project " ++ name_text found)

-- a peer's file that isn't a repository, from the place at which it fails
abbrev pub no_peer : ℕ → Printed
no_peer at = with_line 2 (codes "not a repository: peer " ++ decimal at)

-- ---- outcomes

-- what is printed, with these commits
abbrev pub with_commits : Printed → List (List Record) → Outcome
with_commits printed commits = record { status = printed.status; text = printed.text; commits = commits }

-- what is printed of a fault with which a sync ends; the other faults come from outside, and no repository that was just loaded is stopped. Nor is a damaged
-- content an end: the rounds before it all went on
abbrev pub fault_printed : PullFault → Option Printed
fault_printed (fault.NotEmpty len) = Some (refused (codes "file not empty " ++ decimal len))
fault_printed (fault.NotRepository at) = None
fault_printed (fault.Project found) = Some (other_project found)
fault_printed (fault.Stopped faults) = None
fault_printed fault.Link = None
fault_printed fault.Disk = None
fault_printed (fault.Damaged name found) = None
fault_printed (fault.Peer why) = Some (wrong_reply why)
fault_printed (fault.TooLarge name size) = Some (too_large name size)
fault_printed (fault.Full name) = Some (full name)
fault_printed (fault.Missing name) = Some (missing name)
fault_printed fault.Rounds = Some too_many_rounds
fault_printed fault.Memory = None

-- what is printed of an end behind so many rounds, by its fault and its count
abbrev pub end_printed : Option PullFault → ℕ → ℕ → Option Printed
end_printed None rounds stored = Some (synced rounds stored)
end_printed (Some why) rounds stored = fault_printed why

-- the outcome of an end behind so many rounds
abbrev pub IsEndOutcome : ℕ → End → Outcome → Type 0
IsEndOutcome rounds e o = (printed : Printed) × (end_printed e.fault rounds e.count ≡ Some printed) × (o ≡ with_commits printed e.commits)

-- ---- a pull

-- the user and the secret of a login
abbrev pub login_of : Option (List ℕ × List ℕ) → Option Login
login_of login = option_map (λ l. record { user = l.0; secret = l.1 }) login

-- the repository that stands for these records, whatever its disk's count of faults was; an honest disk tells its contents and meets the disk model
abbrev pub IsPullOutcome : Bool → Option (List ℕ × List ℕ) → Rounds → List Record → Outcome → Type 0
IsPullOutcome honest login rounds records o =
    (faults : ℕ) × (e : End) × IsPull (login_of login) (opened records faults honest) rounds e × IsEndOutcome (length rounds) e o

-- the commits of rounds that all went on
abbrev pub PullCommits : Bool → Option (List ℕ × List ℕ) → Rounds → List Record → List (List Record) → Type 0
PullCommits honest login rounds records commits = (faults : ℕ) × PullSoFar (login_of login) (opened records faults honest) rounds commits

-- the body of the request that is due behind rounds that all went on
abbrev pub PullDue : Bool → Option (List ℕ × List ℕ) → Rounds → List Record → List ℕ → Type 0
PullDue honest login rounds records body =
    (faults : ℕ)
    × ((wanted : List (List ℕ)) × AreWants (opened records faults honest) wanted
    × ((p : Point (List (List ℕ))) × GoOn (PullRound (login_of login)) (pull_start (opened records faults honest) wanted) rounds p × PullAsks (login_of login) p body))

-- ---- a push

-- its rounds bring artifacts where the peer sends files, so that it has commits as a pull has
abbrev pub IsPushOutcome : Bool → Option (List ℕ × List ℕ) → Rounds → List Record → Outcome → Type 0
IsPushOutcome honest login rounds records o =
    (faults : ℕ) × (e : End) × IsPush (login_of login) (opened records faults honest) rounds e × IsEndOutcome (length rounds) e o

abbrev pub PushCommits : Bool → Option (List ℕ × List ℕ) → Rounds → List Record → List (List Record) → Type 0
PushCommits honest login rounds records commits = (faults : ℕ) × PushSoFar (login_of login) (opened records faults honest) rounds commits

abbrev pub PushDue : Bool → Option (List ℕ × List ℕ) → Rounds → List Record → List ℕ → Type 0
PushDue honest login rounds records body =
    (faults : ℕ)
    × ((p : Point Sending) × GoOn (PushRound (login_of login)) (push_start (opened records faults honest)) rounds p × PushAsks (login_of login) p body)

-- behind rounds that all went on a further one sends a file of some name; this is said of that name and of where the push stands
abbrev pub PushSends : Bool → Option (List ℕ × List ℕ) → Rounds → List Record → (List ℕ → Point Sending → Type 0) → Type 0
PushSends honest login rounds records Says =
    (faults : ℕ)
    × ((p : Point Sending) × GoOn (PushRound (login_of login)) (push_start (opened records faults honest)) rounds p × (length rounds + 1 ≤ most_rounds)
    × ((name : List ℕ) × IsTrue (has (names_of (files_to_send (now p.state) p.memory)) name) × Says name p))

-- ---- a pull from another repository

-- whether the two disks are honest, the repository's first
abbrev pub Honesty : Type 0
Honesty = Bool × Bool

abbrev pub IsLocalOutcomeOn : Honesty → List Record → List Record → Outcome → Type 0
IsLocalOutcomeOn honest there records o =
    (faults peer_faults : ℕ) × (rounds : List (Round (List (List ℕ)) (List WireCard)))
    × ((e : End) × IsLocalPull (opened records faults honest.0) (opened there peer_faults honest.1) rounds e × IsEndOutcome (length rounds) e o)

-- the peer's file stands for records, or the place at which it doesn't is told
abbrev pub IsLocalOutcome : Honesty → List ℕ → List Record → Outcome → Type 0
IsLocalOutcome honest peer_bytes records o =
    ((at : ℕ) × FailsAt peer_bytes at × (o ≡ with_commits (no_peer at) []))
    ⊎ ((there : List Record) × IsFileOf peer_bytes there × IsLocalOutcomeOn honest there records o)

-- some rounds of it went on; this is said of the peer and of where the pull stands
abbrev pub LocalRoundsGoOn : Honesty → List ℕ → List Record → (State → Point (List (List ℕ)) → Type 0) → Type 0
LocalRoundsGoOn honest peer_bytes records Says =
    (there : List Record) × IsFileOf peer_bytes there × ((faults peer_faults : ℕ)
    × IsLocalSoFar (opened records faults honest.0) (opened there peer_faults honest.1) (λ unclustered p. Says (opened there peer_faults honest.1) p))

-- and these are their commits
abbrev pub LocalCommits : Honesty → List ℕ → List Record → List (List Record) → Type 0
LocalCommits honest peer_bytes records commits = LocalRoundsGoOn honest peer_bytes records (λ peer p. commits ≡ p.commits)

-- a further one takes a file of some name that the peer holds public; this is said of that name, of the peer and of where the pull stands
abbrev pub LocalTakes : Honesty → List ℕ → List Record → (List ℕ → State → Point (List (List ℕ)) → Type 0) → Type 0
LocalTakes honest peer_bytes records Says =
    LocalRoundsGoOn honest peer_bytes records
    (λ peer p. (name : List ℕ) × IsTrue (has p.memory name) × IsTrue (is_public (now peer) name) × Says name peer p)
