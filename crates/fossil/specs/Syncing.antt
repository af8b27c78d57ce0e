-- What the parts of a sync say of what they did.
use Rattle.std.specs.Prelude.{◌≡◌, ℕ, List, Option, Result, Ok, Err, IfSome}
use Rattle.fsl_outside.specs.Connections.{LinkState}
use Rattle.fsl_disk.specs.Disk.{DiskState}
use Rattle.fsl_repo.specs.Whole.{Seen, Whole, front, opened, is_modelled, IsWholeOn}
use Rattle.fsl_pull.specs.declared.Login.{Login}
use Rattle.fsl_pull.specs.declared.Pulled.{Pulled}
use Rattle.fsl_pull.specs.declared.PullFault.{PullFault}
use Rattle.fsl_pull.specs.declared.PullFault.TheVariants as fault
use Rattle.fsl_pull.specs.Asking.{IsDialCounted}
use Rattle.fsl_pull.specs.Calls.{IsPullCall, IsPushCall, dialled}
use Rattle.fsl_pull.specs.CloneCalls.{UnlessDisk}
use Rattle.fsl_pull.specs.Kept.{IsKeptAtAnyMoment}
use Rattle.fsl_pull.specs.LocalTurns.{IsPulledFrom}
use Rattle.fsl_words.specs.declared.Command.{Command}
use Rattle.fsl_words.specs.declared.Command.TheVariants as command_of
use Rattle.fossil.specs.declared.commands.sync.Way.{Way}
use Rattle.fossil.specs.declared.commands.sync.Way.TheVariants as way
use Rattle.fossil.specs.Printed.{damaged, disk_fault, link_fault, no_memory}
use Rattle.fossil.specs.Outcome.{printed_of, not_repository}
use Rattle.fossil.specs.Acts.{loaded_of, IsOpened}
use Rattle.fossil.specs.Due.{printed, IsDue, Due}
use Rattle.fossil.specs.Syncs.{synced, fault_printed}
use Rattle.fossil.specs.Synced.{HasSynced, objects_of}
use Rattle.fossil.specs.Cloned.{ClonesBy}
use Rattle.fossil.specs.RunCall.{states}

-- ---- what is due

-- of a fault: its own line, or want of memory in its place
abbrev pub IsFaultDue : PullFault → Due → Type 0
IsFaultDue fault.Link d = printed d ≡ link_fault
IsFaultDue fault.Disk d = printed d ≡ disk_fault
IsFaultDue fault.Memory d = printed d ≡ no_memory
IsFaultDue (fault.NotRepository at) d = IsDue (printed_of (not_repository at)) d
IsFaultDue (fault.Damaged name found) d = printed d ≡ damaged name found
IsFaultDue (fault.Stopped faults) d = printed d ≡ disk_fault
IsFaultDue why d = IfSome (fault_printed why) (λ o. IsDue o d)

-- of a sync that was made
abbrev pub IsSyncDue : Result Pulled PullFault → Due → Type 0
IsSyncDue (Ok pulled) d = IsDue (synced pulled.rounds pulled.stored) d
IsSyncDue (Err why) d = IsFaultDue why d

-- ---- what was done

-- what a command came to before its text is printed
abbrev pub ComesTo : Command → DiskState × DiskState → DiskState × DiskState → LinkState × LinkState → Due → Type 0
ComesTo command file peer dial due = HasSynced command (objects_of file peer dial) (λ o. printed due ≡ o) (printed due).status

-- a repository that was loaded just now, and its file before and behind that
pub record IsReady {D : Type 0} (file left : DiskState) (r : Whole D) : Type 0 where
  pub loaded : IsOpened file left (loaded_of r)
  pub faults : ℕ
  pub state : r.seen.state ≡ opened r.seen.state.records faults (is_modelled file)
  pub whole : IsWholeOn left r

-- one call of the client, by the way that artifacts go
abbrev pub IsMadeOver : Way → Option Login → LinkState × LinkState → DiskState × DiskState → Seen → Seen → Result Pulled PullFault → Type 0
IsMadeOver way.Pull login dial disk old new result =
    IsPullCall login old.state new.state (dialled dial.0 dial.1) (IsKeptAtAnyMoment (front old.state) disk.0 disk.1) result
IsMadeOver way.Push login dial disk old new result =
    IsPushCall login old.state new.state (dialled dial.0 dial.1) (IsKeptAtAnyMoment (front old.state) disk.0 disk.1) result

-- a sync was made, and this is due
pub record HasMade (w : Way) (login : Option Login) (dial : LinkState × LinkState) (disk : DiskState × DiskState) (old new : Seen) (due : Due) : Type 0 where
  pub result : Result Pulled PullFault
  pub made : IsMadeOver w login dial disk old new result
  pub counted : IsDialCounted dial.0 dial.1 result
  pub says : IsSyncDue result due

-- the same of a pull from a peer, of which contents are read: unless a disk failed its count is as before
abbrev pub HasPulledFrom : DiskState × DiskState → Seen → Seen → Seen × Seen → Due → Type 0
HasPulledFrom disk old new peer due =
    (result : Result Pulled PullFault) × IsPulledFrom disk.0 disk.1 old new peer.0 peer.1 result × UnlessDisk (peer.1.state ≡ peer.0.state) result
    × IsSyncDue result due

-- a way as a command
abbrev pub command_by : Way → List ℕ → Option (List ℕ × List ℕ) → Command
command_by way.Pull address login = command_of.Pull address login
command_by way.Push address login = command_of.Push address login

-- what `pull` or `push` came to, at whatever address. It uses no peer's file: the repository's own stands in the place of one
abbrev pub SyncsOver : {D N : Type 0} → Way → Option (List ℕ × List ℕ) → (D → DiskState) × D × D → (N → LinkState) × N × N → Due → Type 0
SyncsOver w login file dial due =
    (address : List ℕ) → ComesTo (command_by w address login) (states file) (file.0 file.1, file.0 file.1) (states dial) due

-- what `pull-local` came to, whatever the peer's path and the dial
abbrev pub PullsLocal : {D P : Type 0} → (D → DiskState) × D × D → (P → DiskState) × P × P → Due → Type 0
PullsLocal file peer due = (path : List ℕ) (dial : LinkState) → ComesTo (command_of.PullLocal path) (states file) (states peer) (dial, dial) due

-- the same of a repository that was loaded from whatever disk
abbrev pub PullsInto : {D P : Type 0} → (D → DiskState) × Whole D × Whole D → (P → DiskState) × P × P → Due → Type 0
PullsInto repo peer due = (disk : _) → IsReady (repo.0 disk) (repo.0 repo.1.disk) repo.1 → PullsLocal (repo.0, disk, repo.2.disk) peer due

-- a clone onto a disk, and this is due
abbrev pub HasCloned : {D N : Type 0} → List ℕ → List (List ℕ) → (D → DiskState) × D × D → (N → LinkState) × N × N → Due → Type 0
HasCloned server fields file dial due = ClonesBy file.0 server fields file.1 file.2 (states dial) (λ o. printed due ≡ o)
