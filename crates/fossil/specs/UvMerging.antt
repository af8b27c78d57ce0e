-- What the parts of a sync of unversioned files say of what they did.
use Rattle.std.specs.Prelude.{[], ◌≡◌, ◌≢◌, ◌⊎◌, ◌++◌, ℕ, List, ◌∷◌, Some, Result, Ok, Err, codes, decimal}
use Rattle.fsl_outside.specs.Streams.{SinkState}
use Rattle.fsl_disk.specs.Disk.{DiskState, IsModelled, Keeps, LeavesOnly}
use Rattle.fsl_journal.specs.File.{IsFileOf}
use Rattle.fsl_journal.specs.Log.{WhereBetween, StandsBetween}
use Rattle.fsl_uv.specs.declared.SyncFault.{SyncFault}
use Rattle.fsl_uv.specs.declared.SyncFault.TheVariants as sync_fault
use Rattle.fsl_uv.specs.Stores.{Seen, Whole, IsStore, IsOpened}
use Rattle.fsl_uv.specs.Reports.{other_project}
use Rattle.fsl_uv.specs.Exchanging as exchanging
use Rattle.fsl_words.specs.declared.Command.{Command}
use Rattle.fossil.specs.declared.ran.Ran.{Ran}
use Rattle.fossil.specs.Printed.{Printed, refused, disk_fault, with_text, no_memory}
use Rattle.fossil.specs.Outcome.{said}
use Rattle.fossil.specs.Acts.{file_of}
use Rattle.fossil.specs.Due.{printed, IsDue, Due}
use Rattle.fossil.specs.Unversioned.{said_printed}
use Rattle.fossil.specs.UvSyncs.{HasMerged, MergesIf}
use Rattle.fossil.specs.RunCall.{states, back}

-- ---- what is due

-- how many entries were stored here and there
abbrev pub counted : ℕ → ℕ → Printed
counted received sent = with_text 0 (codes "received " ++ decimal received ++ codes "\nsent " ++ decimal sent ++ 10 ∷ [])

-- of a sync that was made
abbrev pub IsUvSyncDue : Result (ℕ × ℕ) SyncFault → Due → Type 0
IsUvSyncDue (Ok counts) d = IsDue (counted counts.0 counts.1) d
IsUvSyncDue (Err sync_fault.Full) d = IsDue (refused (codes "full")) d
IsUvSyncDue (Err sync_fault.Disk) d = printed d ≡ disk_fault
IsUvSyncDue (Err sync_fault.Memory) d = printed d ≡ no_memory

-- ---- what was done

-- a store that was opened just now, and its file before and behind that
pub record IsReady (file left : DiskState) (s : Seen) : Type 0 where
  pub opened : IsOpened file left s
  pub keeps : Keeps file left
  pub any_moment : WhereBetween file (λ low high. LeavesOnly file left (StandsBetween low high))
  pub durable : IsModelled file → (c : List ℕ) → left.images c → IsFileOf c s.log.records
  pub store : IsStore left s

-- what two stores did that sync, and what is due of that; stores of two projects don't
abbrev pub Talks : {D P : Type 0} → (D → DiskState) → (P → DiskState) → Whole D → Whole P → Whole D → Whole P → Due → Type 0
Talks state other here there after left due =
    ((there.seen.config.project ≢ here.seen.config.project) × (after ≡ here) × (left ≡ there) × IsDue (said_printed (other_project there.seen.config.project)) due)
    ⊎ ((there.seen.config.project ≡ here.seen.config.project)
    × ((made : Result (ℕ × ℕ) SyncFault) × exchanging.Syncs state other here there made after left × IsUvSyncDue made due))

-- what a sync of a store and a peer's file came to, where the store was opened from whatever disk
abbrev pub MergesInto : {D P : Type 0} → (D → DiskState) × Whole D × Whole D → (P → DiskState) × P × P → Due → Type 0
MergesInto here peer due =
    (disk : _) → IsReady (here.0 disk) (here.0 here.1.disk) here.1.seen →
    HasMerged (file_of (here.0 disk, here.0 here.2.disk)) (file_of (states peer)) (λ o. printed due ≡ o)

-- what a sync of two files came to
abbrev pub MergesFiles : {D P : Type 0} → (D → DiskState) × D × D → (P → DiskState) × P × P → Due → Type 0
MergesFiles file peer due = HasMerged (file_of (states file)) (file_of (states peer)) (λ o. printed due ≡ o)

-- ---- a run

-- by its command
abbrev pub MergesFor : {D P K : Type 0} → Command → (D → DiskState) × D → (P → DiskState) × P → (K → SinkState) × K × K → Ran D P → Type 0
MergesFor command repo peer out ran = MergesIf (Some command) (back repo ran.repo) (back peer ran.peer) (states out) ran.status

-- by its words
abbrev pub MergesAs : {D P K : Type 0} → List (List ℕ) → (D → DiskState) × D → (P → DiskState) × P → (K → SinkState) × K × K → Ran D P → Type 0
MergesAs words repo peer out ran = MergesIf (said words) (back repo ran.repo) (back peer ran.peer) (states out) ran.status
