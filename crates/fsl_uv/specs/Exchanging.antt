-- A sync of two stores: what each of its steps answers and leaves, and the whole.
use Rattle.std.specs.Prelude.{◌≡◌, ◌≢◌, ◌⊎◌, ◌++◌, ℕ, true, false, List, [], length, map, Some, Result, Ok, Err}
use Rattle.fsl_order.specs.Causes.{Rose}
use Rattle.fsl_disk.specs.Disk.{DiskState, IsModelled, Keeps, LeavesOnly}
use Rattle.fsl_record.specs.declared.Record.{Record}
use Rattle.fsl_journal.specs.File.{IsFileOf}
use Rattle.fsl_journal.specs.Journal.{Committed, WritesGroup}
use Rattle.fsl_journal.specs.Log.{Log}
use Rattle.fsl_uv.specs.declared.Entry.{Entry}
use Rattle.fsl_uv.specs.declared.Card.{Card}
use Rattle.fsl_uv.specs.declared.SyncFault.{SyncFault}
use Rattle.fsl_uv.specs.declared.SyncFault.TheVariants as sync_fault
use Rattle.fsl_uv.specs.Entries.{Version}
use Rattle.fsl_uv.specs.Maps.{is_over}
use Rattle.fsl_uv.specs.Cards.{message_text, IsMessage}
use Rattle.fsl_uv.specs.Syncing.{offered, files, stored, applied, given, peer_answer, synced_here, synced_there}
use Rattle.fsl_uv.specs.Stores.{Seen, Whole, IsUv, IsSettled, LastsAs, blob_of, log_with}

-- ---- what stores say to each other are messages

-- The offer of a store, the answer of another, and what is given for that are messages of these cards, so a sync meets no fault of a message. And what is given once
-- the answer was taken in is what was given before.
pub record StoresTalk : Type 0 where
  pub offer : (records : List Record) (u : List (List ℕ × Version)) → IsUv records u → IsMessage (message_text (offered u)) (offered u)
  pub answer : (records others : List Record) (u v : List (List ℕ × Version)) → IsUv records u → IsUv others v → IsMessage (message_text (peer_answer u v)) (peer_answer u v)
  pub back : (records : List Record) (u : List (List ℕ × Version)) (cards : List Card) → IsUv records u → IsMessage (message_text (given u cards)) (given u cards)
  pub same : (u v : List (List ℕ × Version)) → given (synced_here u v) (peer_answer u v) ≡ given u (peer_answer u v)

-- ---- a message that is taken in and committed

-- the entries of a message that a store stores
abbrev pub taken : Seen → List Card → List Entry
taken s cards = stored s.map (files cards)

-- the records of the file, and these with those entries
abbrev pub with_taken : Seen → List Card → List Record
with_taken s cards = s.log.records ++ map blob_of (taken s cards)

-- the journal with those entries, none of which is committed
abbrev pub log_taken : Seen → List Card → Log
log_taken s cards = log_with s.log (taken s cards)

-- what is so of the disk whether the commit was done or failed
pub record Commits {D : Type 0} (state : D → DiskState) (before : Whole D) (cards : List Card) (after : Whole D) : Type 0 where
  pub fits : is_over (applied before.seen.map cards) ≡ false
  pub records : after.seen.log.records ≡ with_taken before.seen cards
  pub map : after.seen.map ≡ applied before.seen.map cards
  pub config : after.seen.config ≡ before.seen.config
  pub keeps : Keeps (state before.disk) (state after.disk)
  -- at each moment each image stands for the old records, or for these with the one commit
  pub any_moment : IsModelled (state before.disk) →
      LeavesOnly (state before.disk) (state after.disk) (λ c. IsFileOf c before.seen.log.records ⊎ IsFileOf c (with_taken before.seen cards))

-- the files of the message are in, and committed
pub record Took {D : Type 0} (state : D → DiskState) (before : Whole D) (cards : List Card) (after : Whole D) : Type 0 where
  pub commits : Commits state before cards after
  pub settled : IsSettled after.seen.log
  pub faults : (state after.disk).faults ≡ (state before.disk).faults
  pub lasts : LastsAs (with_taken before.seen cards) (state before.disk) (state after.disk)
  -- the journal is the one that a commit of those entries leaves
  pub done : Committed (length (with_taken before.seen cards)) (log_taken before.seen cards) after.seen.log (state before.disk) (state after.disk)
  -- they are one group in the file, and where there is none no device is called
  pub written : WritesGroup (log_taken before.seen cards) (state before.disk) (state after.disk)
  pub idle : taken before.seen cards ≡ [] → after.disk ≡ before.disk

-- a call of the disk failed in the commit
pub record Lost {D : Type 0} (state : D → DiskState) (before : Whole D) (cards : List Card) (after : Whole D) : Type 0 where
  pub commits : Commits state before cards after
  pub due : taken before.seen cards ≢ []
  pub rose : Rose (state before.disk).faults (state after.disk).faults
  -- the store is stopped, and those entries stand behind its committed records
  pub stopped : after.seen.log ≡ record (log_taken before.seen cards) { stopped = Some (state after.disk).faults }

-- the files of the message with these cards were taken in and committed, and so many of them were stored; or the store stays, for a limit or for want of memory; or
-- the disk failed
abbrev pub Takes : {D : Type 0} → (D → DiskState) → Whole D → List Card → Result ℕ SyncFault → Whole D → Type 0
Takes state before cards (Ok count) after = (count ≡ length (taken before.seen cards)) × Took state before cards after
Takes state before cards (Err sync_fault.Full) after = (is_over (applied before.seen.map cards) ≡ true) × (after ≡ before)
Takes state before cards (Err sync_fault.Disk) after = Lost state before cards after
Takes state before cards (Err sync_fault.Memory) after = after ≡ before

-- ---- the whole

-- the cards that a store gets from another, and those that it gives back
abbrev pub gets : {D P : Type 0} → Whole D → Whole P → List Card
gets here there = peer_answer here.seen.map there.seen.map

abbrev pub gives : {D P : Type 0} → Whole D → Whole P → List Card
gives here there = given here.seen.map (gets here there)

-- First the store here takes in what it gets, and then the other one what it is given. Each stands for its old records or for these with its one commit, and the other one
-- takes nothing in unless the one here has.
abbrev pub Syncs : {D P : Type 0} → (D → DiskState) → (P → DiskState) → Whole D → Whole P → Result (ℕ × ℕ) SyncFault → Whole D → Whole P → Type 0
Syncs state other here there (Ok counts) after left =
    ((counts.0 ≡ length (taken here.seen (gets here there))) × Took state here (gets here there) after)
    × ((counts.1 ≡ length (taken there.seen (gives here there))) × Took other there (gives here there) left)
Syncs state other here there (Err sync_fault.Full) after left =
    (left ≡ there)
    × (((is_over (synced_here here.seen.map there.seen.map) ≡ true) × (after ≡ here))
    ⊎ (Took state here (gets here there) after × (is_over (synced_there here.seen.map there.seen.map) ≡ true)))
Syncs state other here there (Err sync_fault.Disk) after left =
    (Lost state here (gets here there) after × (left ≡ there)) ⊎ (Took state here (gets here there) after × Lost other there (gives here there) left)
Syncs state other here there (Err sync_fault.Memory) after left = (left ≡ there) × ((after ≡ here) ⊎ Took state here (gets here there) after)
