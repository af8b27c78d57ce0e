-- The outcome of a sync of unversioned files between two files, and what a run of it leaves.
use Rattle.std.specs.Prelude.{[], ◌≡◌, ◌≢◌, ◌⊎◌, ◌++◌, ℕ, List, ◌∷◌, map, Option, Some, IsTrue}
use Rattle.fsl_order.specs.Causes.{Rose}
use Rattle.fsl_outside.specs.Streams.{SinkState}
use Rattle.fsl_disk.specs.Disk.{DiskState, IsModelled, Keeps, Quiet, LeavesOnly}
use Rattle.fsl_record.specs.declared.Config.{Config}
use Rattle.fsl_record.specs.declared.Record.{Record}
use Rattle.fsl_record.specs.declared.Record.TheVariants as record_of
use Rattle.fsl_journal.specs.File.{IsFileOf, FailsAt}
use Rattle.fsl_uv.specs.Entries.{Version}
use Rattle.fsl_uv.specs.Maps.{merge}
use Rattle.fsl_uv.specs.Laws.{Agree}
use Rattle.fsl_uv.specs.Stores.{IsUv, IsNoEntry, blob_of}
use Rattle.fsl_uv.specs.Reports.{Done, sync_done, not_unversioned, other_project}
use Rattle.fsl_words.specs.declared.Command.{Command}
use Rattle.fsl_words.specs.declared.Command.TheVariants.{Unversioned}
use Rattle.fsl_words.specs.declared.Unversioned.TheVariants.{Sync}
use Rattle.fossil.specs.Printed.{Printed, disk_fault, no_memory}
use Rattle.fossil.specs.Unversioned.{said_printed}
use Rattle.fossil.specs.Outcome.{printed_of, not_repository}
use Rattle.fossil.specs.Run.{File, Agrees, IsNoRepository, IsWritten}
use Rattle.fossil.specs.Acts.{file_of, output_of}
use Rattle.fossil.specs.Syncs.{no_peer}
use Rattle.fossil.specs.Synced.{AreImagesOf, IsUntouched}

-- ---- the outcome

-- what becomes of a file
pub data Part : Type 0 where
  -- it isn't opened as a store
  aside : Part
  -- it is opened, and nothing is appended
  kept : Part
  -- these records are appended, in one commit
  takes : List Record → Part
  -- their commit failed: they are all there or none of them
  cut : List Record → Part

-- what is said, and what becomes of this file and of the peer's
pub record UvSync : Type 0 where
  pub printed : Printed
  pub here : Part
  pub there : Part

-- the entries that a sync stores here and there, a commit each
abbrev pub synced_by : Done → UvSync
synced_by d = record { printed = said_printed d.said; here = takes (map blob_of d.here); there = takes (map blob_of d.there) }

-- a sync that isn't made
abbrev pub unsynced : Printed → Part → Part → UvSync
unsynced printed here there = record { printed = printed; here = here; there = there }

-- the Config record of a store and its map
abbrev pub AreStore : List Record → Config → List (List ℕ × Version) → Type 0
AreStore records config m = ((rest : List Record) × (records ≡ record_of.Config config ∷ rest)) × IsUv records m

-- of two stores: another project, or the sync of their maps
abbrev pub IsSyncOfStores : Config → List (List ℕ × Version) → Config → List (List ℕ × Version) → UvSync → Type 0
IsSyncOfStores config u peer v s =
    ((peer.project ≢ config.project) × (s ≡ unsynced (said_printed (other_project peer.project)) kept kept))
    ⊎ ((peer.project ≡ config.project) × (s ≡ synced_by (sync_done u v)))

-- of a store and the records of the peer's file: the first Blob there that is no entry, or the sync with it
abbrev pub IsSyncWithRecords : Config → List (List ℕ × Version) → List Record → UvSync → Type 0
IsSyncWithRecords config u there s =
    ((name : List ℕ) × IsNoEntry there name × (s ≡ unsynced (said_printed (not_unversioned name)) kept kept))
    ⊎ ((peer : Config) × (v : List (List ℕ × Version)) × AreStore there peer v × IsSyncOfStores config u peer v s)

-- of a store and the peer's file: the place at which that stands for no records, or the sync with those that it stands for
abbrev pub IsSyncWithFile : Config → List (List ℕ × Version) → List ℕ → UvSync → Type 0
IsSyncWithFile config u peer s =
    ((at : ℕ) × FailsAt peer at × (s ≡ unsynced (no_peer at) kept aside))
    ⊎ ((there : List Record) × IsFileOf peer there × IsSyncWithRecords config u there s)

-- of the records of this file: the first Blob that is no entry, or the sync of the store
abbrev pub IsSyncOfRecords : List Record → List ℕ → UvSync → Type 0
IsSyncOfRecords here peer s =
    ((name : List ℕ) × IsNoEntry here name × (s ≡ unsynced (said_printed (not_unversioned name)) kept aside))
    ⊎ ((config : Config) × (u : List (List ℕ × Version)) × AreStore here config u × IsSyncWithFile config u peer s)

-- of the bytes of both files, this one first
abbrev pub IsUvSync : List ℕ → List ℕ → UvSync → Type 0
IsUvSync file peer s =
    ((at : ℕ) × FailsAt file at × (s ≡ unsynced (printed_of (not_repository at)) aside aside))
    ⊎ ((here : List Record) × IsFileOf file here × IsSyncOfRecords here peer s)

-- Law. Two files have one outcome of a sync at most
abbrev pub HasOneUvSync : Type 0
HasOneUvSync = (file peer : List ℕ) (a b : UvSync) → IsUvSync file peer a → IsUvSync file peer b → a ≡ b

-- Law. And they have one
abbrev pub HasSomeUvSync : Type 0
HasSomeUvSync = (file peer : List ℕ) → (s : UvSync) × IsUvSync file peer s

-- ---- what a file is left as

-- bytes stand for the old records, with those that were appended
abbrev pub StandsAs : Part → List Record → List ℕ → Type 0
StandsAs aside old c = IsFileOf c old
StandsAs kept old c = IsFileOf c old
StandsAs (takes more) old c = IsFileOf c (old ++ more)
StandsAs (cut more) old c = IsFileOf c old ⊎ IsFileOf c (old ++ more)

-- what a crash at any moment may leave: the old records, or these with the one commit that was begun
abbrev pub MayStandAs : Part → List Record → List ℕ → Type 0
MayStandAs aside old c = IsFileOf c old
MayStandAs kept old c = IsFileOf c old
MayStandAs (takes more) old c = IsFileOf c old ⊎ IsFileOf c (old ++ more)
MayStandAs (cut more) old c = IsFileOf c old ⊎ IsFileOf c (old ++ more)

-- what a crash after the run may leave: of a file that wasn't opened also what one before the run might have left
abbrev pub LastsAs : Part → DiskState → List Record → List ℕ → Type 0
LastsAs aside before old c = before.images c ⊎ IsFileOf c old
LastsAs part before old c = StandsAs part old c

-- what is left of a file with these bytes
pub record IsLeftAs (part : Part) (file : File) (bytes : List ℕ) : Type 0 where
  -- where it is told; of a disk that failed this is known by the disk model alone
  pub contents : (old : List Record) (held : List ℕ) → file.before.contents ≡ Some bytes → file.after.contents ≡ Some held → IsFileOf bytes old →
      (Rose file.before.faults file.after.faults → IsTrue file.before.is_model) → StandsAs part old held
  pub any_moment : IsModelled file.before → (old : List Record) → AreImagesOf old file.before.images →
      LeavesOnly file.before file.after (MayStandAs part old)
  pub durable : IsModelled file.before → file.before.contents ≡ Some bytes → (old : List Record) → IsFileOf bytes old →
      (c : List ℕ) → file.after.images c → LastsAs part file.before old c
  -- one that is no repository stays as it is, at each moment
  pub refused : file.before.contents ≡ Some bytes → IsNoRepository bytes → Quiet file.before file.after
  pub keeps : Keeps file.before file.after

-- ---- the answer

-- no call of a disk failed
abbrev pub IsSteady : File → Type 0
IsSteady file = file.after.faults ≡ file.before.faults

-- a commit was due, of some records, and failed
abbrev pub IsCut : Part → Part → Type 0
IsCut due part = (more : List Record) × (due ≡ takes more) × (more ≢ []) × (part ≡ cut more)

-- nothing is appended
abbrev pub IsBare : Part → Type 0
IsBare part = (part ≡ aside) ⊎ (part ≡ kept)

-- a call of this file's disk failed: when it was opened, or in its commit, which comes before that of the peer's
abbrev pub IsOwnFault : UvSync → Part → Part → Type 0
IsOwnFault s here there = ((here ≡ aside) × (there ≡ aside)) ⊎ (IsCut s.here here × (there ≡ kept))

-- a call of the peer's disk failed: when it was opened, or in its commit, behind that of this file
abbrev pub IsPeerFault : UvSync → Part → Part → Type 0
IsPeerFault s here there = ((here ≡ kept) × (there ≡ aside)) ⊎ ((here ≡ s.here) × IsCut s.there there)

-- there was no memory: before a commit, behind that of this file, or for the text behind both
abbrev pub IsShort : UvSync → Part → Part → Type 0
IsShort s here there = (IsBare here × IsBare there) ⊎ ((here ≡ s.here) × ((there ≡ kept) ⊎ (there ≡ s.there)))

-- what is told is the outcome, and both files are as it says; or a fault with its cause, and how far the sync came: the peer's file takes nothing in unless
-- this one has
abbrev pub IsAnswer : UvSync → File → File → Part → Part → (Printed → Type 0) → Type 0
IsAnswer s file peer here there Tells =
    ((here ≡ s.here) × (there ≡ s.there) × IsSteady file × IsSteady peer × Tells s.printed)
    ⊎ ((IsOwnFault s here there × Rose file.before.faults file.after.faults × IsSteady peer × Tells disk_fault)
    ⊎ ((IsPeerFault s here there × IsSteady file × Rose peer.before.faults peer.after.faults × Tells disk_fault)
    ⊎ (IsShort s here there × IsSteady file × IsSteady peer × Tells no_memory)))

-- ---- a run

-- the bytes stand for records that have this map
abbrev pub HoldsMap : List ℕ → List Record → List (List ℕ × Version) → Type 0
HoldsMap bytes records m = IsFileOf bytes records × IsUv records m

-- After a sync with status 0 that appends these records here and there both files stand for stores whose map is the merge of the two, as far as versions of a
-- path with one moment and one hash are the same
abbrev pub AreMerged : List ℕ → List ℕ → List Record → List Record → Type 0
AreMerged file peer more back =
    (old others : List Record) (u v : List (List ℕ × Version)) → HoldsMap file old u → HoldsMap peer others v → Agree u v →
    IsUv (old ++ more) (merge u v) × IsUv (others ++ back) (merge u v)

-- by one reading of both files and the one outcome of these
pub record MergesBy (file peer : File) (Tells : Printed → Type 0) (bytes others : List ℕ) (s : UvSync) (here there : Part) : Type 0 where
  -- what was read is what was told
  pub file_told : Agrees file.before.contents bytes
  pub peer_told : Agrees peer.before.contents others
  pub outcome : IsUvSync bytes others s
  pub answer : IsAnswer s file peer here there Tells
  pub here_left : IsLeftAs here file bytes
  pub there_left : IsLeftAs there peer others
  -- the peer's file isn't looked at unless this one was opened, which stands for records
  pub unasked : here ≡ aside → IsUntouched peer
  pub opened : here ≢ aside → (records : List Record) × IsFileOf bytes records
  pub merged : s.printed.status ≡ 0 → (more back : List Record) → here ≡ takes more → there ≡ takes back → AreMerged bytes others more back

abbrev pub HasMerged : File → File → (Printed → Type 0) → Type 0
HasMerged file peer Tells =
    (bytes others : List ℕ) × (s : UvSync) × (here there : Part) × MergesBy file peer Tells bytes others s here there

-- what is told was written
abbrev pub Merges : DiskState × DiskState → DiskState × DiskState → SinkState × SinkState → ℕ → Type 0
Merges file peer out status = HasMerged (file_of file) (file_of peer) (λ o. IsWritten o (output_of out) status)

-- what a command came to if it is such a sync, with whatever peer
abbrev pub MergesIf : Option Command → DiskState × DiskState → DiskState × DiskState → SinkState × SinkState → ℕ → Type 0
MergesIf command file peer out status = (path : List ℕ) → command ≡ Some (Unversioned (Sync path)) → Merges file peer out status
