-- What the parts of a reader answer.
use Rattle.std.specs.Prelude.{◌≡◌, ◌≢◌, ◌⊎◌, ◌<◌, ◌≤◌, ◌+◌, ◌^◌, ℕ, Bool, Option, None, Some, List, [], ◌∷◌, ◌++◌, map, length, take, drop, flat_map, slice_index}
use Rattle.std.specs.List.{AllByRecursion}
use Rattle.fsl_disk.specs.Disk.{DiskState, Told}
use Rattle.fsl_order.specs.Causes.{Rose}
use Rattle.fsl_record.specs.declared.Record.{Record}
use Rattle.fsl_record.specs.declared.RecordFault.{RecordFault}
use Rattle.fsl_record.specs.Groups.{IsGroupOf, IsGroupFault}
use Rattle.fsl_record.specs.Records.{records_bytes}
use Rattle.fsl_journal.specs.Commit.{eight}
use Rattle.fsl_journal.specs.File.{header, version_of, open_gate, IsGroup, AreRecordsOf, FailsAt}
use Rattle.fsl_journal.specs.Journal.{OfBytes}
use Rattle.fsl_journal.specs.Log.{Log, IsLog}
use Rattle.fsl_journal.specs.Places.{content_places, group_places, ArePlaced, IsPlacedFile}
use Rattle.fsl_journal.specs.declared.found.Found.{Found}
use Rattle.fsl_journal.specs.declared.window.Window.{Window}
use Rattle.fsl_journal.specs.declared.LoadFault.{LoadFault}
use Rattle.fsl_journal.specs.declared.LoadFault.TheVariants.{Disk, NotRepository, Memory}

-- ---- what was found so far

abbrev pub records_of : Found → List Record
records_of found = map (λ s. s.value) found.records.items

abbrev pub places_of : Found → List ℕ
places_of found = map (λ s. s.value) found.places.items

-- the journal of what was found: each record is committed
abbrev pub resumed_log : Found → Log
resumed_log found = record { records = records_of found; places = places_of found; stable = length (records_of found); stopped = None; mark = found.mark; place = found.place }

-- nothing was read behind the header
pub record IsNothing (found : Found) : Type 0 where
  pub records : records_of found ≡ []
  pub places : places_of found ≡ []
  pub place : found.place ≡ 15

-- what was handed on is what was found
pub record HasTaken (found : Found) (taken : List Record) (starts : List ℕ) : Type 0 where
  pub records : taken ≡ records_of found
  pub places : starts ≡ places_of found

-- ---- bytes

-- what stands behind a group's gate
abbrev pub group_body : List Record → List ℕ
group_body records = eight (length (records_bytes records)) ++ records_bytes records

-- the header, and groups behind it
abbrev pub front : ℕ → List (List Record) → List ℕ
front mark groups = header mark ++ flat_map (λ records. open_gate ∷ group_body records) groups

-- a gate that isn't open, or the end; and an open one with the number of bytes of its records
abbrev pub IsGate : Option ℕ → List ℕ → Type 0
IsGate None rest = 0 < length rest → slice_index rest 0 ≢ open_gate
IsGate (Some size) rest = (body : List ℕ) × (rest ≡ open_gate ∷ eight size ++ body)

-- an open gate with no number behind it, or with one that leaves no byte behind so many in a file of this length
abbrev pub IsCutOff : List ℕ → ℕ → ℕ → Type 0
IsCutOff head at len = (behind : List ℕ) × (head ≡ open_gate ∷ behind) × ((length behind < 8) ⊎ ((size : ℕ) × (behind ≡ eight size) × (size < 2 ^ 64) × (len ≤ at + 9 + size)))

-- no group and a byte more stand there that go on with these records, and the place is this
pub record NoGroup (version at : ℕ) (records : List Record) (behind : List ℕ) (found : ℕ) : Type 0 where
  pub place : found ≡ at
  pub none : (group : List Record) (more : List ℕ) → IsGroup group → AreRecordsOf version (records ++ group) → 0 < length more → behind ≢ group_body group ++ more

-- the window is a part of these bytes, with their length; and it has so many bytes from this place on
pub record IsWindow (window : Window) (held : List ℕ) : Type 0 where
  pub long : length held ≡ window.len
  pub part : window.part ≡ take (length window.part) (drop window.from held)

pub record Covers (window : Window) (at size : ℕ) : Type 0 where
  pub behind : window.from ≤ at
  pub within : at + size ≤ window.from + length window.part

abbrev pub Holds : Window → DiskState → Type 0
Holds window disk = Told disk (IsWindow window)

-- ---- answers

-- what was read are the records behind the gate at this place, which have so many bytes
pub record IsBody (version : ℕ) (first : Bool) (at size : ℕ) (group : List Record) (disk : DiskState) : Type 0 where
  pub bytes : List ℕ
  pub is : IsGroupOf version first bytes group
  pub sized : length bytes ≡ size
  pub held : Told disk (λ held. bytes ≡ take size (drop (at + 9) held))

-- one group more was read: that of the gate
pub record IsGroupMore (size : ℕ) (old new : Found) (disk : DiskState) : Type 0 where
  pub group : List Record
  pub is : IsGroup group
  pub records : records_of new ≡ records_of old ++ group
  pub places : places_of new ≡ places_of old ++ content_places (old.place + 9) group
  pub read : AreRecordsOf (version_of new.mark) (records_of new)
  pub mark : new.mark ≡ old.mark
  pub long : size ≡ length (records_bytes group)
  pub place : new.place ≡ old.place + 9 + size
  pub held : Told disk (λ held. (more : List ℕ) × (drop old.place held ≡ open_gate ∷ group_body group ++ more) × (0 < length more))

-- these groups were read, from behind the header on; a gate stands behind each
pub record AreSoFar (groups : List (List Record)) (len : ℕ) (found : Found) (disk : DiskState) : Type 0 where
  pub begins : Told disk (λ held. (rest : List ℕ) × (held ≡ front found.mark groups ++ rest))
  pub whole : AllByRecursion IsGroup groups
  pub all : records_of found ≡ flat_map (λ group. group) groups
  pub read : (records_of found ≡ []) ⊎ AreRecordsOf (version_of found.mark) (records_of found)
  pub first : records_of found ≡ [] → groups ≡ []
  pub some : records_of found ≢ [] → found.place < len
  pub place : found.place ≡ length (front found.mark groups)
  pub inside : found.place ≤ len
  pub placed : ArePlaced (records_of found) (places_of found) (front found.mark groups)
  pub numbered : places_of found ≡ group_places 15 groups

-- and the gate behind them isn't open
abbrev pub AreAll : List (List Record) → ℕ → Found → DiskState → Type 0
AreAll groups len found disk = AreSoFar groups len found disk × Told disk (λ held. IsGate None (drop found.place held))

-- a file has what was found
pub record IsFound (found : Found) (file : List ℕ) : Type 0 where
  pub log : IsLog (records_of found) found.mark found.place file
  pub placed : ArePlaced (records_of found) (places_of found) (take found.place file)
  pub numbered : IsPlacedFile file (records_of found) (places_of found)
  pub inside : found.place < length file

-- ---- faults

abbrev pub ReadFailed : LoadFault → DiskState → DiskState → Type 0
ReadFailed Disk before after = Rose before.faults after.faults
ReadFailed (NotRepository at) before after = ⊥
ReadFailed Memory before after = after.faults ≡ before.faults

abbrev pub BodyFailed : ℕ → Bool → ℕ → ℕ → LoadFault → DiskState → DiskState → Type 0
BodyFailed version first at size Disk before after = Rose before.faults after.faults
BodyFailed version first at size (NotRepository found) before after =
    (after.faults ≡ before.faults) × (found ≡ at) × Told before (λ held. (fault : RecordFault) × IsGroupFault version first (take size (drop (at + 9) held)) fault)
BodyFailed version first at size Memory before after = after.faults ≡ before.faults

-- a gate is open, and no group that goes on with these records stands behind it
abbrev pub GroupFailed : ℕ → ℕ → List Record → LoadFault → DiskState → DiskState → Type 0
GroupFailed version at records Disk before after = Rose before.faults after.faults
GroupFailed version at records (NotRepository found) before after =
    (after.faults ≡ before.faults) × (found ≡ at) × Told before (λ held. (behind : List ℕ) × (drop at held ≡ open_gate ∷ behind) × NoGroup version at records behind at)
GroupFailed version at records Memory before after = after.faults ≡ before.faults

abbrev pub FileFailed : LoadFault → DiskState → DiskState → Type 0
FileFailed Disk before after = Rose before.faults after.faults
FileFailed (NotRepository at) before after = (after.faults ≡ before.faults) × OfBytes before (λ bytes. FailsAt bytes at)
FileFailed Memory before after = after.faults ≡ before.faults
