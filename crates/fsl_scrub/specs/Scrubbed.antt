-- The records of a repository without what is shunned, and their file.
use Rattle.std.specs.Prelude.{◌≡◌, ◌<◌, ◌^◌, ℕ, List, [], ◌∷◌, ◌++◌, Bool, true, Option, Some, None, map, filter_map, length, option_map, option_to_list}
use Rattle.std.specs.List.{AllZip}
use Rattle.std.specs.FinMap as map_of
use Rattle.std.specs.FinSet as set
use Rattle.fsl_order.specs.Rows.{ascending}
use Rattle.fsl_name.specs.Name.{name_of}
use Rattle.fsl_record.specs.declared.Record.{Record}
use Rattle.fsl_record.specs.declared.Record.TheVariants as record_of
use Rattle.fsl_record.specs.Records.{AreRecords, records_bytes}
use Rattle.fsl_journal.specs.File.{IsFileOf, group_bytes, header, mark_2}
use Rattle.fsl_blobs.specs.Fold.{Contents, Held, contents, held_from}
use Rattle.fsl_blobs.specs.declared.Placed.{Placed}
use Rattle.fsl_cross.specs.declared.Item.{Item}
use Rattle.fsl_repo.specs.Machine.{AreItems}
use Rattle.fsl_scrub.specs.declared.scrubbing.Scrubbed.{Scrubbed}

-- the Blob of a held name, with its present privacy and its receipt
abbrev pub blob_of : Contents → List ℕ → Option Record
blob_of c name = option_map (λ a. record_of.Blob a.private name (map_of.get c.receipts name) a.bytes) (map_of.get c.held name)

-- a Blob for each held artifact, by the place of the record that added it
abbrev pub blobs_of : List Record → List Record
blobs_of records = filter_map (λ p. blob_of (contents records) p.1) (held_from records 0)

-- a Shun for each shunned name, ascending
abbrev pub shuns_of : List Record → List Record
shuns_of records = map record_of.Shun (ascending (set.items (contents records).shunned))

-- the Config, the held artifacts and the shunned names, and nothing of what is gone
abbrev pub scrubbed : List Record → List Record
scrubbed records = option_to_list (option_map record_of.Config (contents records).config) ++ blobs_of records ++ shuns_of records

-- the Config, the Blobs of these names and the Shuns of those
abbrev pub group_of : Contents → List Placed → List (List ℕ) → List Record
group_of c names shuns = option_to_list (option_map record_of.Config c.config) ++ filter_map (λ p. blob_of c p.name) names ++ map record_of.Shun shuns

-- what stands behind the first gate while the length of the group isn't known: a place for it, the records and a closed gate
abbrev pub unsized : List Record → List ℕ
unsized records = (0 ∷ 0 ∷ 0 ∷ 0 ∷ 0 ∷ 0 ∷ 0 ∷ 0 ∷ []) ++ records_bytes records ++ 0x43 ∷ []

-- the text of a file of version 2 with these records in one group
abbrev pub file_text : List Record → List ℕ
file_text records = header mark_2 ++ group_bytes records ++ 0x43 ∷ []

-- how many artifacts and shunned names a new file has, and its length
pub record IsScrubbed (records : List Record) (s : Scrubbed) : Type 0 where
  pub blobs : s.blobs ≡ length (held_from records 0)
  pub shuns : s.shuns ≡ length (shuns_of records)
  pub len : s.len ≡ length (file_text (scrubbed records))

-- ---- records as they are written

-- a content as it was read: over a disk that tells its contents and meets the disk model it is the content; over every other disk it has its name and its size
pub record IsReadAs (honest : Bool) (content text : List ℕ) : Type 0 where
  pub named : name_of text ≡ name_of content
  pub sized : length text ≡ length content
  pub same : honest ≡ true → text ≡ content

-- a record as it is written: a Blob with its content as it was read, and every other record as it is
abbrev pub IsWrittenAs : Bool → Record → Record → Type 0
IsWrittenAs honest (record_of.Blob private name receipt bytes) written =
    (text : List ℕ) × (written ≡ record_of.Blob private name receipt text) × IsReadAs honest bytes text
IsWrittenAs honest due written = written ≡ due

abbrev pub AreWrittenAs : Bool → List Record → List Record → Type 0
AreWrittenAs honest due written = AllZip (IsWrittenAs honest) due written

-- a held artifact with its content as it was read
abbrev pub IsHeldAs : Bool → Option Held → Option Held → Type 0
IsHeldAs honest None held = held ≡ None
IsHeldAs honest (Some a) held = (text : List ℕ) × (held ≡ Some (record a { bytes = text })) × IsReadAs honest a.bytes text

-- what such records leave: the same, but for the contents
pub record AreContentsAs (honest : Bool) (due written : Contents) : Type 0 where
  pub config : written.config ≡ due.config
  pub held : (name : List ℕ) → IsHeldAs honest (map_of.get due.held name) (map_of.get written.held name)
  pub receipts : written.receipts ≡ due.receipts
  pub shunned : written.shunned ≡ due.shunned

-- ---- laws

-- scrubbed records leave what the records leave: the Config, the held artifacts with their privacy and their receipts, and the shunned names
abbrev pub FoldsAlike : Type 0
FoldsAlike = (records : List Record) → contents (scrubbed records) ≡ contents records

-- they are the records of a repository
abbrev pub ScrubbedAreRecords : Type 0
ScrubbedAreRecords = (records : List Record) → AreRecords records → AreRecords (scrubbed records)

-- each held artifact has its Blob among them
abbrev pub HeldHaveBlobs : Type 0
HeldHaveBlobs = (records : List Record) → length (blobs_of records) ≡ length (held_from records 0)

-- whatever their file is read as, it leaves what the records left, and so the same items of the tables
abbrev pub LoadsAlike : Type 0
LoadsAlike =
    (records loaded : List Record) → AreRecords records → length (file_text (scrubbed records)) < 2 ^ 64 → IsFileOf (file_text (scrubbed records)) loaded
    → (contents loaded ≡ contents records) × ((items others : List Item) → AreItems (contents records).held items → AreItems (contents loaded).held others → others ≡ items)

-- over a disk that tells its contents and meets the disk model records are written as they are
abbrev pub HonestIsSame : Type 0
HonestIsSame = (due written : List Record) → AreWrittenAs true due written → written ≡ due

-- records as they are written are those of a repository too
abbrev pub WrittenAreRecords : Type 0
WrittenAreRecords = (honest : Bool) (due written : List Record) → AreRecords due → AreWrittenAs honest due written → AreRecords written

-- and they leave what the records left, with contents as they were read
abbrev pub WrittenFoldsAlike : Type 0
WrittenFoldsAlike = (honest : Bool) (records written : List Record) → AreWrittenAs honest (scrubbed records) written → AreContentsAs honest (contents records) (contents written)
