-- Where the contents of Blobs stand in the file.
use Rattle.std.specs.Prelude.{◌≡◌, ◌⊎◌, ℕ, ◌+◌, ◌-◌, ◌≤◌, List, [], ◌∷◌, ◌++◌, length, take, drop, ⊤}
use Rattle.fsl_record.specs.declared.Record.{Record}
use Rattle.fsl_record.specs.declared.Record.TheVariants as record_of
use Rattle.fsl_record.specs.Records.{record_bytes, records_bytes}
use Rattle.fsl_journal.specs.File.{IsFileOf}
use Rattle.fsl_journal.specs.Log.{Log, committed, uncommitted}

-- where the content of a Blob begins whose record begins at this place: its content is the end of its bytes; 0 for other records
abbrev pub content_place : ℕ → Record → ℕ
content_place start (record_of.Blob private name receipt bytes) = start + (length (record_bytes (record_of.Blob private name receipt bytes)) - length bytes)
content_place start _ = 0

-- the same of records that follow each other from this place on
abbrev pub content_places : ℕ → List Record → List ℕ
content_places start [] = []
content_places start (r ∷ records) = content_place start r ∷ content_places (start + length (record_bytes r)) records

-- the same of groups that follow each other from this place on: the records of each stand behind its gate and a length of 8 bytes
abbrev pub group_places : ℕ → List (List Record) → List ℕ
group_places start [] = []
group_places start (group ∷ groups) = content_places (start + 9) group ++ group_places (start + 9 + length (records_bytes group)) groups

-- the bytes stand for the records, and these are the places of the contents of their groups, which begin behind the header
abbrev pub IsPlacedFile : List ℕ → List Record → List ℕ → Type 0
IsPlacedFile bytes records places = (file : IsFileOf bytes records) × (places ≡ group_places 15 file.groups)

-- the record is a Blob with this content
abbrev pub IsContent : Record → List ℕ → Type 0
IsContent (record_of.Blob private name receipt bytes) content = bytes ≡ content
IsContent _ content = ⊥

-- one of these records is a Blob with this content, and this is its place among these
abbrev pub HasContent : List Record → List ℕ → ℕ → List ℕ → Type 0
HasContent (r ∷ records) (place ∷ places) at content = ((place ≡ at) × IsContent r content) ⊎ HasContent records places at content
HasContent _ _ at content = ⊥

-- as many places as records, and 0 for each that is no Blob
abbrev pub AreNumbered : List Record → List ℕ → Type 0
AreNumbered [] [] = ⊤
AreNumbered (record_of.Blob private name receipt bytes ∷ records) (place ∷ places) = AreNumbered records places
AreNumbered (r ∷ records) (place ∷ places) = (place ≡ 0) × AreNumbered records places
AreNumbered _ _ = ⊥

-- the content begins at this place of the bytes
pub record StandsAt (at : ℕ) (content bytes : List ℕ) : Type 0 where
  pub inside : at + length content ≤ length bytes
  pub same : take (length content) (drop at bytes) ≡ content

-- each record has its place, and each content stands there in these bytes, behind the header
pub record ArePlaced (records : List Record) (places : List ℕ) (bytes : List ℕ) : Type 0 where
  pub numbered : AreNumbered records places
  pub stand : (at : ℕ) (content : List ℕ) → HasContent records places at content → StandsAt at content bytes × (15 ≤ at)

-- a journal's appended content, one that is committed, and one that isn't
abbrev pub IsAppended : Log → ℕ → List ℕ → Type 0
IsAppended log at content = HasContent log.records log.places at content

abbrev pub IsCommitted : Log → ℕ → List ℕ → Type 0
IsCommitted log at content = HasContent (committed log) (take log.stable log.places) at content

abbrev pub IsPending : Log → ℕ → List ℕ → Type 0
IsPending log at content = HasContent (uncommitted log) (drop log.stable log.places) at content

-- a content of this size is appended with this place; a text is each such content, and each that isn't committed
abbrev pub HasAppended : Log → ℕ → ℕ → Type 0
HasAppended log at size = (content : List ℕ) × IsAppended log at content × (length content ≡ size)

abbrev pub IsAppendedText : Log → ℕ → ℕ → List ℕ → Type 0
IsAppendedText log at size text = (content : List ℕ) → IsAppended log at content → length content ≡ size → text ≡ content

abbrev pub IsPendingText : Log → ℕ → ℕ → List ℕ → Type 0
IsPendingText log at size text = (content : List ℕ) → IsPending log at content → length content ≡ size → text ≡ content

-- a content of this size that isn't committed is appended with this place
abbrev pub HasPending : Log → ℕ → ℕ → Type 0
HasPending log at size = (content : List ℕ) × IsPending log at content × (length content ≡ size)

-- a journal with one record more, and without its last one
abbrev pub with_record : Log → Record → ℕ → Log
with_record log entry at = record log { records = log.records ++ entry ∷ []; places = log.places ++ at ∷ [] }

abbrev pub without_last : Log → Log
without_last log = record log { records = take (length log.records - 1) log.records; places = take (length log.records - 1) log.places }

-- the place of the next record's content: behind the closed gate a commit writes a length of 8 bytes and then the records that aren't committed
abbrev pub next_place : Log → Record → ℕ
next_place log entry = content_place (log.place + 9 + length (records_bytes (uncommitted log))) entry
