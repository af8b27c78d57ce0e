-- How the bytes behind the letter of a Blob with a receipt fail to be its parts: whether it is private, the name, the moment, the
-- login behind its length, and the content behind its length. The first part that doesn't read counts.
use Rattle.std.specs.Prelude.{◌≡◌, ◌≢◌, ℕ, ◌^◌, ◌≤◌, ◌<◌, List, [], ◌∷◌, ◌++◌, length, Bool, if◌then◌else◌, ◌⊎◌}
use Rattle.std.specs.Int.{to_be_bytes, w32, w64}
use Rattle.fsl_text.specs.Limits.{most_of_artifact}
use Rattle.fsl_name.specs.Name.{name_of}
use Rattle.fsl_record.specs.Receipts.{Brought, most_of_login, last_moment, receipt_bytes, IsReceipt}
use Rattle.fsl_record.specs.declared.RecordFault.{RecordFault}
use Rattle.fsl_record.specs.declared.RecordFault.TheVariants as record_fault

-- a part fails so; or it reads as something, and what stands behind it fails so
abbrev pub FailsIn : {X : Type 0} → (RecordFault → Type 0) → (X → List ℕ → Type 0) → (X → List ℕ → RecordFault → Type 0) → RecordFault → Type 0
FailsIn {X} Fails Reads Behind fault = Fails fault ⊎ ((read : X) × (rest : List ℕ) × Reads read rest × Behind read rest fault)

-- whether a blob is private, as its byte says
pub record IsPrivateRead (bytes : List ℕ) (private : Bool) (rest : List ℕ) : Type 0 where
  pub layout : bytes ≡ (if private then 1 else 0) ∷ rest

-- there is no such byte, or it is another
abbrev pub PrivateFails : List ℕ → RecordFault → Type 0
PrivateFails bytes record_fault.Short = bytes ≡ []
PrivateFails bytes (record_fault.Kind found) = (rest : List ℕ) × (bytes ≡ found ∷ rest) × (1 < found)
PrivateFails bytes _ = ⊥

-- so many bytes at the front, or fewer than these
pub record IsPieceRead (size : ℕ) (bytes piece rest : List ℕ) : Type 0 where
  pub layout : bytes ≡ piece ++ rest
  pub sized : length piece ≡ size

abbrev pub PieceFails : ℕ → List ℕ → RecordFault → Type 0
PieceFails size bytes fault = (fault ≡ record_fault.Short) × (length bytes < size)

-- a number of 8 bytes at the front, up to a greatest one; or fewer bytes, or a greater number
pub record IsNumberRead (most : ℕ) (bytes : List ℕ) (number : ℕ) (rest : List ℕ) : Type 0 where
  pub layout : bytes ≡ to_be_bytes w64 number ++ rest
  pub few : number ≤ most
  pub fits : number < 2 ^ 64

abbrev pub NumberFails : ℕ → List ℕ → RecordFault → Type 0
NumberFails most bytes fault =
    ((fault ≡ record_fault.Short) × (length bytes < 8))
    ⊎ ((found : ℕ) × (rest : List ℕ) × (fault ≡ record_fault.Length found) × (bytes ≡ to_be_bytes w64 found ++ rest) × (most < found) × (found < 2 ^ 64))

-- the length of a login, in 4 bytes
pub record IsLoginLengthRead (bytes : List ℕ) (size : ℕ) (rest : List ℕ) : Type 0 where
  pub layout : bytes ≡ to_be_bytes w32 size ++ rest
  pub few : size ≤ most_of_login

abbrev pub LoginLengthFails : List ℕ → RecordFault → Type 0
LoginLengthFails bytes fault =
    ((fault ≡ record_fault.Short) × (length bytes < 4))
    ⊎ ((found : ℕ) × (rest : List ℕ) × (fault ≡ record_fault.Length found) × (bytes ≡ to_be_bytes w32 found ++ rest) × (most_of_login < found) × (found < 2 ^ 32))

-- the content has another name
abbrev pub NameFails : List ℕ → List ℕ → RecordFault → Type 0
NameFails name content fault = (fault ≡ record_fault.NameWrong name (name_of content)) × (name ≢ name_of content)

-- a length and as many bytes, which have this name
abbrev pub ContentFails : List ℕ → List ℕ → RecordFault → Type 0
ContentFails name bytes =
    FailsIn (NumberFails most_of_artifact bytes) (IsNumberRead most_of_artifact bytes) (λ size behind.
    FailsIn (PieceFails size behind) (IsPieceRead size behind) (λ content _. NameFails name content))

pub record IsContentRead (name bytes content rest : List ℕ) : Type 0 where
  pub layout : bytes ≡ to_be_bytes w64 (length content) ++ content ++ rest
  pub few : length content ≤ most_of_artifact
  pub named : name ≡ name_of content

-- a moment, and a login behind its length
abbrev pub ReceiptFails : List ℕ → RecordFault → Type 0
ReceiptFails bytes =
    FailsIn (NumberFails last_moment bytes) (IsNumberRead last_moment bytes) (λ _ behind.
    FailsIn (LoginLengthFails behind) (IsLoginLengthRead behind) (λ size login. PieceFails size login))

pub record IsReceiptRead (bytes : List ℕ) (receipt : Brought) (rest : List ℕ) : Type 0 where
  pub layout : bytes ≡ receipt_bytes receipt ++ rest
  pub fit : IsReceipt receipt

-- the parts behind the letter
abbrev pub BroughtFails : List ℕ → RecordFault → Type 0
BroughtFails bytes =
    FailsIn (PrivateFails bytes) (IsPrivateRead bytes) (λ _ named.
    FailsIn (PieceFails 20 named) (IsPieceRead 20 named) (λ name stamped.
    FailsIn (ReceiptFails stamped) (IsReceiptRead stamped) (λ _ behind. ContentFails name behind)))
