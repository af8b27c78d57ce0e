-- What the code says of the files that it reads.
use Rattle.std.specs.Prelude.{◌≡◌, ℕ, ◌⊎◌, ◌≤◌, ◌^◌, IsTrue, List, [], ◌∷◌, ◌++◌, length, map, Option, Some, None, option_to_list, IfSome}
use Rattle.fsl_name.specs.Name.{name_of}
use Rattle.fsl_order.specs.Names.{has}
use Rattle.fsl_blobs.specs.declared.BlobFault.{BlobFault}
use Rattle.fsl_blobs.specs.declared.BlobFault.TheVariants as blob_fault
use Rattle.fsl_wire.specs.Writing.{message_bytes}
use Rattle.fsl_repo.specs.Machine.{State, now}
use Rattle.fsl_pull.specs.declared.Login.{Login}
use Rattle.fsl_pull.specs.declared.PullFault.{PullFault}
use Rattle.fsl_pull.specs.declared.PullFault.TheVariants as fault
use Rattle.fsl_pull.specs.Reading.{CantRead}
use Rattle.fsl_pull.specs.Requests.{request_bytes, push_cards, file_card}
use Rattle.fsl_pull.specs.Pushes.{AreRead, is_public}

-- the file of a name, where there is one
abbrev pub file_if : List ℕ → Option (List ℕ) → Option (List ℕ × List ℕ)
file_if name None = None
file_if name (Some bytes) = Some (name, bytes)

-- bytes that fit a name: they are an artifact of it
pub record IsGiven (name bytes : List ℕ) : Type 0 where
  pub named : name ≡ name_of bytes
  pub small : length bytes ≤ 2 ^ 24

-- the file of a name as it is read, where it is held public
pub record IsPublicRead (s : State) (name : List ℕ) (o : Option (List ℕ)) : Type 0 where
  pub read : AreRead s (name ∷ []) (option_to_list (file_if name o))
  pub fits : IfSome o (IsGiven name)

-- a fault of a content as one of a sync
abbrev pub read_fault : List ℕ → BlobFault → PullFault
read_fault name blob_fault.Disk = fault.Disk
read_fault name (blob_fault.Damaged found) = fault.Damaged name found
read_fault name _ = fault.Memory

-- the file of a name isn't read: there was no memory, and nothing changes; or it is held public, and can't be read
abbrev pub FileFails : PullFault → State → List ℕ → State → Type 0
FileFails why s name left = ((why ≡ fault.Memory) × (left ≡ s)) ⊎ (IsTrue (is_public (now s) name) × CantRead why s name left)

-- the same of one of some names
abbrev pub FilesFail : PullFault → State → List (List ℕ) → State → Type 0
FilesFail why s names left =
    ((why ≡ fault.Memory) × (left ≡ s)) ⊎ ((name : List ℕ) × IsTrue (has names name) × CantRead why s name left)

-- the cards of the files were put behind some bytes
abbrev pub ArePut : State → List (List ℕ) → List ℕ → List ℕ → Type 0
ArePut s names old new = (files : List (List ℕ × List ℕ)) × AreRead s names files × (new ≡ old ++ message_bytes (map file_card files))

-- the request of a push that announces these names and sends the files of those
abbrev pub IsPushed : Option Login → State → List (List ℕ) → List (List ℕ) → List ℕ → Type 0
IsPushed login s names due text =
    (files : List (List ℕ × List ℕ)) × AreRead s due files × (text ≡ request_bytes login (push_cards (now s) names files))
