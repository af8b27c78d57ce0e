-- What the parts of `checkin` say of what they did.
use Rattle.std.specs.Prelude.{[], ◌≡◌, ◌≢◌, ℕ, IsTrue, List, Option, Some, Ok}
use Rattle.std.specs.List.{list_all}
use Rattle.fsl_order.specs.Rows.{rises}
use Rattle.fsl_text.specs.Paths.{path_ok}
use Rattle.fsl_outside.specs.Streams.{SourceState}
use Rattle.fsl_record.specs.Receipts.{Brought}
use Rattle.fsl_disk.specs.Disk.{DiskState}
use Rattle.fsl_repo.specs.Machine.{now}
use Rattle.fsl_repo.specs.Whole.{Whole}
use Rattle.fsl_words.specs.declared.Command.{Command}
use Rattle.fsl_words.specs.declared.Command.TheVariants as command_of
use Rattle.fsl_checkin.specs.declared.types.TreeItem.{TreeItem}
use Rattle.fsl_checkin.specs.Trees.{IsTreeText, paths}
use Rattle.fossil.specs.declared.commands.checkin.NewCheckin.{NewCheckin}
use Rattle.fossil.specs.declared.commands.checkin.Arriving.{Arriving}
use Rattle.fsl_name.specs.Name.{name_of}
use Rattle.fossil.specs.Due.{Due}
use Rattle.fossil.specs.Checkins.{arrivals_of, checkin_text, parent_of}
use Rattle.fossil.specs.Acts.{input_of, loaded_of, IsInput, IsOpened, Acts}
use Rattle.fossil.specs.Taking.{IsPutReceipt}
use Rattle.fossil.specs.RunCall.{Moments, states}

-- the command
abbrev pub asked_for : NewCheckin → Command
asked_for a = command_of.Checkin a.parent a.user a.comment

-- a check-in of these can be written: user and comment have a byte, and the paths are good and rise
pub record IsToWrite (a : NewCheckin) (t : List TreeItem) : Type 0 where
  pub user : a.user ≢ []
  pub comment : a.comment ≢ []
  pub good : IsTrue (list_all path_ok (paths t))
  pub rising : IsTrue (rises (paths t))

-- what arrives of a tree that is checked in over this parent at this moment
pub record AreArriving (a : NewCheckin) (t : List TreeItem) (over : Option (List ℕ)) (moment : ℕ) (made : Arriving) : Type 0 where
  pub files : made.files ≡ arrivals_of t (checkin_text t over a.user a.comment moment)
  pub name : made.name ≡ name_of (checkin_text t over a.user a.comment moment)

-- the parent that is asked for, of an opened repository
abbrev pub IsParent : {D : Type 0} → NewCheckin → Whole D → Option (List ℕ) → Type 0
IsParent a repo over = parent_of (now repo.seen.state) repo.seen.items a.parent ≡ Ok over

-- what `checkin` did with a tree behind the moment of this receipt, over a parent
abbrev pub ChecksWith : {D : Type 0} → NewCheckin → Brought → List TreeItem → Option (List ℕ) → (D → DiskState) × Whole D × Whole D → Due → Type 0
ChecksWith a receipt t over repo result =
    (text : List ℕ) (clock : Moments × Moments) → IsTreeText text t → IsParent a repo.1 over → IsPutReceipt clock.0 clock.1 receipt →
    (disk : _) (input : SourceState × SourceState) → IsInput (input_of input) (Some text)
    → IsOpened (repo.0 disk) (repo.0 repo.1.disk) (loaded_of repo.1) → Acts (asked_for a) input clock (repo.0 disk, repo.0 repo.2.disk) result

-- with a text over a repository that was opened, of whatever input and file these are
abbrev pub ChecksText : {C D : Type 0} → NewCheckin → List ℕ → (C → Moments) × C × C → (D → DiskState) × Whole D × Whole D → Due → Type 0
ChecksText a text clock repo result =
    (disk : _) (input : SourceState × SourceState) → IsInput (input_of input) (Some text)
    → IsOpened (repo.0 disk) (repo.0 repo.1.disk) (loaded_of repo.1) → Acts (asked_for a) input (states clock) (repo.0 disk, repo.0 repo.2.disk) result

-- with its tree
abbrev pub ChecksTree : {C D : Type 0} → NewCheckin → List TreeItem → (C → Moments) × C × C → (D → DiskState) × Whole D × Whole D → Due → Type 0
ChecksTree a t clock repo result = (text : List ℕ) → IsTreeText text t → ChecksText a text clock repo result

-- and over this parent
abbrev pub ChecksOver : {C D : Type 0} → NewCheckin → List TreeItem → Option (List ℕ) → (C → Moments) × C × C → (D → DiskState) × Whole D × Whole D → Due → Type 0
ChecksOver a t over clock repo result = IsParent a repo.1 over → ChecksTree a t clock repo result

-- with an input, which is read here
abbrev pub ChecksInput : {S C D : Type 0} → NewCheckin → (S → SourceState) × S × S → (C → Moments) × C × C → (D → DiskState) × Whole D × Whole D → Due → Type 0
ChecksInput a input clock repo result =
    (disk : _) → IsOpened (repo.0 disk) (repo.0 repo.1.disk) (loaded_of repo.1)
    → Acts (asked_for a) (states input) (states clock) (repo.0 disk, repo.0 repo.2.disk) result
