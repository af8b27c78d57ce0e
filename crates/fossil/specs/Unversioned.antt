-- What the commands of unversioned files print and store, by their words and the records of the file, and when they take a moment.
use Rattle.std.specs.Prelude.{◌≡◌, ◌≢◌, ◌⊎◌, ℕ, false, nat_lt, List, [], length, is_some, IsTrue, ⊤}
use Rattle.fsl_text.specs.Limits.{most_of_message}
use Rattle.fsl_order.specs.Maps.{value_at}
use Rattle.fsl_record.specs.declared.Record.{Record}
use Rattle.fsl_record.specs.Records.{AreFields}
use Rattle.fsl_journal.specs.File.{IsFileOf, FailsAt}
use Rattle.fsl_uv.specs.Entries.{Version, is_path}
use Rattle.fsl_uv.specs.Stores.{IsUv, IsNoEntry}
use Rattle.fsl_uv.specs.Reports as report
use Rattle.fsl_uv.specs.Reports.{Said, Done, says, file_in, not_unversioned}
use Rattle.fsl_words.specs.declared.Unversioned.{Unversioned}
use Rattle.fsl_words.specs.declared.Unversioned.TheVariants.{Init, Add, Remove, List as Listing, Cat, Sync}
use Rattle.fossil.specs.Printed.{Printed}
use Rattle.fossil.specs.Printed as printing

-- what is printed of what a command says
abbrev pub said_printed : Said → Printed
said_printed (report.printed text) = record { status = 0; text = text }
said_printed (report.refused text) = printing.refused text

-- of the records of a file: the first Blob that is no entry, or what is done by their map
abbrev pub IsUvDone : (List (List ℕ × Version) → Done) → List Record → Done → Type 0
IsUvDone does records d =
    ((name : List ℕ) × IsNoEntry records name × (d ≡ says (not_unversioned name))) ⊎ ((m : List (List ℕ × Version)) × IsUv records m × (d ≡ does m))

-- bytes stand for records of this map
abbrev pub IsStoreOf : List ℕ → List (List ℕ × Version) → Type 0
IsStoreOf bytes m = (records : List Record) × IsFileOf bytes records × IsUv records m

-- `uv-add` takes a moment where its file is a store and its input isn't too long, `uv-remove` where the path is in the store and isn't deleted
abbrev pub TakesUvMoment : Unversioned → List ℕ → List ℕ → Type 0
TakesUvMoment (Init project server) read bytes = ⊥
TakesUvMoment (Add path) read bytes = ((m : List (List ℕ × Version)) × IsStoreOf bytes m) × (nat_lt most_of_message (length read) ≡ false)
TakesUvMoment (Remove path) read bytes = (m : List (List ℕ × Version)) × IsStoreOf bytes m × IsTrue (is_some (file_in (value_at m path)))
TakesUvMoment Listing read bytes = ⊥
TakesUvMoment (Cat path) read bytes = ⊥
TakesUvMoment (Sync peer) read bytes = ⊥

-- `uv-init` refuses a file with bytes, each other command one that stands for no records
abbrev pub IsUvRefused : Unversioned → List ℕ → Type 0
IsUvRefused (Init project server) bytes = bytes ≢ []
IsUvRefused (Add path) bytes = (at : ℕ) × FailsAt bytes at
IsUvRefused (Remove path) bytes = (at : ℕ) × FailsAt bytes at
IsUvRefused Listing bytes = (at : ℕ) × FailsAt bytes at
IsUvRefused (Cat path) bytes = (at : ℕ) × FailsAt bytes at
IsUvRefused (Sync peer) bytes = (at : ℕ) × FailsAt bytes at

-- a path that is put in is one that an entry may have
abbrev pub IsUvObeyable : Unversioned → Type 0
IsUvObeyable (Init project server) = AreFields []
IsUvObeyable (Add path) = IsTrue (is_path path)
IsUvObeyable (Remove path) = IsTrue (is_path path)
IsUvObeyable Listing = ⊤
IsUvObeyable (Cat path) = ⊤
IsUvObeyable (Sync peer) = ⊤
