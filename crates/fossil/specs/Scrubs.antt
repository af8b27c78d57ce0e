-- The outcome of a scrub, the new file of a repository without what is shunned, and what a run of it leaves.
use Rattle.std.specs.Prelude.{[], ◌≡◌, ◌⊎◌, ℕ, ◌==◌, if◌then◌else◌, Bool, true, List, ◌++◌, length, Option, Some, None, IsTrue, codes, decimal}
use Rattle.fsl_order.specs.Causes.{Rose}
use Rattle.fsl_outside.specs.Streams.{SinkState}
use Rattle.fsl_disk.specs.Disk.{DiskState, IsModelled, Told, Keeps, Quiet, LeavesOnly, Only}
use Rattle.fsl_record.specs.declared.Record.{Record}
use Rattle.fsl_journal.specs.File.{IsFileOf, FailsAt}
use Rattle.fsl_journal.specs.Log.{WhereEmpty}
use Rattle.fsl_blobs.specs.Fold.{contents}
use Rattle.fsl_repo.specs.Whole.{is_modelled}
use Rattle.fsl_query.specs.Answers.{IsSpoiltIn}
use Rattle.fsl_scrub.specs.Scrubbed.{AreContentsAs, AreWrittenAs, blobs_of, file_text, scrubbed, shuns_of}
use Rattle.fsl_scrub.specs.Closing.{UnopenedOr}
use Rattle.fsl_words.specs.declared.Command.{Command}
use Rattle.fsl_words.specs.declared.Command.TheVariants as command_of
use Rattle.fossil.specs.Printed.{Printed, refused, damaged, disk_fault, line_of, with_text, no_memory}
use Rattle.fossil.specs.Outcome.{printed_of, not_repository}
use Rattle.fossil.specs.Run.{File, Agrees, IsWritten, HoldsJust}
use Rattle.fossil.specs.Acts.{file_of, output_of}
use Rattle.fossil.specs.Synced.{IsUntouched}
use Rattle.fossil.specs.UvSyncs.{Part, aside, kept, IsBare, IsLeftAs, IsSteady}

-- ---- the outcome

-- what is printed, and the records of the repository of which a new file is written, if one is
pub record NewFile : Type 0 where
  pub printed : Printed
  pub of : Option (List Record)

-- how many artifacts and shunned names a new file has, and its length
abbrev pub counts : ℕ → ℕ → ℕ → Printed
counts blobs shuns len =
    with_text 0 (line_of (codes "blobs " ++ decimal blobs) ++ line_of (codes "shuns " ++ decimal shuns) ++ line_of (codes "length " ++ decimal len))

-- those of the new file of these records
abbrev pub counted : List Record → Printed
counted records = counts (length (blobs_of records)) (length (shuns_of records)) (length (file_text (scrubbed records)))

-- of the records of this file, by the length of the peer's: one with bytes is refused
abbrev pub scrub_of : List Record → ℕ → NewFile
scrub_of records len =
    if len == 0 then record { printed = counted records; of = Some records }
    else record { printed = refused (codes "file not empty " ++ decimal len); of = None }

-- of the bytes of both files, this one first
abbrev pub IsScrub : List ℕ → List ℕ → NewFile → Type 0
IsScrub file peer s =
    ((at : ℕ) × FailsAt file at × (s ≡ record { printed = printed_of (not_repository at); of = None }))
    ⊎ ((records : List Record) × IsFileOf file records × (s ≡ scrub_of records (length peer)))

-- Law. Two files have one outcome of a scrub at most
abbrev pub HasOneScrub : Type 0
HasOneScrub = (file peer : List ℕ) (a b : NewFile) → IsScrub file peer a → IsScrub file peer b → a ≡ b

-- Law. And they have one
abbrev pub HasSomeScrub : Type 0
HasSomeScrub = (file peer : List ℕ) → (s : NewFile) × IsScrub file peer s

-- ---- what the peer's file is left as

-- bytes stand for no records, or for these
abbrev pub StandsForNoneOr : List Record → List ℕ → Type 0
StandsForNoneOr records c = ((others : List Record) → ¬ (IsFileOf c others)) ⊎ IsFileOf c records

-- a new file of these records, as they are written, behind a scrub that may be done
pub record IsNewFile (honest : Bool) (records : List Record) (peer : File) (done : Bool) (written : List Record) : Type 0 where
  -- their scrubbed records, with contents as they were read: over an honest disk, which tells its contents and meets the disk model, these themselves
  pub as_read : AreWrittenAs honest (scrubbed records) written
  pub exact : honest ≡ true → written ≡ scrubbed records
  -- and they leave what the records leave: the Config, the held artifacts with their privacy and their receipts, and the shunned names
  pub leaves : AreContentsAs honest (contents records) (contents written)
  -- where it is done the file is exactly theirs, and so is each image, so that no byte is left of what is shunned
  pub contents : IsTrue done → Told peer.before (λ _. peer.after.contents ≡ Some (file_text written))
  pub stands : IsTrue done → IsFileOf (file_text written) written
  pub durable : IsTrue done → IsModelled peer.before → Only (file_text written) peer.after.images
  -- where each image was empty at the start, at each moment each is no repository yet or the whole new file
  pub any_moment : WhereEmpty peer.before (LeavesOnly peer.before peer.after (UnopenedOr written))
  pub images : (c : List ℕ) → UnopenedOr written c → StandsForNoneOr written c

-- a peer's file into which nothing is to be written stays as it is, at each moment
abbrev pub IsPeerLeft : Bool → Option (List Record) → File → Bool → Type 0
IsPeerLeft honest None peer done = Quiet peer.before peer.after
IsPeerLeft honest (Some records) peer done = (written : List Record) × IsNewFile honest records peer done written

-- ---- the answer

-- a call of one disk failed: of this file's, when it was opened or a content was read of it; or of the peer's, when its length was read, with which nothing of it
-- changed, or the new file was written. A content is read, and the file is written, where the peer's file has no bytes
abbrev pub HasFailed : File → File → List ℕ → Part → Type 0
HasFailed file peer others here =
    (Rose file.before.faults file.after.faults × IsSteady peer × ((here ≡ aside) ⊎ (others ≡ [])))
    ⊎ (Rose peer.before.faults peer.after.faults × IsSteady file × (here ≡ kept) × (Quiet peer.before peer.after ⊎ (others ≡ [])))

-- bytes that were read for a held artifact have another name than its own, which is never so over an honest disk; the peer's file has no bytes
abbrev pub IsDamaged : File → List ℕ → List ℕ → List ℕ → List ℕ → Type 0
IsDamaged file bytes others name found =
    ((records : List Record) × IsFileOf bytes records × IsSpoiltIn (is_modelled file.before) (contents records) name found) × (others ≡ [])

-- what is told is the outcome, and the scrub is done; or a fault with its cause
abbrev pub IsAnswer : NewFile → File → File → List ℕ → List ℕ → Part → Bool → (Printed → Type 0) → Type 0
IsAnswer s file peer bytes others here done Tells =
    (IsTrue done × IsSteady file × IsSteady peer × Tells s.printed)
    ⊎ ((HasFailed file peer others here × Tells disk_fault)
    ⊎ (((name found : List ℕ) × IsDamaged file bytes others name found × IsSteady file × IsSteady peer × Tells (damaged name found))
    ⊎ (IsSteady file × IsSteady peer × Tells no_memory)))

-- ---- a run

-- by one reading of both files and the one outcome of these
pub record ScrubsBy (file peer : File) (Tells : Printed → Type 0) (bytes others : List ℕ) (s : NewFile) (here : Part) (done : Bool) : Type 0 where
  -- what was read is what was told
  pub file_told : Agrees file.before.contents bytes
  pub peer_told : Agrees peer.before.contents others
  pub outcome : IsScrub bytes others s
  pub answer : IsAnswer s file peer bytes others here done Tells
  -- nothing is appended to the file of the repository: it stands for what it stood for, at each moment
  pub bare : IsBare here
  pub here_left : IsLeftAs here file bytes
  -- and where it was opened, it holds the bytes of its records alone
  pub trimmed : here ≡ kept → HoldsJust file.after
  pub peer_left : IsPeerLeft (is_modelled file.before) s.of peer done
  pub peer_keeps : Keeps peer.before peer.after
  -- the peer's file isn't looked at unless this one was opened, which is one of a repository
  pub unasked : here ≡ aside → IsUntouched peer
  pub opened : here ≡ kept → (records : List Record) × IsFileOf bytes records

abbrev pub HasScrubbed : File → File → (Printed → Type 0) → Type 0
HasScrubbed file peer Tells =
    (bytes others : List ℕ) × (s : NewFile) × (here : Part) × (done : Bool) × ScrubsBy file peer Tells bytes others s here done

-- what is told was written
abbrev pub Scrubs : DiskState × DiskState → DiskState × DiskState → SinkState × SinkState → ℕ → Type 0
Scrubs file peer out status = HasScrubbed (file_of file) (file_of peer) (λ o. IsWritten o (output_of out) status)

-- what a command came to if it is a scrub, into whatever peer
abbrev pub ScrubsIf : Option Command → DiskState × DiskState → DiskState × DiskState → SinkState × SinkState → ℕ → Type 0
ScrubsIf command file peer out status = (path : List ℕ) → command ≡ Some (command_of.Scrub path) → Scrubs file peer out status
