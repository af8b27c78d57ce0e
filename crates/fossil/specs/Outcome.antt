-- The outcome of a run: the status, the text, and the commits that the command appends to the file.
use Rattle.std.specs.Prelude.{◌≡◌, ℕ, Bool, true, false, ◌==◌, ◌||◌, ◌⊎◌, List, [], ◌∷◌, ◌++◌, length, map, not, Option, Some, None, is_some, option_map, IsTrue, Result, Ok, Err, if◌then◌else◌, codes, decimal}
use Rattle.std.specs.Option.{option_map_or}
use Rattle.fsl_name.specs.Name.{name_of}
use Rattle.fsl_record.specs.declared.Record.{Record}
use Rattle.fsl_record.specs.declared.Record.TheVariants as record_of
use Rattle.fsl_journal.specs.File.{IsFileOf, FailsAt}
use Rattle.fsl_blobs.specs.Fold.{contents}
use Rattle.fsl_words.specs.declared.Question.{Question}
use Rattle.fsl_words.specs.declared.Command.{Command}
use Rattle.fsl_words.specs.declared.Command.TheVariants.{Init, Ingest, Put, Shun, Unshun, Ask, Serve, Gen, Pull, Push, Clone, PullLocal, Checkin, Export, Verify, Scrub, Unversioned}
use Rattle.fsl_words.specs.declared.Unversioned as asked_type
use Rattle.fsl_words.specs.declared.Unversioned.TheVariants as uv
use Rattle.fsl_words.specs.Grammar.{words_in}
use Rattle.fsl_query.specs.declared.Refused.{Refused}
use Rattle.fsl_query.specs.Refusals.{refusal_text}
use Rattle.fsl_query.specs.Reports.{IsReport}
use Rattle.fsl_query.specs.Answers.{prefix_of}
use Rattle.fossil.specs.Printed.{Printed}
use Rattle.fossil.specs.Printed as printing
use Rattle.fossil.specs.Ingest as ingest
use Rattle.fossil.specs.Gen.{IsGenPrinted}
use Rattle.fossil.specs.Trees.{IsExported, IsVerified}
use Rattle.fossil.specs.Checkins.{IsCheckin}
use Rattle.fossil.specs.Put.{IsPut}
use Rattle.fossil.specs.Shun.{shunning}
use Rattle.fossil.specs.Unshun.{IsUnshun}
use Rattle.fossil.specs.Unversioned.{said_printed, IsUvDone}
use Rattle.fsl_uv.specs.Entries.{Version}
use Rattle.fsl_uv.specs.Stores.{blob_of}
use Rattle.fsl_uv.specs.Reports.{Done, list_done, cat_done, add_done, remove_done}
use Rattle.fossil.specs.Uses.{command_meets}

-- the status, the text that is written, and the records that are appended, a list for each commit
pub record Outcome : Type 0 where
  pub status : ℕ
  pub text : List ℕ
  pub commits : List (List Record)

-- what a command prints that appends nothing
abbrev pub without_commit : Printed → Outcome
without_commit printed = record { status = printed.status; text = printed.text; commits = [] }

-- one commit of the records, and none where there is none
abbrev pub one_commit : List Record → List (List Record)
one_commit [] = []
one_commit records = records ∷ []

-- what a command prints that appends these records
abbrev pub with_commit : Printed → List Record → Outcome
with_commit printed records = record { status = printed.status; text = printed.text; commits = one_commit records }

-- what is printed of an outcome
abbrev pub printed_of : Outcome → Printed
printed_of o = record { status = o.status; text = o.text }

-- words outside the grammar
abbrev pub usage : Outcome
usage = without_commit printing.usage

-- a file that isn't a repository, from the place at which it fails
abbrev pub not_repository : ℕ → Outcome
not_repository at = record { status = 2; text = codes "not a repository: " ++ decimal at ++ 10 ∷ []; commits = [] }

-- ---- the commands

-- a file with bytes is refused; an empty one gets the Config record
abbrev pub init_outcome : List ℕ → List ℕ → List (List ℕ) → ℕ → Outcome
init_outcome project server fields len =
    if len == 0 then with_commit (record { status = 0; text = [] }) (record_of.Config (record { project = project; server = server; fields = fields }) ∷ [])
    else without_commit (printing.refused (codes "file not empty " ++ decimal len))

-- what `ingest` prints
abbrev pub IsIngestOfFiles : List ℕ → Outcome → Type 0
IsIngestOfFiles input o = (printed : Printed) × ingest.IsIngested input printed × (o ≡ without_commit printed)

-- what `put` prints and appends, at the moment that the clock answered
abbrev pub IsPutOfFiles : List ℕ → ℕ → List Record → Outcome → Type 0
IsPutOfFiles input moment old o =
    (printed : Printed) × (appended : List Record) × IsPut input moment old printed appended × (o ≡ with_commit printed appended)

-- what `shun` prints and appends
abbrev pub shun_outcome : List ℕ → List Record → Outcome
shun_outcome name old = let t = shunning (contents old) name in with_commit (record { status = 0; text = t.text }) t.records

abbrev pub IsShunOf : List ℕ → List Record → Outcome → Type 0
IsShunOf name old o = o ≡ shun_outcome name old

-- what `unshun` prints and appends
abbrev pub IsUnshunOf : List ℕ → List Record → Outcome → Type 0
IsUnshunOf name old o =
    (printed : Printed) × (appended : List Record) × IsUnshun name (contents old) printed appended × (o ≡ with_commit printed appended)

-- the text of a report, or the refusal of its question
abbrev pub report_outcome : Result (List ℕ) Refused → Outcome
report_outcome (Ok text) = without_commit (record { status = 0; text = text })
report_outcome (Err refused) = without_commit (printing.refused (refusal_text refused))

-- the report on a question or its refusal is printed, by what the records leave. A content is as it is read: over an honest disk, which tells its contents
-- and meets the disk model, it is that of the records
abbrev pub IsAnswered : Bool → Question → List Record → Outcome → Type 0
IsAnswered honest question records o =
    (result : Result (List ℕ) Refused) × IsReport honest (contents records) question result × (o ≡ report_outcome result)

-- what `checkin` prints and appends, at the moment that the clock answered
abbrev pub IsCheckinOf : Option (List ℕ) → List ℕ → List ℕ → List ℕ → ℕ → List Record → Outcome → Type 0
IsCheckinOf parent user comment input moment old o =
    (printed : Printed) × (appended : List Record) × IsCheckin parent user comment input moment old printed appended × (o ≡ with_commit printed appended)

-- the tree of a check-in is printed, or whether its checksum is that of the tree
abbrev pub IsExportedBy : Bool → List ℕ → List Record → Outcome → Type 0
IsExportedBy honest prefix records o = (printed : Printed) × IsExported honest prefix (contents records) printed × (o ≡ without_commit printed)

abbrev pub IsVerifiedBy : Bool → List ℕ → List Record → Outcome → Type 0
IsVerifiedBy honest prefix records o = (printed : Printed) × IsVerified honest prefix (contents records) printed × (o ≡ without_commit printed)

-- `gen` prints what the generated artifacts make
abbrev pub IsGen : ℕ → Bool → Outcome → Type 0
IsGen count reversed o = (printed : Printed) × IsGenPrinted count reversed printed × (o ≡ without_commit printed)

-- the file stands for records, by which the outcome is told, or the place at which it doesn't is told
abbrev pub IsLoaded : (List Record → Outcome → Type 0) → List ℕ → Outcome → Type 0
IsLoaded ByRecords bytes o =
    ((at : ℕ) × FailsAt bytes at × (o ≡ not_repository at)) ⊎ ((records : List Record) × IsFileOf bytes records × ByRecords records o)

-- ---- unversioned files

-- what is said, and one commit of the entries that are stored
abbrev pub uv_outcome : Done → Outcome
uv_outcome d = with_commit (said_printed d.said) (map blob_of d.here)

-- what a command prints and appends that does this by the map of the records
abbrev pub IsUvOf : (List (List ℕ × Version) → Done) → List Record → Outcome → Type 0
IsUvOf does records o = (d : Done) × IsUvDone does records d × (o ≡ uv_outcome d)

-- the outcome of each; a sync meets a peer
abbrev pub IsUvOutcome : asked_type.Unversioned → List ℕ → ℕ → List ℕ → Outcome → Type 0
IsUvOutcome (uv.Init project server) input moment bytes o = o ≡ init_outcome project server [] (length bytes)
IsUvOutcome (uv.Add path) input moment bytes o = IsLoaded (IsUvOf (λ m. add_done m path moment input)) bytes o
IsUvOutcome (uv.Remove path) input moment bytes o = IsLoaded (IsUvOf (λ m. remove_done m path moment)) bytes o
IsUvOutcome uv.List input moment bytes o = IsLoaded (IsUvOf list_done) bytes o
IsUvOutcome (uv.Cat path) input moment bytes o = IsLoaded (IsUvOf (λ m. cat_done m path)) bytes o
IsUvOutcome (uv.Sync peer) input moment bytes o = ⊥

-- ---- a run

-- the outcome of a command that meets no peer, over its input, a moment and the bytes of the file, and whether the file's disk is honest: `init` looks at their
-- number alone, `ingest` at none, and `gen` at neither; `put`, `checkin`, `uv-add` and `uv-remove` look at the moment; `serve` is no command of a run
abbrev pub IsCommandOutcome : Bool → Command → List ℕ → ℕ → List ℕ → Outcome → Type 0
IsCommandOutcome honest (Init project server fields) input moment bytes o = o ≡ init_outcome project server fields (length bytes)
IsCommandOutcome honest Ingest input moment bytes o = IsIngestOfFiles input o
IsCommandOutcome honest Put input moment bytes o = IsLoaded (IsPutOfFiles input moment) bytes o
IsCommandOutcome honest (Shun name) input moment bytes o = IsLoaded (IsShunOf name) bytes o
IsCommandOutcome honest (Unshun name) input moment bytes o = IsLoaded (IsUnshunOf name) bytes o
IsCommandOutcome honest (Ask question) input moment bytes o = IsLoaded (IsAnswered honest question) bytes o
IsCommandOutcome honest (Serve address users workers requests) input moment bytes o = o ≡ usage
IsCommandOutcome honest (Checkin parent user comment) input moment bytes o = IsLoaded (IsCheckinOf parent user comment input moment) bytes o
IsCommandOutcome honest (Export prefix) input moment bytes o = IsLoaded (IsExportedBy honest prefix) bytes o
IsCommandOutcome honest (Verify prefix) input moment bytes o = IsLoaded (IsVerifiedBy honest prefix) bytes o
IsCommandOutcome honest (Scrub path) input moment bytes o = ⊥
IsCommandOutcome honest (Unversioned asked) input moment bytes o = IsUvOutcome asked input moment bytes o
IsCommandOutcome honest (Gen count reversed) input moment bytes o = IsGen count reversed o
IsCommandOutcome honest (Pull address login) input moment bytes o = ⊥
IsCommandOutcome honest (Push address login) input moment bytes o = ⊥
IsCommandOutcome honest (Clone address server fields) input moment bytes o = ⊥
IsCommandOutcome honest (PullLocal path) input moment bytes o = ⊥

-- the command that words say, where they are in the grammar
abbrev pub said : List (List ℕ) → Option Command
said words = option_map (λ w. w.command) (words_in words)

-- whether words say a command that meets a peer
abbrev pub meets : Option Command → Bool
meets command = option_map_or command_meets command false

-- the outcome of what words say, if anything
abbrev pub IsSaidOutcome : Bool → Option Command → List ℕ → ℕ → List ℕ → Outcome → Type 0
IsSaidOutcome honest None input moment bytes o = o ≡ usage
IsSaidOutcome honest (Some command) input moment bytes o = IsCommandOutcome honest command input moment bytes o

-- the outcome: the words first, then the file, then the input, then the moment
abbrev pub IsOutcome : Bool → List (List ℕ) → List ℕ → ℕ → List ℕ → Outcome → Type 0
IsOutcome honest words input moment bytes o = IsSaidOutcome honest (said words) input moment bytes o

-- whether a command reads the contents of a check-in: `export` and `verify` do
abbrev pub command_reads_tree : Command → Bool
command_reads_tree (Export prefix) = true
command_reads_tree (Verify prefix) = true
command_reads_tree command = false

-- whether words say such a command
abbrev pub reads_tree : Option Command → Bool
reads_tree command = option_map_or command_reads_tree command false

-- whether a command reads a content: `cat` reads one, and these some; no other that meets no peer does
abbrev pub command_reads_content : Command → Bool
command_reads_content (Ask question) = is_some (prefix_of question)
command_reads_content command = command_reads_tree command

-- whether words say such a command
abbrev pub reads_content : Option Command → Bool
reads_content command = option_map_or command_reads_content command false

-- two outcomes by contents that were read: the texts have one name and one size, and all else is the same
pub record AreAlike (a b : Outcome) : Type 0 where
  pub status : a.status ≡ b.status
  pub named : name_of a.text ≡ name_of b.text
  pub sized : length a.text ≡ length b.text
  pub commits : a.commits ≡ b.commits

-- Law. Words, an input, a moment and a file have one outcome at most. Where one content is read from a disk that isn't honest, the texts of two have one name
-- and one size; where those of a check-in are, status and commits are the same
pub record HasOneOutcome : Type 0 where
  pub one : (honest : Bool) (words : List (List ℕ)) (input : List ℕ) (moment : ℕ) (bytes : List ℕ) (a b : Outcome) →
      IsTrue (honest || not (reads_content (said words))) → IsOutcome honest words input moment bytes a → IsOutcome honest words input moment bytes b → a ≡ b
  pub alike : (words : List (List ℕ)) (input : List ℕ) (moment : ℕ) (bytes : List ℕ) (a b : Outcome) →
      reads_tree (said words) ≡ false → IsOutcome false words input moment bytes a → IsOutcome false words input moment bytes b → AreAlike a b
  pub ends : (words : List (List ℕ)) (input : List ℕ) (moment : ℕ) (bytes : List ℕ) (a b : Outcome) →
      IsOutcome false words input moment bytes a → IsOutcome false words input moment bytes b → (a.status ≡ b.status) × (a.commits ≡ b.commits)

-- Law. And they have one, where the words say no command that meets a peer, whatever the disk
abbrev pub HasSomeOutcome : Type 0
HasSomeOutcome =
    (honest : Bool) (words : List (List ℕ)) (input : List ℕ) (moment : ℕ) (bytes : List ℕ) → meets (said words) ≡ false →
    (o : Outcome) × IsOutcome honest words input moment bytes o
