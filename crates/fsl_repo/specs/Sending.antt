-- How artifacts that are lent are sent.
use Rattle.std.specs.Prelude.{◌≡◌, IsTrue, ℕ, ◌+◌, List, [], ◌∷◌, ◌++◌, length, take, map, filter, filter_map, Bool, true, false, not, ◌||◌, ◌&&◌, nat_le, Option, Some, None, is_some, if◌then◌else◌}
use Rattle.std.specs.List.{list_any}
use Rattle.std.specs.Option.{option_map, option_map_or}
use Rattle.std.specs.FinMap as map_of
use Rattle.std.specs.FinSet as set
use Rattle.fsl_order.specs.Names.{has}
use Rattle.fsl_order.specs.Rows.{ascending}
use Rattle.fsl_record.specs.declared.Record.{Record}
use Rattle.fsl_blobs.specs.Fold.{Held, contents, held_from}
use Rattle.fsl_blobs.specs.Seen as blobs
use Rattle.fsl_cluster.specs.declared.Fact.{Fact}
use Rattle.fsl_cluster.specs.Clusters as clusters
use Rattle.fsl_wire.specs.declared.WireCard.{WireCard}
use Rattle.fsl_answer.specs.Contents as reply
use Rattle.fsl_answer.specs.Contents.{each_once, gimme_of, is_pull, sent_file, sequel}
use Rattle.fsl_answer.specs.Replies.{taken}
use Rattle.fsl_repo.specs.Replies.{held_at, placed_in, IsSpoilt}
use Rattle.fsl_answer.specs.declared.SentFile.{SentFile}
use Rattle.fsl_order.specs.Causes.{Rose}
use Rattle.fsl_answer.specs.declared.Lists.{Lists}
use Rattle.fsl_repo.specs.declared.Ask.{Ask}
use Rattle.fsl_repo.specs.declared.BuildFault.{BuildFault}
use Rattle.fsl_repo.specs.declared.BuildFault.TheVariants as build_fault
use Rattle.fsl_repo.specs.declared.placed.PlacedHolding.{PlacedHolding}
use Rattle.fsl_repo.specs.declared.sending.Due.{Due}
use Rattle.fsl_blobs.specs.declared.BlobFault.{BlobFault}
use Rattle.fsl_blobs.specs.declared.BlobFault.TheVariants as blob_fault
use Rattle.fsl_repo.specs.Contents.{IsContentNow}
use Rattle.fsl_repo.specs.Machine.{State}

-- a held artifact at its place, as it is lent
abbrev pub as_held : PlacedHolding → reply.Held
as_held p = record { name = p.holding.name; bytes = p.holding.bytes.now.value; private = p.holding.private; place = p.place }

-- its size is that of its bytes
abbrev pub IsSized : PlacedHolding → Type 0
IsSized p = p.holding.size ≡ length p.holding.bytes.now.value

-- the artifacts that the records leave whose place is at least this, by place
abbrev pub placed_from : List Record → ℕ → List reply.Held
placed_from records from = filter_map (λ p. option_map (held_at p) (map_of.get (contents records).held p.1)) (held_from records from)

-- a file that is due to be sent, without its bytes: its name, whether it is private, and its size
abbrev pub DueFile : Type 0
DueFile = List ℕ × Bool × ℕ

abbrev pub due_of : SentFile → DueFile
due_of f = (f.name, f.private, length f.bytes)

abbrev pub as_due : Due → DueFile
as_due d = (d.name, d.private, d.size)

-- a file that was read for one that is due
pub record IsReadFile (s : State) (due : Due) (sent : SentFile) : Type 0 where
  pub name : sent.name ≡ due.name
  pub private : sent.private ≡ due.private
  pub content : IsContentNow s due.name sent.bytes

-- the lists of a reply with these files, and where a clone goes on
abbrev pub listed : reply.State → Ask → List SentFile → Option ℕ → Lists
listed s ask files sequel = record (reply.lists_of s ask.message ask.caps ask.notices) { files = files; sequel = sequel }

-- the files that are due, and where a clone goes on
abbrev pub AreDue : List SentFile × Option ℕ → List Due → Option ℕ → Type 0
AreDue files due sequel = (map as_due due ≡ map due_of files.0) × (sequel ≡ files.1)

-- those of the lists of a reply
abbrev pub AreDueIn : Lists → List Due → Option ℕ → Type 0
AreDueIn lists due sequel = AreDue (lists.files, lists.sequel) due sequel

-- why a reply isn't built whose file isn't read
abbrev pub as_build_fault : List ℕ → BlobFault → BuildFault
as_build_fault name blob_fault.Disk = build_fault.Disk
as_build_fault name (blob_fault.Damaged found) = build_fault.Damaged name found
as_build_fault name _ = build_fault.Memory

-- why files of these names aren't read: there is one, and the disk's count rose; the content of one has another name; or there was no memory
abbrev pub FilesFail : BuildFault → List (List ℕ) → State → ℕ → Type 0
FilesFail build_fault.Disk names s faults = (name : List ℕ) × IsTrue (has names name) × Rose s.faults faults
FilesFail (build_fault.Damaged name found) names s faults = IsTrue (has names name) × IsSpoilt s name found × (faults ≡ s.faults)
FilesFail build_fault.Memory names s faults = faults ≡ s.faults

-- the file of a held artifact that may be sent: it is public, or private ones are sent
abbrev pub sent_of : Bool → List ℕ → Option Held → Option SentFile
sent_of private name None = None
sent_of private name (Some a) = if private || not a.private then Some (record { name = name; private = a.private; bytes = a.bytes }) else None

-- as many files as the budget takes
abbrev pub sent_files : List SentFile → List SentFile
sent_files files = take (taken (map (λ f. length f.bytes) files)) files

-- the files that gimme cards ask for, in order, each once
abbrev pub sent_asked : List Record → Bool → List WireCard → List SentFile
sent_asked records private message = filter_map (λ name. sent_of private name (map_of.get (contents records).held name)) (each_once [] (filter_map gimme_of message))

-- the names of those that are private, or of those that aren't
abbrev pub names_of : Bool → List reply.Held → List (List ℕ)
names_of private held = map (λ h. h.name) (filter (λ h. if private then h.private else not h.private) held)

-- the public names that are told
abbrev pub told_public : List reply.Held → List (List ℕ) → Bool → Bool → List (List ℕ)
told_public held free all pull = if all then names_of false held else (if pull then free else [])

-- the private ones
abbrev pub told_private : List reply.Held → Bool → Bool → List (List ℕ)
told_private held private names = if private && names then names_of true held else []

-- all of them, ascending, the private ones with their flag
abbrev pub told : List (List ℕ) → List (List ℕ) → List (List ℕ × Bool)
told public private = map (λ name. (name, has private name)) (ascending (public ++ private))

-- the public artifacts from a place on
abbrev pub public_on : ℕ → List reply.Held → List reply.Held
public_on place held = filter (λ h. not h.private && nat_le place h.place) held

-- the first of some artifacts: those that the budget takes, with such a sum before them, and one more
abbrev pub front_after : ℕ → List reply.Held → List reply.Held
front_after sum [] = []
front_after sum (h ∷ held) = h ∷ (if nat_le 1000000 sum then [] else front_after (sum + length h.bytes + 64) held)

-- the files of a reply, and where a clone goes on
abbrev pub files_by : List Record → List reply.Held → List WireCard → Bool → Option (ℕ × ℕ) → List SentFile × Option ℕ
files_by records held message private clone =
    option_map_or (λ place. (sent_files (map sent_file (public_on place held)), Some (sequel (public_on place held)))) (reply.asks_from clone)
    (if list_any is_pull message || is_some clone then (sent_files (sent_asked records private message), None) else ([], None))

-- those of the reply to a message
abbrev pub files_for : List Record → Ask → List SentFile × Option ℕ
files_for records ask = files_by records (placed_in records) ask.message (reply.sends_private ask.message ask.caps) (reply.first_clone ask.message)

-- what a reply depends on
abbrev pub seen_by : blobs.Seen → List Fact → reply.State
seen_by b facts = record {
  server = option_map_or (λ c. c.server) (contents b.records).config [];
  project = option_map_or (λ c. c.project) (contents b.records).config [];
  held = placed_in b.records;
  unclustered = clusters.unclustered facts;
  wants = clusters.wants facts (set.items (contents b.records).shunned);
  announced = set.items b.announced;
}
