-- The reply of a state.
use Rattle.std.specs.Prelude.{◌≡◌, ◌≢◌, ◌⊎◌, ℕ, Bool, true, false, IsTrue, List, [], length, map, Some, Result, Ok, Err, filter_map, option_map}
use Rattle.std.specs.List.{AllZip}
use Rattle.std.specs.Option.{option_map_or}
use Rattle.std.specs.FinMap as map_of
use Rattle.std.specs.FinSet as set
use Rattle.fsl_name.specs.Name.{name_of}
use Rattle.fsl_order.specs.Causes.{Rose}
use Rattle.fsl_order.specs.Names.{has}
use Rattle.fsl_record.specs.declared.Record.{Record}
use Rattle.fsl_blobs.specs.Fold.{Held, contents, held_from}
use Rattle.fsl_cross.specs.declared.Item.{Item}
use Rattle.fsl_answer.specs.Contents as reply
use Rattle.fsl_answer.specs.Replies.{reply_text}
use Rattle.fsl_answer.specs.declared.Lists.{Lists}
use Rattle.fsl_answer.specs.declared.SentFile.{SentFile}
use Rattle.fsl_repo.specs.declared.Ask.{Ask}
use Rattle.fsl_repo.specs.declared.BuildFault.{BuildFault}
use Rattle.fsl_repo.specs.declared.BuildFault.TheVariants as build_fault
use Rattle.fsl_repo.specs.Machine.{State, AreItems, Leaves, now, wants, unclustered_names}

-- a held artifact at its place
abbrev pub held_at : ℕ × List ℕ → Held → reply.Held
held_at placed artifact = record { name = placed.1; bytes = artifact.bytes; private = artifact.private; place = placed.0 }

-- the artifacts that the records leave, with their places, by place
abbrev pub placed_in : List Record → List reply.Held
placed_in records = filter_map (λ p. option_map (held_at p) (map_of.get (contents records).held p.1)) (held_from records 0)

abbrev pub placed : State → List reply.Held
placed s = placed_in s.records

-- what a reply depends on
abbrev pub reply_state : State → List Item → reply.State
reply_state s items =
    record {
      server = option_map_or (λ c. c.server) (now s).config [];
      project = option_map_or (λ c. c.project) (now s).config [];
      held = placed s;
      unclustered = unclustered_names items;
      wants = wants (now s) items;
      announced = set.items s.announced;
    }

-- the lists of the reply, and the names of its file cards
abbrev pub reply_lists : State → List Item → Ask → Lists
reply_lists s items ask = reply.lists_of (reply_state s items) ask.message ask.caps ask.notices

abbrev pub sent_names : Lists → List (List ℕ)
sent_names l = map (λ f. f.name) l.files

-- the bytes of the reply
abbrev pub reply_of : State → List Item → Ask → List ℕ
reply_of s items ask = reply_text (reply_lists s items ask)

-- ---- contents that are read

-- a file as it is read: the same, with bytes that may stand in place of its content. Over a disk that tells its contents and meets the disk model they are its content; over every other disk they have its name and its size
pub record IsSentAs (honest : Bool) (due sent : SentFile) : Type 0 where
  pub alike : sent ≡ record due { bytes = sent.bytes }
  pub named : name_of sent.bytes ≡ name_of due.bytes
  pub sized : length sent.bytes ≡ length due.bytes
  pub same : honest ≡ true → sent.bytes ≡ due.bytes

-- the reply with its files as they are read
abbrev pub reply_with : State → List Item → List SentFile → Ask → List ℕ
reply_with s items files ask = reply_text (record (reply_lists s items ask) { files = files })

-- a content that is read has another name; never over a disk that tells its contents and meets the disk model
pub record IsSpoilt (s : State) (name found : List ℕ) : Type 0 where
  pub artifact : Held
  pub held : map_of.get (now s).held name ≡ Some artifact
  pub bytes : List ℕ
  pub sized : length bytes ≡ length artifact.bytes
  pub named : found ≡ name_of bytes
  pub other : found ≢ name
  pub never : s.honest ≡ false

-- a name whose content is to be sent: the reply has a file card for it
abbrev pub IsSent : State → Ask → List ℕ → Type 0
IsSent s ask name = (items : List Item) × AreItems (now s).held items × IsTrue (has (sent_names (reply_lists s items ask)) name)

-- the answer of a build, by the items that the held artifacts are: the reply, with its files as they are read; or that one of those that are to be sent is damaged
abbrev pub IsBuilt : State → Ask → Result (List ℕ) BuildFault → Type 0
IsBuilt s ask result =
    ((items : List Item) × (files : List SentFile) × AreItems (now s).held items × AllZip (IsSentAs s.honest) (reply_lists s items ask).files files × (result ≡ Ok (reply_with s items files ask)))
    ⊎ ((name found : List ℕ) × IsSent s ask name × IsSpoilt s name found × (result ≡ Err (build_fault.Damaged name found)))

-- a build that answers this, or want of memory, and leaves the state; or the read of a content that is to be sent failed, and the disk's count rose
abbrev pub BuildStep : State → Ask → Result (List ℕ) BuildFault → State → Type 0
BuildStep old ask result new =
    ((IsBuilt old ask result ⊎ (result ≡ Err build_fault.Memory)) × (new ≡ old))
    ⊎ ((name : List ℕ) × IsSent old ask name × (result ≡ Err build_fault.Disk) × Rose old.faults new.faults × Leaves old old new)

-- Law. A build has an answer, the reply; and over a disk that tells its contents and meets the disk model one at most
abbrev pub HasBuilt : Type 0
HasBuilt = (s : State) (ask : Ask) → (items : List Item) × AreItems (now s).held items × IsBuilt s ask (Ok (reply_of s items ask))

abbrev pub HasOneBuilt : Type 0
HasOneBuilt = (s : State) (ask : Ask) (a b : Result (List ℕ) BuildFault) → s.honest ≡ true → IsBuilt s ask a → IsBuilt s ask b → a ≡ b
