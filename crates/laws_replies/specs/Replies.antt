-- What a reply is as a message.
use Rattle.std.specs.Prelude.{◌<◌, ◌^◌, List, [], ◌∷◌, ◌++◌, length, map, take, flat_map, option_to_list, not, IsTrue, if◌then◌else◌}
use Rattle.std.specs.List.{AllByRecursion}
use Rattle.fsl_text.specs.Bytes.{is_empty}
use Rattle.fsl_name.specs.Name.{IsName, name_text}
use Rattle.fsl_wire.specs.declared.WireCard.{WireCard}
use Rattle.fsl_wire.specs.declared.WireCard.TheVariants.{Push, CloneSeqno, File, Private, Igot, Gimme, Error}
use Rattle.fsl_wire.specs.Messages.{IsMessage}
use Rattle.fsl_answer.specs.declared.SentFile.{SentFile}
use Rattle.fsl_answer.specs.declared.Lists.{Lists}
use Rattle.fsl_answer.specs.Replies.{reply_text}

-- a private file follows a private card
abbrev pub file_cards : SentFile → List WireCard
file_cards f = (if f.private then Private ∷ [] else []) ++ File f.name f.bytes ∷ []

-- the cards of a reply: its first 100 notices as errors, the codes, the names held, the names wanted, the files, and where a clone goes on
abbrev pub cards_of : Lists → List WireCard
cards_of l =
    map Error (take 100 l.notices)
    ++ map (λ c. Push (name_text c.0) (name_text c.1)) (option_to_list l.codes)
    ++ map (λ a. Igot a.0 a.1) l.igots
    ++ map Gimme l.gimmes
    ++ flat_map file_cards l.files
    ++ map CloneSeqno (option_to_list l.sequel)

-- lists of a reply: no notice is empty, names are names and numbers have 64 bits, as their types keep it
pub record AreLists (l : Lists) : Type 0 where
  pub notices : AllByRecursion (λ n. IsTrue (not (is_empty n))) l.notices
  pub codes : AllByRecursion (λ c. IsName c.0 × IsName c.1) (option_to_list l.codes)
  pub igots : AllByRecursion (λ a. IsName a.0) l.igots
  pub gimmes : AllByRecursion IsName l.gimmes
  pub files : AllByRecursion (λ f. IsName f.name × (length f.bytes < 2 ^ 64)) l.files
  pub sequel : AllByRecursion (λ n. n < 2 ^ 64) (option_to_list l.sequel)

-- ---- a law

-- the text of a reply reads as its cards
abbrev pub RepliesRead : Type 0
RepliesRead = (l : Lists) → AreLists l → IsMessage (reply_text l) (cards_of l)
