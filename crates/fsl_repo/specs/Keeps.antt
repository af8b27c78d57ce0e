-- What the reply of a state keeps to itself.
use Rattle.std.specs.Prelude.{◌≡◌, ℕ, false, List, map, IsTrue, Bool}
use Rattle.std.specs.Option.{option_map_or}
use Rattle.std.specs.FinMap as map_of
use Rattle.std.specs.FinSet as set
use Rattle.fsl_order.specs.Names.{has}
use Rattle.fsl_cross.specs.declared.Item.{Item}
use Rattle.fsl_answer.specs.declared.Lists.{Lists}
use Rattle.fsl_answer.specs.Contents.{sends_private}
use Rattle.fsl_blobs.specs.Fold.{Contents}
use Rattle.fsl_repo.specs.declared.Ask.{Ask}
use Rattle.fsl_repo.specs.Machine.{State, now, AreItems, AnnouncedAreNew}
use Rattle.fsl_repo.specs.Replies.{reply_lists, sent_names}

-- the names of the igot cards of a reply
abbrev pub told_names : Lists → List (List ℕ)
told_names l = map (λ a. a.0) l.igots

-- whether a name is that of a held private artifact
abbrev pub is_held_private : Contents → List ℕ → Bool
is_held_private c name = option_map_or (λ a. a.private) (map_of.get c.held name) false

-- a private artifact is named to nobody but one who may see it and asks for it, and a shunned one to nobody
pub record ReplyKeeps (s : State) (items : List Item) (ask : Ask) : Type 0 where
  pub igots : (name : List ℕ) → sends_private ask.message ask.caps ≡ false → IsTrue (is_held_private (now s) name) → has (told_names (reply_lists s items ask)) name ≡ false
  pub gimmes : (name : List ℕ) → IsTrue (is_held_private (now s) name) → has (reply_lists s items ask).gimmes name ≡ false
  pub files : (name : List ℕ) → sends_private ask.message ask.caps ≡ false → IsTrue (is_held_private (now s) name) → has (sent_names (reply_lists s items ask)) name ≡ false
  pub shunned_told : (name : List ℕ) → IsTrue (set.contains (now s).shunned name) → has (told_names (reply_lists s items ask)) name ≡ false
  pub shunned_asked : (name : List ℕ) → IsTrue (set.contains (now s).shunned name) → has (reply_lists s items ask).gimmes name ≡ false
  pub shunned_sent : (name : List ℕ) → IsTrue (set.contains (now s).shunned name) → has (sent_names (reply_lists s items ask)) name ≡ false

-- the reply of every state keeps to itself what it should
abbrev pub BuildsKeep : Type 0
BuildsKeep = (s : State) (items : List Item) (ask : Ask) → AnnouncedAreNew s → AreItems (now s).held items → ReplyKeeps s items ask
