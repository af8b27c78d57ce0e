-- Laws of maps of unversioned files.
use Rattle.std.specs.Prelude.{◌≡◌, ℕ, true, false, List, [], ◌++◌, Contains}
use Rattle.std.specs.declared.cmp.Ordering.TheVariants.{Equal}
use Rattle.std.specs.List.Sorted.{IsStrictlySortedBy}
use Rattle.std.specs.Map.{keys_of}
use Rattle.fsl_order.specs.Names.{bytes_cmp}
use Rattle.fsl_order.specs.Maps.{value_at}
use Rattle.fsl_uv.specs.declared.Entry.{Entry}
use Rattle.fsl_uv.specs.declared.Card.{Card}
use Rattle.fsl_uv.specs.Entries.{Version}
use Rattle.fsl_uv.specs.Cards.{IsMessage}
use Rattle.fsl_uv.specs.Maps.{version_cmp, newest, greater_at, uv, merge, is_over}
use Rattle.fsl_uv.specs.Syncing.{is_kept, with_entry, peer_answer, synced_here, synced_there, AgreeAt}

-- the paths of a map rise, each once
abbrev pub Rises : List (List ℕ × Version) → Type 0
Rises m = IsStrictlySortedBy bytes_cmp (keys_of m)

-- versions that tie are the same
abbrev pub TiesAreSame : Type 0
TiesAreSame = (a b : Version) → version_cmp a b ≡ Equal → a ≡ b

-- the map of entries has at each path the greatest version that they say of it, and it is the one map that does
pub record UvIsTheNewest : Type 0 where
  pub rises : (entries : List Entry) → Rises (uv entries)
  pub at : (entries : List Entry) (path : List ℕ) → value_at (uv entries) path ≡ newest entries path
  pub only : (entries : List Entry) (m : List (List ℕ × Version)) → Rises m → ((path : List ℕ) → value_at m path ≡ newest entries path) → m ≡ uv entries

-- the merge has at each path the greater version, and it is the one map that does
pub record MergeIsTheGreater : Type 0 where
  pub rises : (u v : List (List ℕ × Version)) → Rises (merge u v)
  pub at : (u v : List (List ℕ × Version)) (path : List ℕ) → value_at (merge u v) path ≡ greater_at u v path
  pub only : (u v m : List (List ℕ × Version)) → Rises m → ((path : List ℕ) → value_at m path ≡ greater_at u v path) → m ≡ merge u v

-- the map is the same in whatever order the entries stand, and however often
abbrev pub IsForTheSet : Type 0
IsForTheSet = (a b : List Entry) → ((e : Entry) → Contains a e → Contains b e) → ((e : Entry) → Contains b e → Contains a e) → uv a ≡ uv b

-- merging is associative and commutative, and a map merged with itself or with none is itself
pub record MergesInAnyOrder : Type 0 where
  pub associative : (u v w : List (List ℕ × Version)) → merge u (merge v w) ≡ merge (merge u v) w
  pub commutative : (u v : List (List ℕ × Version)) → merge u v ≡ merge v u
  pub idempotent : (u : List (List ℕ × Version)) → Rises u → merge u u ≡ u
  pub none : (u : List (List ℕ × Version)) → Rises u → merge u [] ≡ u

-- an entry that its path's one is equal to or greater than changes nothing: so whatever a put answers that isn't a fault, it leaves the merge
abbrev pub KeptIsMerged : Type 0
KeptIsMerged = (m : List (List ℕ × Version)) (e : Entry) → Rises m → is_kept m e ≡ true → with_entry m e ≡ m

-- the map of entries and further ones is the merge of their maps
abbrev pub UvOfBothIsMerge : Type 0
UvOfBothIsMerge = (a b : List Entry) → uv (a ++ b) ≡ merge (uv a) (uv b)

-- a message has the cards that it has, and no others
abbrev pub MessagesReadOneWay : Type 0
MessagesReadOneWay = (message : List ℕ) (cards others : List Card) → IsMessage message cards → IsMessage message others → cards ≡ others

-- ---- a sync

-- After a sync both have at each path the greater version, as far as those with one moment and one hash are the same there.
pub record SyncMergesAt : Type 0 where
  pub here : (u v : List (List ℕ × Version)) (path : List ℕ) → AgreeAt u v path → value_at (synced_here u v) path ≡ greater_at u v path
  pub there : (u v : List (List ℕ × Version)) (path : List ℕ) → AgreeAt u v path → value_at (synced_there u v) path ≡ greater_at u v path

abbrev pub Agree : List (List ℕ × Version) → List (List ℕ × Version) → Type 0
Agree u v = (path : List ℕ) → AgreeAt u v path

-- So both are the merge of the two, and the second is above a limit only where the first is. A sync of the merge with what the
-- peer had before, as a crash between the two commits leaves them, makes both the merge too, and one of equal maps moves nothing.
pub record SyncMerges : Type 0 where
  pub here : (u v : List (List ℕ × Version)) → Agree u v → synced_here u v ≡ merge u v
  pub there : (u v : List (List ℕ × Version)) → Agree u v → synced_there u v ≡ merge u v
  pub full : (u v : List (List ℕ × Version)) → Agree u v → is_over (synced_here u v) ≡ false → is_over (synced_there u v) ≡ false
  pub again_here : (u v : List (List ℕ × Version)) → Agree u v → synced_here (merge u v) v ≡ merge u v
  pub again_there : (u v : List (List ℕ × Version)) → Agree u v → synced_there (merge u v) v ≡ merge u v
  pub equal : (m : List (List ℕ × Version)) → peer_answer m m ≡ []
