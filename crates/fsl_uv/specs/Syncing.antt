-- What two stores say to each other, and what each then has.
use Rattle.std.specs.Prelude.{◌≡◌, ℕ, Bool, false, not, List, [], ◌∷◌, ◌++◌, length, map, flat_map, Option, Some, None, option_map, if◌then◌else◌}
use Rattle.std.specs.Ordering.{match_ordering, is_lt}
use Rattle.std.specs.declared.cmp.Ordering.TheVariants.{Equal}
use Rattle.std.specs.Option.{option_map_or}
use Rattle.std.specs.Map.{keys_of}
use Rattle.std.specs.Str.{bytes_eq}
use Rattle.fsl_order.specs.Names.{dated_cmp}
use Rattle.fsl_order.specs.Rows.{ascending}
use Rattle.fsl_order.specs.Maps.{value_at}
use Rattle.fsl_name.specs.Name.{name_of}
use Rattle.fsl_uv.specs.declared.Entry.{Entry}
use Rattle.fsl_uv.specs.declared.Card.{Card}
use Rattle.fsl_uv.specs.declared.Card.TheVariants.{Igot, Gimme, File}
use Rattle.fsl_uv.specs.Entries.{Version, content, version_of}
use Rattle.fsl_uv.specs.Maps.{stamp_of, stamp_cmp, version_cmp, uv, merge}
use Rattle.fsl_uv.specs.Cards.{hashed}

-- ---- an offer

-- the card of a path and what it has
abbrev pub offer_of : List ℕ × Version → Card
offer_of e = Igot e.0 e.1.moment (option_map name_of e.1.bytes) (length (content e.1.bytes))

-- one card for each path, by path
abbrev pub offered : List (List ℕ × Version) → List Card
offered m = map offer_of m

-- ---- an answer

-- the moment and the hash in the first offer of a path
abbrev pub offer_at : List Card → List ℕ → Option (ℕ × List ℕ)
offer_at [] path = None
offer_at (Igot other moment hash size ∷ cards) path = if bytes_eq path other then Some (moment, hashed hash) else offer_at cards path
offer_at (Gimme other ∷ cards) path = offer_at cards path
offer_at (File e ∷ cards) path = offer_at cards path

-- the paths of the offers
abbrev pub offered_paths : List Card → List (List ℕ)
offered_paths [] = []
offered_paths (Igot path moment hash size ∷ cards) = path ∷ offered_paths cards
offered_paths (Gimme path ∷ cards) = offered_paths cards
offered_paths (File e ∷ cards) = offered_paths cards

-- the entry of a path and what it has, and the card of it
abbrev pub entry_of : List ℕ → Version → Entry
entry_of path v = record { path = path; moment = v.moment; bytes = v.bytes }

abbrev pub file_of : List ℕ → Version → Card
file_of path v = File (entry_of path v)

-- the entries of a map, by path
abbrev pub entries_of : List (List ℕ × Version) → List Entry
entries_of m = map (λ e. entry_of e.0 e.1) m

-- the answer to an offer of a path by what it has here: it is asked for where the offer is greater or it isn't here,
-- and sent where the one here is greater or it isn't offered
abbrev pub answer_at : List ℕ → Option Version → Option (ℕ × List ℕ) → List Card
answer_at path None None = []
answer_at path None (Some offer) = Gimme path ∷ []
answer_at path (Some v) None = file_of path v ∷ []
answer_at path (Some v) (Some offer) = match_ordering (dated_cmp (stamp_of v) offer) (Gimme path ∷ []) [] (file_of path v ∷ [])

-- the answer to the offers of a message, by path
abbrev pub answered : List (List ℕ × Version) → List Card → List Card
answered m cards = flat_map (λ path. answer_at path (value_at m path) (offer_at cards path)) (ascending (keys_of m ++ offered_paths cards))

-- ---- what is given

-- the file of a path that is here
abbrev pub file_at : List ℕ → Option Version → List Card
file_at path None = []
file_at path (Some v) = file_of path v ∷ []

-- what is given for a card
abbrev pub given_for : List (List ℕ × Version) → Card → List Card
given_for m (Gimme path) = file_at path (value_at m path)
given_for m (Igot path moment hash size) = []
given_for m (File e) = []

-- a file for each card that asks for a path that is here, in order
abbrev pub given : List (List ℕ × Version) → List Card → List Card
given m cards = flat_map (given_for m) cards

-- ---- what is applied

-- the entries of a message's files
abbrev pub files : List Card → List Entry
files [] = []
files (File e ∷ cards) = e ∷ files cards
files (Igot path moment hash size ∷ cards) = files cards
files (Gimme path ∷ cards) = files cards

-- the map with the files of a message
abbrev pub applied : List (List ℕ × Version) → List Card → List (List ℕ × Version)
applied m cards = merge m (uv (files cards))

-- whether a path has an equal or a greater version already
abbrev pub is_kept : List (List ℕ × Version) → Entry → Bool
is_kept m e = option_map_or (λ v. not (is_lt (version_cmp v (version_of e)))) (value_at m e.path) false

-- the map with one entry
abbrev pub with_entry : List (List ℕ × Version) → Entry → List (List ℕ × Version)
with_entry m e = merge m ((e.path, version_of e) ∷ [])

-- which of some entries are stored where they are put in one after another
abbrev pub stored : List (List ℕ × Version) → List Entry → List Entry
stored m [] = []
stored m (e ∷ entries) = if is_kept m e then stored m entries else e ∷ stored (with_entry m e) entries

-- ---- a sync

-- the answer of the peer, whose map is v, to the offer of the map u
abbrev pub peer_answer : List (List ℕ × Version) → List (List ℕ × Version) → List Card
peer_answer u v = answered v (offered u)

-- what is here after it, and at the peer
abbrev pub synced_here : List (List ℕ × Version) → List (List ℕ × Version) → List (List ℕ × Version)
synced_here u v = applied u (peer_answer u v)

abbrev pub synced_there : List (List ℕ × Version) → List (List ℕ × Version) → List (List ℕ × Version)
synced_there u v = applied v (given u (peer_answer u v))

-- two versions of a path with one moment and one hash are the same
abbrev pub AgreeAt : List (List ℕ × Version) → List (List ℕ × Version) → List ℕ → Type 0
AgreeAt u v path = (x y : Version) → value_at u path ≡ Some x → value_at v path ≡ Some y → stamp_cmp x y ≡ Equal → x ≡ y
