-- What the commands over a store print and put in, by its map alone.
use Rattle.std.specs.Prelude.{ℕ, nat_lt, List, [], ◌∷◌, ◌++◌, length, flat_map, Option, Some, None, codes, decimal, if◌then◌else◌}
use Rattle.std.specs.List.{join_with_byte}
use Rattle.fsl_text.specs.Escapes.{escape}
use Rattle.fsl_text.specs.Limits.{most_of_message}
use Rattle.fsl_name.specs.Name.{name_text}
use Rattle.fsl_date.specs.Moment.{moment_text}
use Rattle.fsl_order.specs.Maps.{value_at}
use Rattle.fsl_uv.specs.declared.Entry.{Entry}
use Rattle.fsl_uv.specs.Entries.{Version, hash_text, content, most_of_content}
use Rattle.fsl_uv.specs.Cards.{hashed}
use Rattle.fsl_uv.specs.Maps.{is_over}
use Rattle.fsl_uv.specs.Syncing.{is_kept, with_entry, stored, files, given, peer_answer, synced_here, synced_there}

-- the text that is printed, or the text behind `refused: `
pub data Said : Type 0 where
  printed : List ℕ → Said
  refused : List ℕ → Said

-- what a command says, the entries that it stores here, and those that it stores in the peer's file
pub record Done : Type 0 where
  pub said : Said
  pub here : List Entry
  pub there : List Entry

abbrev pub says : Said → Done
says what = record { said = what; here = []; there = [] }

-- ---- uv-list, uv-cat

-- a line `MOMENT HASH SIZE PATH`
abbrev pub list_line : List ℕ → ℕ → List ℕ → List ℕ
list_line path moment bytes = join_with_byte 32 (moment_text moment ∷ hash_text (Some bytes) ∷ decimal (length bytes) ∷ escape path ∷ []) ++ 10 ∷ []

-- the same by the name of the content and its size
abbrev pub listed_line : List ℕ → ℕ → Option (List ℕ) → ℕ → List ℕ
listed_line path moment hash size = moment_text moment ++ (32 ∷ (hashed hash ++ (32 ∷ (decimal size ++ (32 ∷ (escape path ++ (10 ∷ [])))))))

-- none of a deleted file
abbrev pub line_for : List ℕ → ℕ → Option (List ℕ) → List ℕ
line_for path moment None = []
line_for path moment (Some bytes) = list_line path moment bytes

abbrev pub line_of : List ℕ × Version → List ℕ
line_of e = line_for e.0 e.1.moment e.1.bytes

-- the lines of a map, by path
abbrev pub listed : List (List ℕ × Version) → List ℕ
listed m = flat_map line_of m

abbrev pub list_done : List (List ℕ × Version) → Done
list_done m = says (printed (listed m))

-- the content of a path that isn't deleted
abbrev pub file_in : Option Version → Option (List ℕ)
file_in None = None
file_in (Some v) = v.bytes

abbrev pub no_file : List ℕ → Said
no_file path = refused (codes "no file " ++ escape path)

abbrev pub cat_done : List (List ℕ × Version) → List ℕ → Done
cat_done m path = said (file_in (value_at m path))
  where
    said : Option (List ℕ) → Done
    said None = says (no_file path)
    said (Some bytes) = says (printed bytes)

-- ---- uv-add, uv-remove

-- an entry is put in: it is too large, kept, too many with it, or stored
abbrev pub put_done : List (List ℕ × Version) → Entry → Done
put_done m e =
    if nat_lt most_of_content (length (content e.bytes)) then says (refused (codes "too large " ++ escape e.path ++ 32 ∷ decimal (length (content e.bytes))))
    else if is_kept m e then says (printed (codes "kept " ++ escape e.path ++ 10 ∷ []))
    else if is_over (with_entry m e) then says (refused (codes "full"))
    else record { said = printed (codes "stored " ++ escape e.path ++ 10 ∷ []); here = e ∷ []; there = [] }

-- the input becomes the content of a path from a moment on
abbrev pub add_done : List (List ℕ × Version) → List ℕ → ℕ → List ℕ → Done
add_done m path moment input =
    if nat_lt most_of_message (length input) then says (refused (codes "input too long"))
    else put_done m (record { path = path; moment = moment; bytes = Some input })

-- a path that is there and isn't deleted is deleted from a moment on
abbrev pub remove_done : List (List ℕ × Version) → List ℕ → ℕ → Done
remove_done m path moment = removed (file_in (value_at m path))
  where
    removed : Option (List ℕ) → Done
    removed None = says (no_file path)
    removed (Some bytes) = put_done m (record { path = path; moment = moment; bytes = None })

-- ---- uv-sync

-- the entries that the first apply stores here, and those that the second stores at the peer
abbrev pub received : List (List ℕ × Version) → List (List ℕ × Version) → List Entry
received u v = stored u (files (peer_answer u v))

abbrev pub sent : List (List ℕ × Version) → List (List ℕ × Version) → List Entry
sent u v = stored v (files (given u (peer_answer u v)))

-- a map that would be above a limit is refused: here before anything is stored; at the peer behind what was stored here, which comes
-- only where two versions of a path with one moment and one hash differ
abbrev pub sync_done : List (List ℕ × Version) → List (List ℕ × Version) → Done
sync_done u v =
    if is_over (synced_here u v) then says (refused (codes "full"))
    else if is_over (synced_there u v) then record { said = refused (codes "full"); here = received u v; there = [] }
    else record { said = printed (codes "received " ++ decimal (length (received u v)) ++ codes "\nsent " ++ decimal (length (sent u v)) ++ 10 ∷ []); here = received u v; there = sent u v }

-- ---- refusals before the map is looked at

-- a Blob that is no entry
abbrev pub not_unversioned : List ℕ → Said
not_unversioned name = refused (codes "not unversioned " ++ name_text name)

-- a peer of another project
abbrev pub other_project : List ℕ → Said
other_project code = refused (codes "other project " ++ name_text code)
