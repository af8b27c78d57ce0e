-- Maps from paths to versions: the newest of some entries, and the merge of two maps.
use Rattle.std.specs.Prelude.{◌+◌, ℕ, Bool, ◌||◌, nat_lt, ◌^◌, List, [], ◌∷◌, ◌++◌, length, map, filter, Option, Some, None}
use Rattle.std.specs.declared.cmp.Ordering.{Ordering}
use Rattle.std.specs.Ordering.{ordering_then}
use Rattle.std.specs.Str.{bytes_eq}
use Rattle.std.specs.Map.{keys_of}
use Rattle.fsl_order.specs.Names.{bytes_cmp, dated_cmp}
use Rattle.fsl_order.specs.Rows.{ascending, greater, greatest}
use Rattle.fsl_order.specs.Maps.{value_at}
use Rattle.fsl_uv.specs.declared.Entry.{Entry}
use Rattle.fsl_uv.specs.Entries.{Version, version_of, hash_text, content}

-- a moment, and the hash as it is written
abbrev pub stamp_of : Version → ℕ × List ℕ
stamp_of v = (v.moment, hash_text v.bytes)

-- by moment, and at one moment by the hash
abbrev pub stamp_cmp : Version → Version → Ordering
stamp_cmp a b = dated_cmp (stamp_of a) (stamp_of b)

-- and where these are the same by content
abbrev pub version_cmp : Version → Version → Ordering
version_cmp a b = ordering_then (stamp_cmp a b) (bytes_cmp (content a.bytes) (content b.bytes))

-- what stands before a map at a path
abbrev pub before : List ℕ → Option Version → List (List ℕ × Version) → List (List ℕ × Version)
before path None m = m
before path (Some v) m = (path, v) ∷ m

-- what some paths have, path by path
abbrev pub each : List (List ℕ) → (List ℕ → Option Version) → List (List ℕ × Version)
each [] f = []
each (path ∷ paths) f = before path (f path) (each paths f)

-- the versions that entries say of a path
abbrev pub versions : List Entry → List ℕ → List Version
versions entries path = map version_of (filter (λ e. bytes_eq path e.path) entries)

-- the greatest of these, where there is one
abbrev pub newest : List Entry → List ℕ → Option Version
newest entries path = greatest version_cmp (versions entries path)

-- the map of some entries: each of their paths, ascending, with its greatest version
abbrev pub uv : List Entry → List (List ℕ × Version)
uv entries = each (ascending (map (λ e. e.path) entries)) (newest entries)

-- what two maps have at a path: the greater version
abbrev pub greater_at : List (List ℕ × Version) → List (List ℕ × Version) → List ℕ → Option Version
greater_at u v path = greater version_cmp (value_at u path) (value_at v path)

-- the merge of two maps: each path of one of them, ascending, with the greater version
abbrev pub merge : List (List ℕ × Version) → List (List ℕ × Version) → List (List ℕ × Version)
merge u v = each (ascending (keys_of u ++ keys_of v)) (greater_at u v)

-- ---- limits

-- the most bytes of all contents, and the most paths, deleted ones included
abbrev pub most_bytes : ℕ
most_bytes = 2 ^ 26

abbrev pub most_paths : ℕ
most_paths = 65536

-- the bytes of all contents
abbrev pub total : List (List ℕ × Version) → ℕ
total [] = 0
total (e ∷ m) = length (content e.1.bytes) + total m

-- whether a map is above one of these
abbrev pub is_over : List (List ℕ × Version) → Bool
is_over m = nat_lt most_bytes (total m) || nat_lt most_paths (length m)
