-- What the code keeps of the records.
use Rattle.std.specs.Prelude.{◌≡◌, ℕ, ◌+◌, ◌-◌, ◌≤◌, ◌*◌, ◌^◌, length, List, Bool, true, false, not, ◌&&◌, ◌||◌, if◌then◌else◌, Option, Some, None, IfSome, is_some, slice_get, Contains}
use Rattle.std.specs.List.{list_any}
use Rattle.std.specs.Map.{lookup}
use Rattle.std.specs.Option.{option_map, option_map_or}
use Rattle.std.specs.Ordering.{is_eq, nat_cmp}
use Rattle.std.specs.FinMap as map_of
use Rattle.std.specs.FinSet as set
use Rattle.fsl_order.specs.Names.{bytes_cmp}
use Rattle.lru.specs.LruCache.{LruCache}
use Rattle.fsl_name.specs.Name.{name_of}
use Rattle.fsl_record.specs.Receipts.{Brought}
use Rattle.fsl_record.specs.declared.Config.{Config}
use Rattle.fsl_record.specs.declared.Record.{Record}
use Rattle.fsl_blobs.specs.declared.blobs.HeldArtifact.{HeldArtifact}
use Rattle.fsl_blobs.specs.declared.contents.Spot.{Spot}
use Rattle.fsl_blobs.specs.declared.order.Order.{Order}
use Rattle.fsl_blobs.specs.Fold.{Held, contents, is_new, place, held_bytes, IsBlobAt}
use Rattle.fsl_blobs.specs.Seen.{IsBounded}

-- whether two names are the same
abbrev pub is_same : List ℕ → List ℕ → Bool
is_same a b = is_eq (bytes_cmp a b)

-- the artifact of a name
abbrev pub held_at : List (List ℕ × HeldArtifact) → List ℕ → Option HeldArtifact
held_at entries name = lookup (is_same name) entries

-- whether a name is one of these
abbrev pub stands : List (List ℕ) → List ℕ → Bool
stands names name = list_any (is_same name) names

-- whether a name is held or shunned
abbrev pub is_kept : List (List ℕ × HeldArtifact) → List (List ℕ) → List ℕ → Bool
is_kept entries shuns name = is_some (held_at entries name) || stands shuns name

-- the artifact of a name after another, or the same, was published
abbrev pub published : List ℕ → List ℕ → HeldArtifact → HeldArtifact
published name q a = if is_same name q then record a { private = false } else a

-- a held artifact as definitions see it
abbrev pub artifact_of : HeldArtifact → Held
artifact_of a = record { private = a.private; bytes = a.bytes.value }

-- the receipt of an artifact that may not be there
abbrev pub receipt_of : Option HeldArtifact → Option Brought
receipt_of o = option_map_or (λ a. a.receipt) o None

-- the map and the sets have what the records leave, and announced names are neither held nor shunned
pub record IsKept (records : List Record) (found : Config) (entries : List (List ℕ × HeldArtifact)) (shuns announced : List (List ℕ)) : Type 0 where
  pub config : (contents records).config ≡ Some found
  pub held : (name : List ℕ) → option_map artifact_of (held_at entries name) ≡ map_of.get (contents records).held name
  pub places : (name : List ℕ) → IfSome (held_at entries name) (λ a. place records name ≡ Some a.place)
  pub receipts : (name : List ℕ) → receipt_of (held_at entries name) ≡ map_of.get (contents records).receipts name
  pub shunned : (name : List ℕ) → stands shuns name ≡ set.contains (contents records).shunned name
  pub new : (name : List ℕ) → stands announced name ≡ true → is_new (contents records) name ≡ true

-- ---- where contents stand

-- an artifact is that of the blob at its place; the content of that record begins in the file where the artifact says, and has its size and its name
pub record IsFrom (records : List Record) (starts name : List ℕ) (a : HeldArtifact) : Type 0 where
  pub blob : IsBlobAt records a.place name a.bytes.value
  pub start : slice_get starts (a.place - 1) ≡ Some a.at
  pub size : a.size ≡ length a.bytes.value
  pub named : name ≡ name_of a.bytes.value

-- where the content of an artifact stands, which is there
abbrev pub IsSpotOf : Option HeldArtifact → Spot → Type 0
IsSpotOf None s = ⊥
IsSpotOf (Some a) s = (s.place ≡ a.place) × (s.at ≡ a.at) × (s.size ≡ a.size)

-- each held artifact is so
abbrev pub AreFrom : List Record → List ℕ → List (List ℕ × HeldArtifact) → Type 0
AreFrom records starts entries = (name : List ℕ) → IfSome (held_at entries name) (IsFrom records starts name)

-- bytes that are kept in memory for a record, by its place: they have the name and the size of its content
pub record IsCachedOf (records : List Record) (e : ℕ × List ℕ) : Type 0 where
  pub name : List ℕ
  pub bytes : List ℕ
  pub blob : IsBlobAt records e.0 name bytes
  pub named : name ≡ name_of e.1
  pub sized : length e.1 ≡ length bytes

abbrev pub AreCached : List Record → List (ℕ × List ℕ) → Type 0
AreCached records cached = (e : ℕ × List ℕ) → Contains cached e → IsCachedOf records e

-- ---- the names by their places

-- whether an artifact is of a kind: of the private ones, or of the public ones
abbrev pub is_kind : Bool → Bool → Bool
is_kind true private = private
is_kind false private = not private

-- whether two places are the same
abbrev pub is_place : ℕ → ℕ → Bool
is_place a b = is_eq (nat_cmp a b)

-- the names of a kind by their places, and the one at a place
abbrev pub names_in : Bool → Order → List (ℕ × List ℕ)
names_in true order = order.private.entries
names_in false order = order.public.entries

abbrev pub name_at : List (ℕ × List ℕ) → ℕ → Option (List ℕ)
name_at names n = lookup (is_place n) names

abbrev pub name_in : Bool → Order → ℕ → Option (List ℕ)
name_in kind order n = name_at (names_in kind order) n

-- the place of an artifact of a kind
abbrev pub place_as : Bool → Option HeldArtifact → Option ℕ
place_as kind None = None
place_as kind (Some a) = if is_kind kind a.private then Some a.place else None

-- what stands at a place of a kind, by what stood there: after an artifact is added unless its name was known; after a name is published; after it is taken out
abbrev pub added : Bool → List ℕ → HeldArtifact → Bool → ℕ → Option (List ℕ) → Option (List ℕ)
added known name a kind n before = if not known && (is_kind kind a.private && is_place a.place n) then Some name else before

abbrev pub revealed : List ℕ → Option HeldArtifact → Bool → ℕ → Option (List ℕ) → Option (List ℕ)
revealed name None kind n before = before
revealed name (Some a) kind n before = if a.private && is_place a.place n then (if kind then None else Some name) else before

abbrev pub gone : Option HeldArtifact → Bool → ℕ → Option (List ℕ) → Option (List ℕ)
gone None kind n before = before
gone (Some a) kind n before = if is_kind kind a.private && is_place a.place n then None else before

-- the places of the names of each kind, and the names at the places of each kind, are each other's
pub record Fits (place_of : Bool → List ℕ → Option ℕ) (name_of : Bool → ℕ → Option (List ℕ)) : Type 0 where
  pub there : (kind : Bool) (name : List ℕ) (n : ℕ) → place_of kind name ≡ Some n → name_of kind n ≡ Some name
  pub only : (kind : Bool) (name : List ℕ) (n : ℕ) → name_of kind n ≡ Some name → place_of kind name ≡ Some n

abbrev pub IsOrdered : List (List ℕ × HeldArtifact) → Order → Type 0
IsOrdered entries order = Fits (λ kind name. place_as kind (held_at entries name)) (λ kind n. name_in kind order n)

-- one record more, at this place, leaves names by their places
abbrev pub StaysOrdered : List (List ℕ × HeldArtifact) → List (List ℕ) → List (List ℕ) → ℕ → Order → List (List ℕ × HeldArtifact) → Order → Type 0
StaysOrdered entries shuns announced place order next after =
    (records : List Record) (found : Config) → IsKept records found entries shuns announced → place ≡ length records + 1 → IsOrdered entries order → IsOrdered next after

-- ---- all of it

-- where contents begin is known of each record, and of what is kept in memory, which is little; the sum of the held sizes is kept too; each is below 2^63, and there are no more of them than records
pub record IsCounted (records : List Record) (starts : List ℕ) (found : Config) (entries : List (List ℕ × HeldArtifact)) (shuns announced : List (List ℕ)) (total : ℕ) (order : Order) (cache : LruCache ℕ (List ℕ)) : Type 0 where
  pub kept : IsKept records found entries shuns announced
  pub from : AreFrom records starts entries
  pub as_many : length starts ≡ length records
  pub cached : AreCached records cache.entries
  pub bounded : IsBounded cache.entries
  pub cap : cache.cap ≡ 64
  pub ordered : IsOrdered entries order
  pub sum : total ≡ held_bytes (contents records).held
  pub small : total ≤ length records * 2 ^ 63
