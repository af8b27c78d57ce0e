-- What clauses see of the held artifacts, and what an announcement meets.
use Rattle.std.specs.Prelude.{◌≡◌, ◌≤◌, ◌^◌, ℕ, List, [], ◌∷◌, ◌++◌, length, true, false, nat_le, if◌then◌else◌, Contains}
use Rattle.std.specs.List.{list_any}
use Rattle.std.specs.Str.{bytes_eq}
use Rattle.std.specs.FinMap as map_of
use Rattle.std.specs.FinSet as set
use Rattle.std.specs.FinSet.{FinSet}
use Rattle.fsl_order.specs.Names.{bytes_cmp}
use Rattle.fsl_record.specs.declared.Record.{Record}
use Rattle.fsl_blobs.specs.Fold.{Held, contents, held_from, held_as_from, size_in, walked, IsBlobAt}
use Rattle.fsl_blobs.specs.Held.{still_new}
use Rattle.fsl_blobs.specs.declared.Holding.{Holding}
use Rattle.fsl_blobs.specs.declared.Known.{Known}
use Rattle.fsl_blobs.specs.declared.Known.TheVariants as known

-- all records that were read, in order, where the content of each begins in the file, the announced names, and the contents that are kept in memory, by the places of their records
pub record Seen : Type 0 where
  pub records : List Record
  pub starts : List ℕ
  pub announced : FinSet bytes_cmp
  pub cached : List (ℕ × List ℕ)

-- what is kept in memory of contents is what their records have
abbrev pub AreTrue : Seen → Type 0
AreTrue b = (e : ℕ × List ℕ) → Contains b.cached e → (name : List ℕ) × IsBlobAt b.records e.0 name e.1

-- what is kept in memory of contents is little: at most 64 of them, and each has at most 2^20 bytes
pub record IsBounded (cached : List (ℕ × List ℕ)) : Type 0 where
  pub few : length cached ≤ 64
  pub short : (e : ℕ × List ℕ) → Contains cached e → length e.1 ≤ 2 ^ 20

-- what a record more leaves, whose content begins at this place in the file: the announced names that it doesn't settle are still announced
abbrev pub applied : Seen → ℕ → Record → Seen
applied b at entry = record b {
  records = b.records ++ entry ∷ [];
  starts = b.starts ++ at ∷ [];
  announced = still_new (contents (b.records ++ entry ∷ [])) b.announced;
}

-- each held name is among those from place 0 on
abbrev pub ListsAllHeld : List Record → Type 0
ListsAllHeld records = (name : List ℕ) → map_of.contains_key (contents records).held name ≡ true → list_any (λ p. bytes_eq p.1 name) (held_from records 0) ≡ true

-- the first public names from a place on, by place, whose sizes, and so much for each, reach a sum
abbrev pub public_front : List Record → ℕ → ℕ → ℕ → List (ℕ × List ℕ)
public_front records from most each = walked most each (size_in (contents records).held) 0 (held_as_from false records from)

-- what an announcement of the name meets: the first of these that is so
abbrev pub known_of : Seen → List ℕ → Known
known_of b name =
    if map_of.contains_key (contents b.records).held name then known.Held
    else if set.contains (contents b.records).shunned name then known.Shunned
    else if set.contains b.announced name then known.Again
    else if nat_le 65536 (set.len b.announced) then known.Full
    else known.New

-- what is left by that answer: a new name is announced, and nothing else changes
abbrev pub announced_after : Seen → List ℕ → Known → Seen
announced_after b name known.New = record b { announced = set.insert b.announced name }
announced_after b name _ = b

-- a held artifact, under its name
abbrev pub held_as : Holding → List ℕ × Held
held_as h = (h.name, record { private = h.private; bytes = h.bytes.now.value })

-- a held artifact is that of the blob at its place, and has the size of its bytes
pub record IsHolding (records : List Record) (h : Holding) : Type 0 where
  pub blob : IsBlobAt records h.place h.name h.bytes.now.value
  pub size : h.size ≡ length h.bytes.now.value
