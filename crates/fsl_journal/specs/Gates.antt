-- A file by its gates, and how it grows while it is read.
use Rattle.std.specs.Prelude.{◌≡◌, ◌≢◌, ◌⊎◌, ℕ, ◌+◌, ◌<◌, ◌≤◌, ◌^◌, List, ◌∷◌, ◌++◌, length, take, drop, flat_map}
use Rattle.std.specs.List.{AllByRecursion}
use Rattle.fsl_journal.specs.Commit.{eight, marked}
use Rattle.fsl_journal.specs.File.{header, mark_1, open_gate}

-- a group by its bytes: an open gate, the length of what it holds, and that
abbrev pub part_bytes : List ℕ → List ℕ
part_bytes held = open_gate ∷ eight (length held) ++ held

-- where the gate behind such groups stands
abbrev pub gate_of : List (List ℕ) → ℕ
gate_of groups = 15 + length (flat_map part_bytes groups)

-- the bytes are a header with this mark, open groups that hold these, a closed gate, and any bytes
pub record HasGroups (mark : ℕ) (groups : List (List ℕ)) (bytes : List ℕ) : Type 0 where
  pub gate : ℕ
  pub rest : List ℕ
  pub layout : bytes ≡ header mark ++ flat_map part_bytes groups ++ gate ∷ rest
  pub closed : gate ≢ open_gate
  pub sized : AllByRecursion (λ group. length group < 2 ^ 64) groups

-- the second file goes on from the first: the groups of this and maybe more, and its mark, or this had the mark of version 1
abbrev pub GoesOn : List ℕ → List ℕ → Type 0
GoesOn one other = (mark : ℕ) (groups : List (List ℕ)) → HasGroups mark groups one →
    (later : ℕ) × ((more : List (List ℕ)) × HasGroups later (groups ++ more) other × ((later ≡ mark) ⊎ (mark ≡ mark_1)))

-- what the writers of a file keep from a moment on: it has a header and groups, and goes on from each moment to each later one
pub record Grows (held : ℕ → List ℕ) (from : ℕ) : Type 0 where
  pub mark : ℕ
  pub groups : List (List ℕ)
  pub first : HasGroups mark groups (held from)
  pub on : (m n : ℕ) → from ≤ m → m ≤ n → GoesOn (held m) (held n)

-- ---- while the gates are walked

-- behind some of the groups a gate stands at this place, open or closed
pub record IsGateAt (place : ℕ) (bytes : List ℕ) : Type 0 where
  pub mark : ℕ
  pub before : List (List ℕ)
  pub behind : List (List ℕ)
  pub has : HasGroups mark (before ++ behind) bytes
  pub at : place ≡ gate_of before

-- it is open, and its group holds so many bytes
pub record IsOpenAt (place size : ℕ) (bytes : List ℕ) : Type 0 where
  pub mark : ℕ
  pub before : List (List ℕ)
  pub group : List ℕ
  pub behind : List (List ℕ)
  pub has : HasGroups mark (before ++ group ∷ behind) bytes
  pub at : place ≡ gate_of before
  pub long : size ≡ length group

-- at each moment from this one on
abbrev pub From : (ℕ → List ℕ) → ℕ → (List ℕ → Type 0) → Type 0
From held from P = (m : ℕ) → from ≤ m → P (held m)

-- ---- what a writer does

-- behind the closed gate stand a group that is whole, and a closed gate
pub record HasNext (group : List ℕ) (behind : List ℕ) : Type 0 where
  pub gate : ℕ
  pub rest : List ℕ
  pub layout : behind ≡ eight (length group) ++ group ++ gate ∷ rest
  pub closed : gate ≢ open_gate
  pub sized : length group < 2 ^ 64

-- what stands before the closed gate at this place stays, and a closed gate: nothing changed, or bytes were written or cut behind it
pub record KeepsGate (place : ℕ) (one other : List ℕ) : Type 0 where
  pub front : take place other ≡ take place one
  pub gate : ℕ
  pub rest : List ℕ
  pub behind : drop place other ≡ gate ∷ rest
  pub closed : gate ≢ open_gate

-- the gate is opened, behind which a group stands
abbrev pub OpensGate : ℕ → List ℕ → List ℕ → Type 0
OpensGate place one other = (group : List ℕ) × HasNext group (drop (place + 1) one) × (other ≡ take place one ++ open_gate ∷ drop (place + 1) one)

-- a file of version 1 is carried over
abbrev pub CarriesMark : ℕ → List ℕ → List ℕ → Type 0
CarriesMark mark one other = (mark ≡ mark_1) × ((later : ℕ) × (other ≡ marked later one))

-- what a writer makes of a file in one step of a commit, or of an opening that cuts
pub record Next (one other : List ℕ) : Type 0 where
  pub mark : ℕ
  pub groups : List (List ℕ)
  pub has : HasGroups mark groups one
  pub step : KeepsGate (gate_of groups) one other ⊎ CarriesMark mark one other ⊎ OpensGate (gate_of groups) one other
