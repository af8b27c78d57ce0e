-- What contracts see of a table of facts, and of a change of it.
use Rattle.std.specs.Prelude.{◌≡◌, ◌≤◌, ℕ, List, [], ◌∷◌, ⊤}

-- a table: its facts by name, and the room that each map inside has to spare; none for a body without maps
pub record TableState (F : Type 0) : Type 0 where
  pub facts : List F
  pub spare : List ℕ

-- numbers are at most those beside them
abbrev pub AreAtMost : List ℕ → List ℕ → Type 0
AreAtMost [] [] = ⊤
AreAtMost (m ∷ ms) (n ∷ ns) = (m ≤ n) × AreAtMost ms ns
AreAtMost [] (n ∷ ns) = ⊥
AreAtMost (m ∷ ms) [] = ⊥

-- a table is as before: it has the same facts, and no less room
pub record IsAsBefore {F : Type 0} (before now : TableState F) : Type 0 where
  pub facts : now.facts ≡ before.facts
  pub spare : AreAtMost before.spare now.spare

-- a change of a table: what it was, what it became, and the names whose rows differ
pub record Change (F : Type 0) : Type 0 where
  pub before : TableState F
  pub after : TableState F
  pub changed : List (List ℕ)
