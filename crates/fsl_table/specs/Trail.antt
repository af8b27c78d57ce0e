-- Several tables, and several changes of one table.
use Rattle.std.specs.Prelude.{ℕ, List, [], ◌∷◌, ⊤}
use Rattle.fsl_order.specs.TableState.{TableState, Change, IsAsBefore, AreAtMost}

-- the numbers of each list are at most those beside them, one list a table
abbrev pub AreAllAtMost : List (List ℕ) → List (List ℕ) → Type 0
AreAllAtMost [] [] = ⊤
AreAllAtMost (ms ∷ mss) (ns ∷ nss) = AreAtMost ms ns × AreAllAtMost mss nss
AreAllAtMost [] (ns ∷ nss) = ⊥
AreAllAtMost (ms ∷ mss) [] = ⊥

-- changes of one table, the first one first, lead from a table to another: what stood before each is as good as what stood then
abbrev pub Leads : {F : Type 0} → TableState F → List (Change F) → TableState F → Type 0
Leads first [] now = IsAsBefore first now
Leads first (u ∷ us) now = IsAsBefore first u.before × Leads u.after us now
