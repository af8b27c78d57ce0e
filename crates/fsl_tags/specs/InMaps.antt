-- What the maps hold, and how far a change of them has come.
use Rattle.std.specs.Prelude.{◌≡◌, ◌+◌, ◌++◌, ◌∷◌, ◌⊎◌, ℕ, List, [], Option, None, Some, cond, length, true, false}
use Rattle.std.specs.List.{AllByRecursion}
use Rattle.std.specs.Map.{keys_of}
use Rattle.std.specs.Str.{bytes_eq}
use Rattle.fsl_order.specs.Names.{bytes_cmp}
use Rattle.fsl_table.specs.Contents.{with_entry}
use Rattle.fsl_table.specs.Pairs.{seconds}
use Rattle.fsl_table.specs.Tracked.{Course}
use Rattle.fsl_tags.specs.declared.Assertion.{Assertion}
use Rattle.fsl_tags.specs.declared.Fact.{Fact}
use Rattle.fsl_tags.specs.declared.maps.Flow.{Flow}
use Rattle.fsl_tags.specs.declared.maps.Graph.{Graph}
use Rattle.fsl_tags.specs.declared.node.Node.{Node}
use Rattle.fsl_tags.specs.Climbed.{row_up}
use Rattle.fsl_tags.specs.Joined.{joined}
use Rattle.fsl_tags.specs.Laid.{row_in, parent_in, settled, AreLaid, AreNoted, AreRight}
use Rattle.fsl_tags.specs.Laying.{IsGrouped}
use Rattle.fsl_tags.specs.Quick.{IsIdle, IsQuick}
use Rattle.fsl_tags.specs.Same.{same_rows}
use Rattle.fsl_tags.specs.Spread.{wrong, IsSpread, IsSpreading}

abbrev pub Own : Type 0
Own = Course (List ℕ) (List Assertion)

-- the row of a name
abbrev pub row_at : Flow → List ℕ → List Assertion
row_at flow = row_in flow.rows.held.entries

-- the own row of a name, its primary parent, and its children
abbrev pub own_at : Own → List ℕ → List Assertion
own_at own = row_in own.held.entries

abbrev pub parents : Graph → List ℕ → Option (List ℕ)
parents graph = parent_in graph.facts.held.entries

abbrev pub kids_of : Graph → List ℕ → List (List ℕ)
kids_of graph name = seconds name graph.children.held.entries

-- the row that it is to have
abbrev pub right_at : Graph → Own → List ℕ → List Assertion
right_at graph own = settled graph.facts.held.entries own.held.entries

abbrev pub AreLaidBy : Graph → Own → Type 0
AreLaidBy graph own = AreLaid graph.facts.held.entries graph.children.held.entries own.held.entries

abbrev pub AreRightBy : Graph → Own → Flow → Type 0
AreRightBy graph own flow = AreRight graph.facts.held.entries graph.children.held.entries own.held.entries flow.rows.held.entries

abbrev pub IsGroupedBy : Graph → List (List ℕ × List Assertion) → Type 0
IsGroupedBy graph groups = IsGrouped graph.facts.held.entries graph.children.held.entries groups

-- each row but the root's follows from its parent's
abbrev pub AreEven : Graph → Own → List ℕ → Flow → Type 0
AreEven graph own root flow = (x : List ℕ) → bytes_eq x root ≡ false → row_at flow x ≡ joined (row_up (row_at flow) (parents graph x)) (own_at own x)

-- the same, but for the children of the root
abbrev pub AreEvenBelow : Graph → Own → List ℕ → Flow → Type 0
AreEvenBelow graph own root flow =
    (x : List ℕ) → bytes_eq x root ≡ false → (row_at flow x ≡ joined (row_up (row_at flow) (parents graph x)) (own_at own x)) ⊎ (parents graph x ≡ Some root)

-- each row is what it was, or right
abbrev pub AreOldOrRight : Graph → Own → Flow → Flow → Type 0
AreOldOrRight graph own old new = (x : List ℕ) → (row_at new x ≡ row_at old x) ⊎ (row_at new x ≡ right_at graph own x)

-- the row of the root is taken down but to the children of the names that wait
abbrev pub IsTakenDown : Graph → Own → List ℕ → List (List ℕ) → Flow → Flow → Type 0
IsTakenDown graph own root waiting old new = IsSpread (parents graph) (own_at own) (right_at graph own) root waiting (row_at old) (row_at new)

-- and but to these children of a name
abbrev pub IsComingDown : Graph → Own → List ℕ → List ℕ → List (List ℕ) → Flow → Flow → Type 0
IsComingDown graph own root at left old new = IsSpreading (parents graph) (own_at own) (right_at graph own) root at left new.waiting.items (row_at old) (row_at new)

-- the names that wait, and a name unless its row is this
abbrev pub waiting_with : Flow → List ℕ → List Assertion → List (List ℕ)
waiting_with flow name row = flow.waiting.items ++ cond (same_rows (row_at flow name) row) [] (name ∷ [])

-- how much is left to do at most
abbrev pub left_to_do : Graph → Own → Flow → ℕ
left_to_do graph own flow = length flow.waiting.items + wrong (right_at graph own) (row_at flow) (keys_of graph.facts.held.entries)

-- the facts are the same but for that of a name
abbrev pub AreButFor : List ℕ → Graph → Graph → Type 0
AreButFor name old new = (node : Node) → with_entry bytes_cmp name node new.facts.held.entries ≡ with_entry bytes_cmp name node old.facts.held.entries

-- none but the root
abbrev pub AreOnly : List ℕ → List (List ℕ) → Type 0
AreOnly root names = AllByRecursion (λ c. bytes_eq c root ≡ true) names

-- nothing was done; at most so many touches, and nothing was put
abbrev pub IsStill : ℕ → ℕ → Flow → Flow → Type 0
IsStill steps then old new = IsIdle steps then old.rows.back new.rows.back old.waiting.items new.waiting.items

abbrev pub IsBrief : ℕ → ℕ → ℕ → Flow → Flow → Type 0
IsBrief most steps then old new = IsQuick most steps then old.rows.back new.rows.back

-- the names have no children
abbrev pub AreChildless : Graph → List Assertion → Type 0
AreChildless graph as_ = AllByRecursion (λ a. kids_of graph a.target ≡ []) as_

-- all that the fact asserts is on itself
abbrev pub IsOnItself : Fact → Type 0
IsOnItself fact = AllByRecursion (λ a. a.target ≡ fact.name) fact.tags

-- for a name that has neither parent nor children
abbrev pub IfAlone : Graph → List ℕ → Type 0 → Type 0
IfAlone graph name P = parents graph name ≡ None → kids_of graph name ≡ [] → P

-- how many rows are noted
abbrev pub notes : Flow → ℕ
notes flow = length flow.noted.entries

abbrev pub back_of : Graph → ℕ
back_of graph = graph.facts.back + graph.children.back

-- what is noted was right of the rows before, so it is of those now
abbrev pub StayNoted : Flow → Flow → Type 0
StayNoted old new = (before : List ℕ → List Assertion) → AreNoted before old.noted.entries old.rows.held.entries → AreNoted before new.noted.entries new.rows.held.entries

-- and stays so once the row of a name is another
abbrev pub HasNoted : List ℕ → List Assertion → List (List ℕ × List Assertion) → List (List ℕ × List Assertion) → Type 0
HasNoted name row old new =
    (before : List ℕ → List Assertion) (now then : List (List ℕ × List Assertion)) → row ≡ row_in now name → ((x : List ℕ) → bytes_eq x name ≡ false → row_in then x ≡ row_in now x)
    → AreNoted before old now → AreNoted before new then
