-- How the tables hold the facts: the parents and the branch by name, a key for each parent, branch and child, and the leaves.
use Rattle.std.specs.Prelude.{◌≡◌, ◌+◌, ℕ, List, [], ◌∷◌, Bool, true, false, not, ◌&&◌, Option, Some, None, map, is_some, option_and_then}
use Rattle.std.specs.List.{list_any}
use Rattle.std.specs.Str.{bytes_eq}
use Rattle.std.specs.List.Sorted.{IsStrictlySortedBy}
use Rattle.std.specs.Map.{keys_of}
use Rattle.fsl_order.specs.Names.{bytes_cmp, has}
use Rattle.fsl_order.specs.TableState.{TableState}
use Rattle.fsl_table.specs.Contents.{Contents, value_at, with_entry}
use Rattle.fsl_table.specs.Undo.{IsAsGood}
use Rattle.fsl_leaves.specs.declared.Fact.{Fact}
use Rattle.fsl_leaves.specs.Keys.{Kin, kin_cmp, walked}
use Rattle.fsl_leaves.specs.declared.line.Line.{Line}
use Rattle.fsl_leaves.specs.declared.maps.Maps.{Maps}
use Rattle.fsl_leaves.specs.declared.maps.Ways.{Ways}

abbrev pub Lines : Type 0
Lines = List (List ℕ × Line)

abbrev pub fact_of : List ℕ × Line → Fact
fact_of e = record { name = e.0; parents = e.1.parents; branch = e.1.branch }

abbrev pub facts_of : Lines → List Fact
facts_of es = map fact_of es

-- the lines, with that of a fact
abbrev pub with_fact : Fact → Lines → Lines
with_fact f es = with_entry bytes_cmp f.name (record { parents = f.parents; branch = f.branch }) es

pub record Rows : Type 0 where
  pub facts : Contents (List ℕ) Line
  pub children : Contents Kin (Unit {0})
  pub leaves : Contents (List ℕ) (Unit {0})

abbrev pub held_of : Rows → TableState Fact
held_of r = record { facts = facts_of r.facts.entries; spare = r.facts.spare ∷ r.children.spare ∷ r.leaves.spare ∷ [] }

-- whether the check-in is there, and this is among its parents
abbrev pub lists : Option Line → List ℕ → Bool
lists None p = false
lists (Some l) p = has l.parents p

-- whether the check-in is there, in this branch
abbrev pub is_in : Option Line → List ℕ → Bool
is_in None b = false
is_in (Some l) b = bytes_eq l.branch b

-- whether a check-in has this parent and is in this branch
abbrev pub continues_in : Option Line → List ℕ → List ℕ → Bool
continues_in o q b = lists o q && is_in o b

-- there is a key exactly for each child, its branch and a parent
abbrev pub ArePairs : Lines → List (Kin × Unit {0}) → Type 0
ArePairs facts children = (k : Kin) → is_some (value_at kin_cmp k children) ≡ continues_in (option_and_then (λ c. value_at bytes_cmp c facts) k.second) k.first.parent k.first.branch

-- whether a name has a child in a branch
abbrev pub continued : Lines → List ℕ → List ℕ → Bool
continued facts q b = list_any (λ e. has e.1.parents q && bytes_eq e.1.branch b) facts

-- whether that is so of a check-in and its own branch
abbrev pub ends : Lines → List ℕ → Option Line → Bool
ends facts q None = false
ends facts q (Some l) = not (continued facts q l.branch)

-- whether the check-in of a name is there, and is a leaf
abbrev pub leaf : Lines → List ℕ → Bool
leaf facts q = ends facts q (value_at bytes_cmp q facts)

-- whether the check-in is there, and has no child in its own branch among the keys
abbrev pub ends_walk : List (Kin × Unit {0}) → List ℕ → Option Line → Bool
ends_walk children q None = false
ends_walk children q (Some l) = not (walked children q l.branch)

-- whether the check-in of a name is there, and is a leaf among the keys
abbrev pub counted : Lines → List (Kin × Unit {0}) → List ℕ → Bool
counted facts children q = ends_walk children q (value_at bytes_cmp q facts)

-- whether two answers differ
abbrev pub differs : Bool → Bool → Bool
differs true b = not b
differs false b = b

-- the names at which the leaves differ from what was before
abbrev pub AreFlipped : (List ℕ → Bool) → List (List ℕ) → List (List ℕ × Unit {0}) → Type 0
AreFlipped before changed leaves = (q : List ℕ) → has changed q ≡ differs (before q) (is_some (value_at bytes_cmp q leaves))

-- whatever was before, they are these names before a step and after it
abbrev pub StayFlipped : List (List ℕ) → Contents (List ℕ) (Unit {0}) → List (List ℕ) → Contents (List ℕ) (Unit {0}) → Type 0
StayFlipped changed leaves more now = (before : List ℕ → Bool) → AreFlipped before changed leaves.entries → AreFlipped before more now.entries

-- whether a name is among the leaves
abbrev pub stands : Contents (List ℕ) (Unit {0}) → List ℕ → Bool
stands leaves q = is_some (value_at bytes_cmp q leaves.entries)

pub record IsKept (r : Rows) : Type 0 where
  pub ordered : IsStrictlySortedBy bytes_cmp (keys_of r.facts.entries)
  pub pairs_ordered : IsStrictlySortedBy kin_cmp (keys_of r.children.entries)
  pub leaves_ordered : IsStrictlySortedBy bytes_cmp (keys_of r.leaves.entries)
  pub pairs : ArePairs r.facts.entries r.children.entries
  pub leaves : (q : List ℕ) → is_some (value_at bytes_cmp q r.leaves.entries) ≡ leaf r.facts.entries q

-- the maps as they are, as they were where the change began, and the steps from there
abbrev pub rows_of : Maps → Rows
rows_of m = record { facts = m.facts.held; children = m.children.held; leaves = m.leaves.held }

abbrev pub rows_before : Maps → Rows
rows_before m = record { facts = m.facts.was; children = m.children.was; leaves = m.leaves.was }

abbrev pub steps_back : Maps → ℕ
steps_back m = m.facts.back + m.children.back + m.leaves.back

-- where ways back end, and where they begin
abbrev pub starts_of : Ways → Rows
starts_of w = record { facts = w.facts.was; children = w.children.was; leaves = w.leaves.was }

abbrev pub ends_of : Ways → Rows
ends_of w = record { facts = w.facts.held; children = w.children.held; leaves = w.leaves.held }

-- each map is as good
pub record AreAsGood (before now : Rows) : Type 0 where
  pub facts : IsAsGood before.facts now.facts
  pub children : IsAsGood before.children now.children
  pub leaves : IsAsGood before.leaves now.leaves
