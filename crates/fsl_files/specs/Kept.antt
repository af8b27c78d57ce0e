-- How the tables hold the check-ins: each by its name, and a pair for each baseline and each primary parent with the check-in that has it.
use Rattle.std.specs.Prelude.{◌≡◌, ◌+◌, ℕ, List, [], ◌∷◌, length, Bool, ◌||◌, cond, Option, Some, None, map, is_some, option_and_then, IfSome}
use Rattle.std.specs.List.{list_any}
use Rattle.std.specs.List.Sorted.{IsStrictlySortedBy}
use Rattle.std.specs.Map.{keys_of}
use Rattle.std.specs.Str.{bytes_eq}
use Rattle.fsl_order.specs.TableState.{TableState}
use Rattle.fsl_order.specs.Names.{bytes_cmp, has}
use Rattle.fsl_order.specs.Rows.{ListsChanged}
use Rattle.fsl_table.specs.Exact.{pair_cmp}
use Rattle.fsl_table.specs.declared.key.Pair.{Pair}
use Rattle.fsl_table.specs.Contents.{Contents, value_at, with_entry}
use Rattle.fsl_table.specs.Pairs.{is_name, seconds}
use Rattle.fsl_table.specs.Undo.{IsAsGood}
use Rattle.fsl_files.specs.declared.Fact.{Fact}
use Rattle.fsl_files.specs.declared.entry.Entry.{Entry}
use Rattle.fsl_files.specs.declared.maps.Maps.{Maps}
use Rattle.fsl_files.specs.declared.maps.Ways.{Ways}
use Rattle.fsl_files.specs.Conditions.{IsFilesFact}
use Rattle.fsl_files.specs.Files.{files_row}

abbrev pub Lines : Type 0
Lines = List (List ℕ × Entry)

abbrev pub Pairs : Type 0
Pairs = List (Pair × Unit {0})

abbrev pub fact_of : List ℕ × Entry → Fact
fact_of e = record { name = e.0; baseline = e.1.baseline; parent = e.1.parent; files = e.1.files }

abbrev pub facts_of : Lines → List Fact
facts_of es = map fact_of es

-- what a check-in has beside its name
abbrev pub entry_of : Fact → Entry
entry_of f = record { baseline = f.baseline; parent = f.parent; files = f.files }

-- with a check-in, where there is one, in the place of that of its name
abbrev pub with_line : Option (List ℕ × Entry) → Lines → Lines
with_line None es = es
with_line (Some e) es = with_entry bytes_cmp e.0 e.1 es

-- the check-in meets its condition, whatever its name is
abbrev pub IsFit : Entry → Type 0
IsFit e = IsFilesFact (fact_of ([], e))

-- each does
abbrev pub AreFit : Lines → Type 0
AreFit es = (q : List ℕ) → IfSome (value_at bytes_cmp q es) IsFit

-- the name of the baseline of a check-in
abbrev pub baseline_at : Lines → List ℕ → Option (List ℕ)
baseline_at es q = option_and_then (λ e. e.baseline) (value_at bytes_cmp q es)

-- the name of its primary parent
abbrev pub parent_at : Lines → List ℕ → Option (List ℕ)
parent_at es q = option_and_then (λ e. e.parent) (value_at bytes_cmp q es)

-- there is a pair exactly for each name and the one to which it belongs
pub record AreOf (first : List ℕ → Option (List ℕ)) (es : Pairs) : Type 0 where
  pub ordered : IsStrictlySortedBy pair_cmp (keys_of es)
  pub pairs : (k : Pair) → is_some (value_at pair_cmp k es) ≡ is_name (option_and_then first k.second) k.first

pub record Rows : Type 0 where
  pub facts : Contents (List ℕ) Entry
  pub deltas : Contents Pair (Unit {0})
  pub children : Contents Pair (Unit {0})

abbrev pub held_of : Rows → TableState Fact
held_of r = record { facts = facts_of r.facts.entries; spare = r.facts.spare ∷ r.deltas.spare ∷ r.children.spare ∷ [] }

pub record IsKept (r : Rows) : Type 0 where
  pub ordered : IsStrictlySortedBy bytes_cmp (keys_of r.facts.entries)
  pub fit : AreFit r.facts.entries
  pub deltas : AreOf (baseline_at r.facts.entries) r.deltas.entries
  pub children : AreOf (parent_at r.facts.entries) r.children.entries

-- whether the last name belongs to the other
abbrev pub belongs : Pairs → List ℕ → List ℕ → Bool
belongs es up q = has (seconds up es) q

-- whether a name has the other as its baseline or primary parent, or a primary parent that has it as its baseline
abbrev pub is_touched : Pairs → Pairs → List ℕ → List ℕ → Bool
is_touched deltas children name q = list_any (λ up. belongs children up q) (seconds name deltas) || (belongs children name q || belongs deltas name q)

-- no check-in has the name as its baseline or primary parent
abbrev pub IsUnfollowed : Rows → List ℕ → Type 0
IsUnfollowed r name = (length (seconds name r.deltas.entries) ≡ 0) × (length (seconds name r.children.entries) ≡ 0)

-- to whatever each name belonged, it does now, but that this one came from one to another
abbrev pub AreMoved : List ℕ → Option (List ℕ) → Option (List ℕ) → Pairs → Pairs → Type 0
AreMoved name was up old new = (first : List ℕ → Option (List ℕ)) → AreOf first old → first name ≡ was → AreOf (λ x. cond (bytes_eq x name) up (first x)) new

-- these are the names whose rows differ once the check-in is put
abbrev pub ListsPut : List ℕ × Entry → Lines → List (List ℕ) → Type 0
ListsPut line es changed = ListsChanged (files_row (facts_of es)) (files_row (facts_of (with_entry bytes_cmp line.0 line.1 es))) changed

-- the maps as they are, as they were where the change began, and the steps from there
abbrev pub rows_of : Maps → Rows
rows_of m = record { facts = m.facts.held; deltas = m.deltas.held; children = m.children.held }

abbrev pub rows_before : Maps → Rows
rows_before m = record { facts = m.facts.was; deltas = m.deltas.was; children = m.children.was }

abbrev pub steps_back : Maps → ℕ
steps_back m = m.facts.back + m.deltas.back + m.children.back

-- where ways back end, and where they begin
abbrev pub starts_of : Ways → Rows
starts_of w = record { facts = w.facts.was; deltas = w.deltas.was; children = w.children.was }

abbrev pub ends_of : Ways → Rows
ends_of w = record { facts = w.facts.held; deltas = w.deltas.held; children = w.children.held }

-- each map is as good
pub record AreAsGood (before now : Rows) : Type 0 where
  pub facts : IsAsGood before.facts now.facts
  pub deltas : IsAsGood before.deltas now.deltas
  pub children : IsAsGood before.children now.children
