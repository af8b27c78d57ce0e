-- What the tables of tags keep.
use Rattle.std.specs.Prelude.{◌≡◌, ◌+◌, ℕ, List, [], ◌∷◌, map}
use Rattle.std.specs.List.Sorted.{IsStrictlySortedBy}
use Rattle.std.specs.Map.{keys_of}
use Rattle.fsl_order.specs.TableState.{TableState}
use Rattle.fsl_order.specs.Names.{bytes_cmp}
use Rattle.fsl_order.specs.Rows.{named}
use Rattle.fsl_table.specs.declared.key.Pair.{Pair}
use Rattle.fsl_table.specs.Contents.{Contents}
use Rattle.fsl_table.specs.Undo.{IsAsGood}
use Rattle.fsl_tags.specs.declared.Fact.{Fact}
use Rattle.fsl_tags.specs.declared.Assertion.{Assertion}
use Rattle.fsl_tags.specs.declared.maps.Maps.{Maps}
use Rattle.fsl_tags.specs.declared.maps.Ways.{Ways}
use Rattle.fsl_tags.specs.declared.node.Node.{Node}
use Rattle.fsl_tags.specs.Tags.{direct, AreTagFacts}
use Rattle.fsl_tags.specs.Laid.{row_in, AreRight}

abbrev pub fact_of : List ℕ × Node → Fact
fact_of e = record { name = e.0; checkin = e.1.checkin; parent = e.1.parent; tags = e.1.tags }

abbrev pub facts_of : List (List ℕ × Node) → List Fact
facts_of es = map fact_of es

pub record Rows : Type 0 where
  pub facts : Contents (List ℕ) Node
  pub children : Contents Pair (Unit {0})
  pub own : Contents (List ℕ) (List Assertion)
  pub rows : Contents (List ℕ) (List Assertion)

abbrev pub held_of : Rows → TableState Fact
held_of r = record { facts = facts_of r.facts.entries; spare = r.facts.spare ∷ r.children.spare ∷ r.own.spare ∷ r.rows.spare ∷ [] }

-- the facts are fit, the own rows have their newest assertions, and all else is by these
pub record IsKept (r : Rows) : Type 0 where
  pub ordered : IsStrictlySortedBy bytes_cmp (keys_of r.facts.entries)
  pub fit : AreTagFacts (facts_of r.facts.entries)
  pub newest : (x tag : List ℕ) → named (λ a. a.tag) (row_in r.own.entries x) tag ≡ direct (facts_of r.facts.entries) x tag
  pub right : AreRight r.facts.entries r.children.entries r.own.entries r.rows.entries

abbrev pub facts_in : Maps → List Fact
facts_in m = facts_of m.graph.facts.held.entries

-- the maps as they are, and as they were where the change began
abbrev pub rows_of : Maps → Rows
rows_of m = record { facts = m.graph.facts.held; children = m.graph.children.held; own = m.own.held; rows = m.flow.rows.held }

abbrev pub rows_before : Maps → Rows
rows_before m = record { facts = m.graph.facts.was; children = m.graph.children.was; own = m.own.was; rows = m.flow.rows.was }

abbrev pub steps_back : Maps → ℕ
steps_back m = m.graph.facts.back + m.graph.children.back + m.own.back + m.flow.rows.back

-- where ways back end, and where they begin
abbrev pub starts_of : Ways → Rows
starts_of w = record { facts = w.facts.was; children = w.children.was; own = w.own.was; rows = w.rows.was }

abbrev pub ends_of : Ways → Rows
ends_of w = record { facts = w.facts.held; children = w.children.held; own = w.own.held; rows = w.rows.held }

-- each map is as good
pub record AreAsGood (before now : Rows) : Type 0 where
  pub facts : IsAsGood before.facts now.facts
  pub children : IsAsGood before.children now.children
  pub own : IsAsGood before.own now.own
  pub rows : IsAsGood before.rows now.rows
