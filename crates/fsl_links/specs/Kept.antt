-- How the tables hold the facts: the parents by name, and a pair for each parent and child.
use Rattle.std.specs.Prelude.{◌≡◌, ◌+◌, ℕ, List, [], ◌∷◌, Bool, true, false, not, ◌&&◌, ◌||◌, Option, Some, None, map, is_some, option_and_then, option_map, slice_get}
use Rattle.std.specs.Str.{bytes_eq}
use Rattle.std.specs.List.Sorted.{IsStrictlySortedBy}
use Rattle.std.specs.Map.{keys_of}
use Rattle.fsl_order.specs.Names.{bytes_cmp, has}
use Rattle.fsl_order.specs.TableState.{TableState}
use Rattle.fsl_table.specs.Exact.{pair_cmp}
use Rattle.fsl_table.specs.declared.key.Pair.{Pair}
use Rattle.fsl_table.specs.Contents.{Contents, value_at, with_entry}
use Rattle.fsl_table.specs.Pairs.{is_name}
use Rattle.fsl_table.specs.Undo.{IsAsGood}
use Rattle.fsl_links.specs.declared.Fact.{Fact}
use Rattle.fsl_links.specs.declared.maps.Maps.{Maps}
use Rattle.fsl_links.specs.declared.maps.Ways.{Ways}

abbrev pub fact_of : List ℕ × List (List ℕ) → Fact
fact_of e = record { name = e.0; parents = e.1 }

abbrev pub facts_of : List (List ℕ × List (List ℕ)) → List Fact
facts_of es = map fact_of es

pub record Rows : Type 0 where
  pub facts : Contents (List ℕ) (List (List ℕ))
  pub children : Contents Pair (Unit {0})

abbrev pub held_of : Rows → TableState Fact
held_of r = record { facts = facts_of r.facts.entries; spare = r.facts.spare ∷ r.children.spare ∷ [] }

-- whether the names are there, and this is among them
abbrev pub lists : Option (List (List ℕ)) → List ℕ → Bool
lists None p = false
lists (Some ps) p = has ps p

-- there is a pair exactly for each child and parent
abbrev pub ArePairs : List (List ℕ × List (List ℕ)) → List (Pair × Unit {0}) → Type 0
ArePairs facts children = (k : Pair) → is_some (value_at pair_cmp k children) ≡ lists (option_and_then (λ c. value_at bytes_cmp c facts) k.second) k.first

-- the parent that may be first, where it is there
abbrev pub leader : List (List ℕ × List (List ℕ)) → Option (List ℕ) → Option (List ℕ)
leader facts None = None
leader facts (Some p) = option_map (λ _. p) (value_at bytes_cmp p facts)

-- whether the check-in of this name is there and has the other as its first parent
abbrev pub waits : List (List ℕ × List (List ℕ)) → List ℕ → List ℕ → Bool
waits facts name q = is_name (option_and_then (λ ps. slice_get ps 0) (value_at bytes_cmp q facts)) name

-- whether the first parent is there, where the check-in itself is
abbrev pub leads : List (List ℕ × List (List ℕ)) → List ℕ → List (List ℕ) → Bool
leads facts name parents = is_some (option_and_then (λ p. value_at bytes_cmp p (with_entry bytes_cmp name parents facts)) (slice_get parents 0))

-- whether a new fact of this name and these parents changes the row of a name
abbrev pub changes : List (List ℕ × List (List ℕ)) → List ℕ → List (List ℕ) → List ℕ → Bool
changes facts name parents q = waits facts name q || ((leads facts name parents && bytes_eq q name) || has parents q)

-- whether two names that may be there are the same
abbrev pub same_name : Option (List ℕ) → Option (List ℕ) → Bool
same_name None None = true
same_name None (Some b) = false
same_name (Some a) None = false
same_name (Some a) (Some b) = bytes_eq a b

-- whether a name is in one list and not in the other
abbrev pub in_one : List (List ℕ) → List (List ℕ) → List ℕ → Bool
in_one before after q = (has after q && not (has before q)) || (has before q && not (has after q))

-- whether other parents of a check-in that is there change the row of a name
abbrev pub moves : List (List ℕ × List (List ℕ)) → List ℕ → List (List ℕ) → List (List ℕ) → List ℕ → Bool
moves facts name before after q = (not (same_name (leader facts (slice_get before 0)) (leader facts (slice_get after 0))) && bytes_eq q name) || in_one before after q

pub record IsKept (r : Rows) : Type 0 where
  pub ordered : IsStrictlySortedBy bytes_cmp (keys_of r.facts.entries)
  pub pairs_ordered : IsStrictlySortedBy pair_cmp (keys_of r.children.entries)
  pub pairs : ArePairs r.facts.entries r.children.entries

-- the maps as they are, as they were where the change began, and the steps from there
abbrev pub rows_of : Maps → Rows
rows_of m = record { facts = m.facts.held; children = m.children.held }

abbrev pub rows_before : Maps → Rows
rows_before m = record { facts = m.facts.was; children = m.children.was }

abbrev pub steps_back : Maps → ℕ
steps_back m = m.facts.back + m.children.back

-- where ways back end, and where they begin
abbrev pub starts_of : Ways → Rows
starts_of w = record { facts = w.facts.was; children = w.children.was }

abbrev pub ends_of : Ways → Rows
ends_of w = record { facts = w.facts.held; children = w.children.held }

-- each map is as good
pub record AreAsGood (before now : Rows) : Type 0 where
  pub facts : IsAsGood before.facts now.facts
  pub children : IsAsGood before.children now.children
