-- How the maps hold the facts: each by its name, a pair for each member and its cluster and for each ref and its holder, and the unclustered and the missing names.
use Rattle.std.specs.Prelude.{◌≡◌, ◌+◌, ℕ, List, [], ◌∷◌, Bool, true, false, not, ◌&&◌, ◌||◌, Option, Some, None, map, is_some, option_and_then}
use Rattle.std.specs.List.{list_any}
use Rattle.std.specs.Str.{bytes_eq}
use Rattle.std.specs.Cmp.Lexicographic.{pointwise}
use Rattle.std.specs.List.Sorted.{IsStrictlySortedBy}
use Rattle.std.specs.Map.{keys_of}
use Rattle.fsl_order.specs.Names.{bytes_cmp, has}
use Rattle.fsl_order.specs.TableState.{TableState}
use Rattle.fsl_table.specs.Exact.{pair_cmp}
use Rattle.fsl_table.specs.declared.key.Pair.{Pair}
use Rattle.fsl_table.specs.Contents.{Contents, value_at, first_of}
use Rattle.fsl_table.specs.Pairs.{is_name, seconds}
use Rattle.fsl_table.specs.Undo.{IsAsGood}
use Rattle.fsl_cluster.specs.declared.Fact.{Fact}
use Rattle.fsl_cluster.specs.declared.entry.Entry.{Entry}
use Rattle.fsl_cluster.specs.declared.tables.Tables.{Tables}
use Rattle.fsl_cluster.specs.declared.maps.Maps.{Maps}
use Rattle.fsl_cluster.specs.declared.maps.Ways.{Ways}
use Rattle.fsl_cluster.specs.declared.tables.Flips.{Flips}

abbrev pub Entries : Type 0
Entries = List (List ℕ × Entry)

abbrev pub fact_of : List ℕ × Entry → Fact
fact_of e = record { name = e.0; private = e.1.private; members = e.1.members; refs = e.1.refs }

abbrev pub facts_of : Entries → List Fact
facts_of es = map fact_of es

abbrev pub entry_of : Fact → Entry
entry_of f = record { private = f.private; members = f.members; refs = f.refs }

abbrev pub held_of : Tables → TableState Fact
held_of t = record { facts = facts_of t.facts.entries; spare = t.facts.spare ∷ t.members.spare ∷ t.refs.spare ∷ t.unclustered.spare ∷ t.missing.spare ∷ [] }

-- whether the fact is there, and has this in a list of its own
abbrev pub lists : (Entry → List (List ℕ)) → Option Entry → List ℕ → Bool
lists f None q = false
lists f (Some e) q = has (f e) q

-- there is a pair exactly for each fact and each name in its list
abbrev pub ArePairs : (Entry → List (List ℕ)) → Entries → List (Pair × Unit {0}) → Type 0
ArePairs f es ps = (k : Pair) → is_some (value_at pair_cmp k ps) ≡ lists f (option_and_then (λ n. value_at bytes_cmp n es) k.second) k.first

-- the pairs of a list after its names were put in
abbrev pub AreMore : List (Pair × Unit {0}) → List (Pair × Unit {0}) → List ℕ → List (List ℕ) → Type 0
AreMore ps rs name l = (k : Pair) → is_some (value_at pair_cmp k rs) ≡ (is_some (value_at pair_cmp k ps) || (is_name k.second name && has l k.first))

-- and after they were taken out
abbrev pub AreFewer : List (Pair × Unit {0}) → List (Pair × Unit {0}) → List ℕ → List (List ℕ) → Type 0
AreFewer ps rs name l = (k : Pair) → is_some (value_at pair_cmp k rs) ≡ (not (is_name k.second name && has l k.first) && is_some (value_at pair_cmp k ps))

-- whether a fact has the name in its list
abbrev pub is_listed : (Entry → List (List ℕ)) → Entries → List ℕ → Bool
is_listed f es q = list_any (λ e. has (f e.1) q) es

-- the same, among the pairs
abbrev pub is_named : List (Pair × Unit {0}) → List ℕ → Bool
is_named ps q = is_some (first_of (seconds q ps))

-- whether a fact is there, and public
abbrev pub is_public : Option Entry → Bool
is_public None = false
is_public (Some e) = not e.private

-- whether a name is in a set of names
abbrev pub is_in : List (List ℕ × Unit {0}) → List ℕ → Bool
is_in ns q = is_some (value_at bytes_cmp q ns)

-- the same, of a map of names
abbrev pub stands : Contents (List ℕ) (Unit {0}) → List ℕ → Bool
stands set q = is_in set.entries q

-- whether a name is that of a public fact, and in no list of members
abbrev pub is_free : Entries → List ℕ → Bool
is_free es q = is_public (value_at bytes_cmp q es) && not (is_listed (λ e. e.members) es q)

-- whether a name is in a list of refs, and of no fact
abbrev pub is_absent : Entries → List ℕ → Bool
is_absent es q = not (is_some (value_at bytes_cmp q es)) && is_listed (λ e. e.refs) es q

-- whether a name is neither this one nor held
abbrev pub is_unheld : Entries → List ℕ → List ℕ → Bool
is_unheld es name q = not (bytes_eq q name || is_some (value_at bytes_cmp q es))

-- whether another name than this is that of a public fact, and in no pair
abbrev pub is_freed : Entries → List (Pair × Unit {0}) → List ℕ → List ℕ → Bool
is_freed es ps name q = not (bytes_eq q name) && (is_public (value_at bytes_cmp q es) && not (is_named ps q))

-- the unclustered names after a fact with these members, and the missing ones after one with these refs
abbrev pub AreFreed : Contents (List ℕ) Entry → Contents Pair (Unit {0}) → List ℕ → List (List ℕ) → Contents (List ℕ) (Unit {0}) → Contents (List ℕ) (Unit {0}) → Type 0
AreFreed facts members name l old new = (q : List ℕ) → stands new q ≡ ((stands old q || (has l q && is_freed facts.entries members.entries name q)) && not (bytes_eq q name))

abbrev pub AreLost : Contents Pair (Unit {0}) → List ℕ → List (List ℕ) → Contents (List ℕ) (Unit {0}) → Contents (List ℕ) (Unit {0}) → Type 0
AreLost refs name l old new = (q : List ℕ) → stands new q ≡ ((stands old q && not (has l q && not (is_named refs.entries q))) || (bytes_eq q name && is_named refs.entries name))

-- the missing names after the refs of a new fact
abbrev pub AreMissed : Contents (List ℕ) Entry → List ℕ → List (List ℕ) → Contents (List ℕ) (Unit {0}) → Contents (List ℕ) (Unit {0}) → Type 0
AreMissed facts name l old new = (q : List ℕ) → stands new q ≡ ((stands old q || (has l q && is_unheld facts.entries name q)) && not (bytes_eq q name))

-- whether a fact is private and another the same, but public
abbrev pub publishes : Option Entry → Entry → Bool
publishes None f = false
publishes (Some e) f = (e.private && not f.private) && (pointwise bytes_eq e.members f.members && pointwise bytes_eq e.refs f.refs)

-- the same, of a new fact and those that are there
abbrev pub is_publication : Contents (List ℕ) Entry → Fact → Bool
is_publication facts f = publishes (value_at bytes_cmp f.name facts.entries) (entry_of f)

-- whether two answers differ
abbrev pub differs : Bool → Bool → Bool
differs true b = not b
differs false b = b

-- the names at which a set of names differs from what was before
abbrev pub AreTurned : (List ℕ → Bool) → List (List ℕ) → List (List ℕ × Unit {0}) → Type 0
AreTurned before turned now = (q : List ℕ) → has turned q ≡ differs (before q) (is_in now q)

-- the same, where it was right before
abbrev pub StayTurned : List (List ℕ) → Contents (List ℕ) (Unit {0}) → List (List ℕ) → Contents (List ℕ) (Unit {0}) → Type 0
StayTurned turned old others new = (before : List ℕ → Bool) → AreTurned before turned old.entries → AreTurned before others new.entries

-- the same of both sets
pub record AreFlipped (before : Tables) (flips : Flips) (now : Tables) : Type 0 where
  pub unclustered : AreTurned (is_in before.unclustered.entries) flips.unclustered.keys now.unclustered.entries
  pub missing : AreTurned (is_in before.missing.entries) flips.missing.keys now.missing.entries

-- the facts and the pairs
pub record AreLaid (t : Tables) : Type 0 where
  pub ordered : IsStrictlySortedBy bytes_cmp (keys_of t.facts.entries)
  pub members_ordered : IsStrictlySortedBy pair_cmp (keys_of t.members.entries)
  pub refs_ordered : IsStrictlySortedBy pair_cmp (keys_of t.refs.entries)
  pub members : ArePairs (λ e. e.members) t.facts.entries t.members.entries
  pub refs : ArePairs (λ e. e.refs) t.facts.entries t.refs.entries

pub record IsKept (t : Tables) : Type 0 where
  pub laid : AreLaid t
  pub unclustered_ordered : IsStrictlySortedBy bytes_cmp (keys_of t.unclustered.entries)
  pub missing_ordered : IsStrictlySortedBy bytes_cmp (keys_of t.missing.entries)
  pub unclustered : (q : List ℕ) → is_in t.unclustered.entries q ≡ is_free t.facts.entries q
  pub missing : (q : List ℕ) → is_in t.missing.entries q ≡ is_absent t.facts.entries q

-- the maps as they are, as they were where the change began, and the steps from there
abbrev pub tables_in : Maps → Tables
tables_in m = record { facts = m.facts.held; members = m.members.held; refs = m.refs.held; unclustered = m.unclustered.held; missing = m.missing.held }

abbrev pub tables_before : Maps → Tables
tables_before m = record { facts = m.facts.was; members = m.members.was; refs = m.refs.was; unclustered = m.unclustered.was; missing = m.missing.was }

abbrev pub steps_back : Maps → ℕ
steps_back m = m.facts.back + m.members.back + m.refs.back + m.unclustered.back + m.missing.back

-- where ways back end, and where they begin
abbrev pub starts_of : Ways → Tables
starts_of w = record { facts = w.facts.was; members = w.members.was; refs = w.refs.was; unclustered = w.unclustered.was; missing = w.missing.was }

abbrev pub ends_of : Ways → Tables
ends_of w = record { facts = w.facts.held; members = w.members.held; refs = w.refs.held; unclustered = w.unclustered.held; missing = w.missing.held }

-- what was right of the names that are turned over stays right
abbrev pub StayFlipped : Flips → Maps → Flips → Maps → Type 0
StayFlipped f m g n = (before : Tables) → AreFlipped before f (tables_in m) → AreFlipped before g (tables_in n)

-- each map of the second is as good as that of the first
pub record AreAsGood (t s : Tables) : Type 0 where
  pub facts : IsAsGood t.facts s.facts
  pub members : IsAsGood t.members s.members
  pub refs : IsAsGood t.refs s.refs
  pub unclustered : IsAsGood t.unclustered s.unclustered
  pub missing : IsAsGood t.missing s.missing
