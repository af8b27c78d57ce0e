-- How the tables are filled from facts.
use Rattle.std.specs.Prelude.{◌≡◌, ℕ, zero, suc, List, [], ◌∷◌, Bool, true, false, All, IfSome, is_some, Option, option_and_then, cond}
use Rattle.std.specs.Str.{bytes_eq}
use Rattle.std.specs.List.{AllByRecursion}
use Rattle.std.specs.List.Sorted.{IsStrictlySortedBy}
use Rattle.std.specs.Map.{keys_of}
use Rattle.std.specs.Option.{option_map_or}
use Rattle.fsl_order.specs.Names.{bytes_cmp}
use Rattle.fsl_order.specs.Rows.{named, greater}
use Rattle.fsl_table.specs.declared.key.Pair.{Pair}
use Rattle.fsl_table.specs.Contents.{value_at}
use Rattle.fsl_table.specs.Exact.{pair_cmp}
use Rattle.fsl_table.specs.Pairs.{is_name}
use Rattle.fsl_tags.specs.declared.Fact.{Fact}
use Rattle.fsl_tags.specs.declared.Assertion.{Assertion}
use Rattle.fsl_tags.specs.declared.node.Node.{Node}
use Rattle.fsl_tags.specs.Gathered.{is_shown}
use Rattle.fsl_tags.specs.Joined.{joined}
use Rattle.fsl_tags.specs.Tags.{direct, newer_cmp}
use Rattle.fsl_tags.specs.Held.{facts_of}
use Rattle.fsl_tags.specs.Kept.{newest_of, newest_on}
use Rattle.fsl_tags.specs.Laid.{Rises, row_in, parent_in, settled, AreFull, AreLaid}

-- a row has of each tag the newer of what another row has and of what is found
abbrev pub HasNewer : List Assertion → (List ℕ → Option Assertion) → List Assertion → Type 0
HasNewer other found row = (tag : List ℕ) → named (λ a. a.tag) row tag ≡ greater newer_cmp (named (λ a. a.tag) other tag) (found tag)

-- the same the other way round, which tells where neither is newer
abbrev pub HasOver : (List ℕ → Option Assertion) → List Assertion → List Assertion → Type 0
HasOver found other row = (tag : List ℕ) → named (λ a. a.tag) row tag ≡ greater newer_cmp (found tag) (named (λ a. a.tag) other tag)

-- the own row of a name has got the newest of a group, and the others are what they were
abbrev pub HasTaken : List ℕ → List Assertion → List (List ℕ × List Assertion) → List (List ℕ × List Assertion) → Type 0
HasTaken name group own now =
    (x tag : List ℕ) → named (λ a. a.tag) (row_in now x) tag
    ≡ cond (bytes_eq x name) (greater newer_cmp (named (λ a. a.tag) (row_in own x) tag) (newest_of tag group)) (named (λ a. a.tag) (row_in own x) tag)

-- the own row of each name has got the newest of some assertions that are on it
abbrev pub HaveTaken : List Assertion → List (List ℕ × List Assertion) → List (List ℕ × List Assertion) → Type 0
HaveTaken as_ own now =
    (x tag : List ℕ) → named (λ a. a.tag) (row_in now x) tag ≡ greater newer_cmp (named (λ a. a.tag) (row_in own x) tag) (newest_on x tag as_)

-- own rows in order, none of them empty, each by rising tag
pub record AreOwn (own : List (List ℕ × List Assertion)) : Type 0 where
  pub full : AreFull own
  pub rise : (x : List ℕ) → Rises (row_in own x)

-- the assertions of each fact come from it
abbrev pub AreSourced : List Fact → Type 0
AreSourced facts = AllByRecursion (λ f. All (λ a. a.source ≡ f.name) f.tags) facts

-- each group has the assertions of the facts on its name, as far as the newest go, and there is a pair for each child
pub record IsGrouped (facts : List (List ℕ × Node)) (children : List (Pair × Unit {0})) (groups : List (List ℕ × List Assertion)) : Type 0 where
  pub ordered : IsStrictlySortedBy bytes_cmp (keys_of facts)
  pub sourced : AreSourced (facts_of facts)
  pub newest : (x tag : List ℕ) → newest_of tag (row_in groups x) ≡ direct (facts_of facts) x tag
  pub children_ordered : IsStrictlySortedBy pair_cmp (keys_of children)
  pub pairs : (k : Pair) → is_some (value_at pair_cmp k children) ≡ is_name (option_and_then (parent_in facts) k.second) k.first
  pub full : AreFull groups

-- the own rows are the newest assertions of the facts, and there is a pair for each child
pub record IsLaying (facts : List (List ℕ × Node)) (children : List (Pair × Unit {0})) (own : List (List ℕ × List Assertion)) : Type 0 where
  pub ordered : IsStrictlySortedBy bytes_cmp (keys_of facts)
  pub sourced : AreSourced (facts_of facts)
  pub newest : (x tag : List ℕ) → named (λ a. a.tag) (row_in own x) tag ≡ direct (facts_of facts) x tag
  pub laid : AreLaid facts children own
  pub full : AreFull own

-- none of the assertions is on the name
abbrev pub AreElsewhere : List ℕ → List Assertion → Type 0
AreElsewhere x as_ = AllByRecursion (λ a. bytes_eq x a.target ≡ false) as_

-- no assertion of the facts is on the name
abbrev pub AreAllElsewhere : List ℕ → List Fact → Type 0
AreAllElsewhere x facts = AllByRecursion (λ f. AreElsewhere x f.tags) facts

-- each row that is worked out is right
abbrev pub AreSettled : List (List ℕ × Node) → List (List ℕ × List Assertion) → List (List ℕ × List Assertion) → Type 0
AreSettled facts own rows = (x : List ℕ) → IfSome (value_at bytes_cmp x rows) (λ row. row ≡ settled facts own x)

-- the row of the name is worked out
abbrev pub IsKnown : List (List ℕ × List Assertion) → List ℕ → Type 0
IsKnown rows x = is_some (value_at bytes_cmp x rows) ≡ true

-- and so are those of a fact and of what it has assertions on
abbrev pub AreKnown : List (List ℕ × List Assertion) → Fact → Type 0
AreKnown rows f = IsKnown rows f.name × AllByRecursion (λ a. IsKnown rows a.target) f.tags

-- a name and those above it, nearest first, at most so many
abbrev pub line : (List ℕ → Option (List ℕ)) → ℕ → List ℕ → List (List ℕ)
line par zero x = x ∷ []
line par (suc k) x = x ∷ option_map_or (line par k) (par x) []

-- a row taken down by a line of names
abbrev pub down : (List ℕ → List Assertion) → List (List ℕ) → List Assertion → List Assertion
down own [] row = row
down own (x ∷ xs) row = joined (down own xs row) (own x)

-- whether the row of a name shows the tag
abbrev pub shows : List (List ℕ × List Assertion) → List ℕ → List ℕ → Bool
shows rows tag x = is_shown (named (λ a. a.tag) (row_in rows x) tag)
