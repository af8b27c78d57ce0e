-- Sets of tags and of names, and what is kept of a tag.
use Rattle.std.specs.Prelude.{ℕ, List, ◌++◌, Bool, false, not, Option, map}
use Rattle.std.specs.Option.{option_map_or}
use Rattle.std.specs.BTreeSet.{BTreeSet, contains_by}
use Rattle.fsl_order.specs.Names.{bytes_cmp}
use Rattle.fsl_tags.specs.declared.Fact.{Fact}
use Rattle.fsl_tags.specs.declared.Assertion.{Assertion}
use Rattle.fsl_tags.specs.Tags.{assertions, cancels}

-- whether a set has a name or a tag
abbrev pub in_set : BTreeSet (List ℕ) → List ℕ → Bool
in_set set name = contains_by (bytes_cmp name) set

-- the tags that are asserted
abbrev pub asserted : List Fact → List (List ℕ)
asserted facts = map (λ a. a.tag) (assertions facts)

-- the names of facts, and those that assertions target
abbrev pub subjects : List Fact → List (List ℕ)
subjects facts = map (λ f. f.name) facts ++ map (λ a. a.target) (assertions facts)

-- whether it doesn't take the tag away
abbrev pub puts : Assertion → Bool
puts a = not (cancels a.prefix)

-- whether there is one that doesn't cancel
abbrev pub is_shown : Option Assertion → Bool
is_shown found = option_map_or (λ a. not (cancels a.prefix)) found false
