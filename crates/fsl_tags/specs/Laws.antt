-- Laws of tags that the tables above stand on.
use Rattle.std.specs.Prelude.{◌≡◌, ℕ, List, ◌∷◌, false, map}
use Rattle.std.specs.List.{AllByRecursion}
use Rattle.std.specs.List.Sorted.{IsStrictlySortedBy}
use Rattle.std.specs.Str.{bytes_eq}
use Rattle.fsl_order.specs.Names.{bytes_cmp, has}
use Rattle.fsl_order.specs.Rows.{by_name}
use Rattle.fsl_tags.specs.declared.Fact.{Fact}
use Rattle.fsl_tags.specs.Tags.{effective, tags_row, IsTagFact, AreTagFacts}

-- Law. The row of a name decides the effective assertion of each tag on it
abbrev pub EffectiveByRow : Type 0
EffectiveByRow = (a b : List Fact) (name tag : List ℕ) → tags_row a name ≡ tags_row b name → effective a name tag ≡ effective b name tag

-- Law. A fact more whose assertions are all on itself leaves the row of each other name as it was
abbrev pub OthersStay : Type 0
OthersStay =
    (facts : List Fact) (fact : Fact) → IsStrictlySortedBy bytes_cmp (map (λ f. f.name) facts) → AreTagFacts facts → has (map (λ f. f.name) facts) fact.name ≡ false → IsTagFact (fact ∷ facts) fact
    → AllByRecursion (λ a. a.target ≡ fact.name) fact.tags → (name : List ℕ) → bytes_eq name fact.name ≡ false → tags_row (by_name (λ f. f.name) (fact ∷ facts)) name ≡ tags_row facts name
