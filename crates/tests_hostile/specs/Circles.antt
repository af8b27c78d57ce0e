-- Check-ins that are to stand in a circle.
use Rattle.std.specs.Prelude.{◌≡◌, ℕ, List, true, Some, map, All}
use Rattle.std.specs.List.Sorted.{IsStrictlyIncreasing}
use Rattle.fsl_tags.specs.declared.Fact.{Fact}

-- a check-in of this name with this parent, and with assertions of its own at rising places
pub record IsCheckin (name up : List ℕ) (fact : Fact) : Type 0 where
  pub named : fact.name ≡ name
  pub checkin : fact.checkin ≡ true
  pub parent : fact.parent ≡ Some up
  pub sources : All (λ a. a.source ≡ name) fact.tags
  pub places : IsStrictlyIncreasing (map (λ a. a.place) fact.tags)
