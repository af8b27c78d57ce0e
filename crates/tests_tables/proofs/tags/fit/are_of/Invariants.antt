use Rattle.std.proofs.Common.{◌≡◌, take}
use Rattle.std.specs.List.{AllByRecursion}
use Rattle.tests_tables.proofs.tags.fit.are_of.Given as goal

-- those that were passed have the source
abbrev pub invariant-loop-assertion : goal.invariant-loop-assertion
invariant-loop-assertion l = AllByRecursion (λ a. a.source ≡ l.name) (take l.assertion-index l.tags)
