use Rattle.std.proofs.Common.{ℕ, ◌<◌, ◌+◌, map}
use Rattle.std.specs.List.{slice_index}
use Rattle.tests_tables.proofs.tags.fit.places_rise.Given as goal

-- the places that were passed rise
abbrev pub invariant-loop-i : goal.invariant-loop-i
invariant-loop-i l = (k : ℕ) → k + 1 < l.i → slice_index (map (λ a. a.place) l.tags) k < slice_index (map (λ a. a.place) l.tags) (k + 1)
