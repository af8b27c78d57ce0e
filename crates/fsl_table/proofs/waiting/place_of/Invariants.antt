use Rattle.std.proofs.Common.{◌≡◌, ◌+◌, drop}
use Rattle.std.specs.Option.{option_map}
use Rattle.std.specs.BTreeMap.{is_at}
use Rattle.fsl_table.specs.Weave.{place}
use Rattle.fsl_table.proofs.waiting.place_of.Given as goal

-- no key before `at` is it
abbrev pub invariant-loop-at : goal.invariant-loop-at
invariant-loop-at g l = let test = is_at (g.K.Ord.cmp l.key) in place test l.waiting ≡ option_map (λ j. j + l.at) (place test (drop l.at l.waiting))
