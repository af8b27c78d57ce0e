use Rattle.std.proofs.Common.{◌≡◌, ◌++◌, ◌∷◌, take}
use Rattle.std.specs.Prelude.{flat_map}
use Rattle.fsl_query.specs.Lines.{shown}
use Rattle.fsl_query.proofs.tickets.append_values.Given as goal

-- the values that were passed are there
abbrev pub invariant-loop-value : goal.invariant-loop-value
invariant-loop-value l = l.into ≡ l.initial.into ++ flat_map (λ value. 32 ∷ shown value) (take l.value-index l.values)
