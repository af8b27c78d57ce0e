use Rattle.std.proofs.Common.{◌≡◌, ◌++◌, ◌∷◌, flat_map, take}
use Rattle.fsl_name.specs.Ref.{ref_text}
use Rattle.fsl_grammar.proofs.writing.add_refs.Given as goal

abbrev pub invariant-loop-found : goal.invariant-loop-found
invariant-loop-found l = l.into ≡ l.initial.into ++ flat_map (λ r. 32 ∷ ref_text r) (take l.found-index l.refs)
