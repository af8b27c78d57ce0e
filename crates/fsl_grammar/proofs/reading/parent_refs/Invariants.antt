use Rattle.std.proofs.Common.{◌≡◌, ◌++◌, map, flat_map, drop, Some}
use Rattle.fsl_name.specs.Ref.{ref_in}
use Rattle.fsl_grammar.specs.Forms.{arguments}
use Rattle.fsl_grammar.proofs.reading.parent_refs.Given as goal

abbrev pub invariant-loop-card : goal.invariant-loop-card
invariant-loop-card l =
    map ref_in (flat_map (λ args. args) (arguments l.cards 80))
    ≡ map Some l.refs ++ map ref_in (flat_map (λ args. args) (arguments (drop l.card-index l.cards) 80))
