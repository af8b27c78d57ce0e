use Rattle.std.proofs.Common.{◌≡◌, ◌++◌, map, drop, Some}
use Rattle.std.specs.Prelude.{is_some}
use Rattle.std.specs.List.{list_all}
use Rattle.fsl_name.specs.Ref.{ref_in}
use Rattle.fsl_grammar.proofs.reading.push_refs.Given as goal

abbrev pub invariant-loop-arg : goal.invariant-loop-arg
invariant-loop-arg l =
    (map Some l.fn.refs ++ map ref_in l.args ≡ map Some l.refs ++ map ref_in (drop l.arg-index l.args))
    × (list_all (λ arg. is_some (ref_in arg)) l.args ≡ list_all (λ arg. is_some (ref_in arg)) (drop l.arg-index l.args))
