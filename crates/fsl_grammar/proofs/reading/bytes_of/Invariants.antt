use Rattle.std.proofs.Common.{◌≡◌, ◌++◌, map, drop}
use Rattle.fsl_name.specs.Ref.{ref_bytes}
use Rattle.fsl_grammar.proofs.reading.bytes_of.Given as goal

abbrev pub invariant-loop-found : goal.invariant-loop-found
invariant-loop-found l = map ref_bytes l.refs ≡ map (λ bytes. bytes.now) l.all.items ++ map ref_bytes (drop l.found-index l.refs)
