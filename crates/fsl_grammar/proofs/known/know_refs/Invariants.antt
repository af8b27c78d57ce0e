use Rattle.std.proofs.Common.{drop}
use Rattle.std.specs.List.{AllByRecursion}
use Rattle.fsl_name.specs.Ref.{IsRef}
use Rattle.fsl_grammar.proofs.known.know_refs.Given as goal

abbrev pub invariant-loop-found : goal.invariant-loop-found
invariant-loop-found l = AllByRecursion IsRef (drop l.found-index l.refs) → AllByRecursion IsRef l.refs
