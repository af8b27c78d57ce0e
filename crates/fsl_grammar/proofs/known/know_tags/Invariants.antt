use Rattle.std.proofs.Common.{drop}
use Rattle.std.specs.Prelude.{option_to_list}
use Rattle.std.specs.List.{AllByRecursion}
use Rattle.fsl_name.specs.Ref.{IsRef}
use Rattle.fsl_grammar.proofs.known.know_tags.Given as goal

abbrev pub invariant-loop-tag : goal.invariant-loop-tag
invariant-loop-tag l =
    AllByRecursion (λ t. AllByRecursion IsRef (option_to_list t.target)) (drop l.tag-index l.tags)
    → AllByRecursion (λ t. AllByRecursion IsRef (option_to_list t.target)) l.tags
