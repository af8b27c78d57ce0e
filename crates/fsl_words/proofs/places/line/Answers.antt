use Rattle.std.proofs.Common.{rules, ap, ap₂, Option, Some, None, ◌≡◌, ◌∙◌}
use Rattle.std.specs.Prelude.{IsSomeAnd}
use Rattle.std.proofs.lemmas.Result.{IfOk-weaker}
use Rattle.clap.specs.Walk.{Rule, rule_of}
use Rattle.clap.specs.Simple.{with_rule}
use Rattle.clap.specs.declared.builder.range.ValueRange.{ValueRange}
use Rattle.fsl_words.specs.Places.{repository_place, command_place, words_place}
use Rattle.fsl_words.proofs.places.line.Goals as goal

some_is : (o : Option ValueRange) (v : ValueRange) → IsSomeAnd o (λ r. r ≡ v) → o ≡ Some v
some_is None v h = absurd h
some_is (Some x) v h = ap Some h

pub returns : goal.returns
returns c =
    let repository_is : rule_of c.required.result ≡ repository_place = search rules in
    let command_is : rule_of c.required-2.result ≡ command_place = search rules in
    let words_is : rule_of c.num_args.result ≡ words_place = ap rule_of c.num_args.ensures.0
    ∙ ap₂ (λ (a : Rule) (o : Option ValueRange). record a { range = o }) c.new-3.ensures.rule (some_is _ _ c.num_args.ensures.1) in
    let first = c.in_ok-arg.ensures.shape (search rules) ∙ ap₂ with_rule c.bare.ensures repository_is in
    let second = c.in_ok-arg-2.ensures.shape (search rules) ∙ ap₂ with_rule first command_is in
    IfOk-weaker c.arg-3.result _ _ (λ made h. h.shape (search rules) ∙ ap₂ with_rule second words_is) c.arg-3.ensures
