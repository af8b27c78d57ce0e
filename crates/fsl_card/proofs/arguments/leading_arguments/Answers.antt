use Rattle.std.proofs.Common.{◌+◌, ◌≤◌, length, take, drop, subst, sym, ap, ◌∙◌, List, ℕ, rules, arith, length-drop}
use Rattle.std.proofs.lemmas.List.{take_rest}
use Rattle.fsl_card.specs.Parts.{AreArgumentsTo}
use Rattle.fsl_card.proofs.ArgumentLemmas.{next_here, run_more}
use Rattle.fsl_card.proofs.arguments.leading_arguments.Goals as goal

pub split_at-requires : goal.split_at-requires
split_at-requires c =
    let within : c.in-Some.length + 1 ≤ length c.loop-length.rest.now = (next_here c.loop-length.rest.now c.in-Some.length c.in-Some.ensures).within in
    let P : List ℕ → Type 0 = λ l. c.in-Some.length ≤ length l in
    subst P (sym (take_rest c.loop-length.rest.now 1)) (omega (arith, length-drop 1 c.loop-length.rest.now))

pub loop-length-preserved : goal.loop-length-preserved
loop-length-preserved c =
    let rest = take_rest c.loop-length.rest.now 1 in
    let P : List ℕ → Type 0 = λ r. AreArgumentsTo c.args.bytes.now c.append.new.self r in
    subst P (sym (c.split_at.ensures.back ∙ ap (drop c.in-Some.length) rest))
    (run_more c.args.bytes.now c.loop-length.list c.append.new.self c.loop-length.rest.now c.in_ok-of.field-0 c.in-Some.length
    c.loop-length.invariant c.in-Some.ensures (c.in_ok-of.ensures ∙ c.split_at.ensures.front ∙ ap (take c.in-Some.length) rest) (search rules))
