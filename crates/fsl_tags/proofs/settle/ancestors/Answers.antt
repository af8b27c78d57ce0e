use Rattle.std.proofs.Common.{◌≡◌, ◌∙◌, ◌++◌, ◌∷◌, ◌-◌, [], List, ℕ, refl, sym, ap, arith}
use Rattle.std.proofs.lemmas.List.{append_assoc}
use Rattle.fsl_tags.specs.Laid.{parent_in}
use Rattle.fsl_tags.proofs.Filling.{line-first, above-none, above-some, above_line}
use Rattle.fsl_tags.proofs.settle.ancestors.Goals as goal

append_none : (xs : List (List ℕ)) → xs ≡ xs ++ []
append_none [] = refl
append_none (x ∷ xs) = ap (λ l. x ∷ l) (append_none xs)

pub loop-left-init : goal.loop-left-init
loop-left-init g c =
    let par = parent_in c.args.facts.now.held.entries in
    ap (λ l. l ++ above_line par c.args.most c.args.name) (c.in_ok-push.ensures.items ∙ ap (λ l. l ++ c.args.name ∷ []) c.new-names.ensures.items) ∙ sym (line-first par c.args.most c.args.name)

pub returns-in_default : goal.returns-in_default
returns-in_default g c =
    let par = parent_in c.args.facts.now.held.entries in
    append_none c.loop-left.names.items
    ∙ ap (λ l. c.loop-left.names.items ++ l) (sym (above-none par c.loop-left.left c.loop-left.at (sym c.parent_of.ensures.parent ∙ c.in_default.is)))
    ∙ c.loop-left.invariant

pub loop-left-preserved : goal.loop-left-preserved
loop-left-preserved g c =
    let par = parent_in c.args.facts.now.held.entries in
    let names = c.loop-left.names.items in
    let up = c.in-Some.up in
    let above = above_line par (c.loop-left.left - 1) up in
    ap (λ l. l ++ above) c.in_ok-push-2.ensures.items
    ∙ append_assoc names (up ∷ []) above
    ∙ ap (λ l. names ++ l) (sym (above-some par c.loop-left.left c.loop-left.at up c.loop-left-test.true (sym c.parent_of.ensures.parent ∙ c.in-Some.is)))
    ∙ c.loop-left.invariant

pub returns : goal.returns
returns g c =
    let par = parent_in c.args.facts.now.held.entries in
    let none : c.loop-left.left ≡ 0 = omega (arith, c.loop-left-test.false) in
    append_none c.loop-left.names.items ∙ ap (λ n. c.loop-left.names.items ++ above_line par n c.loop-left.at) (sym none) ∙ c.loop-left.invariant
