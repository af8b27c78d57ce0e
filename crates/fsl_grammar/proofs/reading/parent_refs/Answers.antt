use Rattle.std.proofs.Common.{sym, ap, ◌∙◌, ◌++◌, map, flat_map, drop, ◌+◌, arith, Some}
use Rattle.fsl_name.specs.Ref.{ref_in}
use Rattle.fsl_grammar.specs.Forms.{arguments}
use Rattle.fsl_grammar.proofs.ReadingLemmas.{missing_behind, refs-at}
use Rattle.fsl_grammar.proofs.reading.parent_refs.Goals as goal

pub returns-then-not-branch : goal.returns-then-not-branch
returns-then-not-branch c why xs h =
    let cards = c.args.cards.now in
    let i = c.loop-card.card-index in
    missing_behind ref_in c.loop-card.refs c.items.result.now (map ref_in (flat_map (λ args. args) (arguments (drop (i + 1) cards) 80))) xs
    (sym c.in_ok-push_refs.ensures.all ∙ c.if-not-branch.true) (sym (c.loop-card.invariant ∙ ap (λ r. map Some c.loop-card.refs ++ r) (refs-at cards i c.card-item.result (omega arith) c.card-item.is c.if-card-eq80.true ∙ ap (λ args. map ref_in args ++ map ref_in (flat_map (λ args. args) (arguments (drop (i + 1) cards) 80))) (sym c.items.ensures))) ∙ h)
