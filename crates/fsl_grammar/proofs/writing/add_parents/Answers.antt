use Rattle.std.proofs.Common.{append_assoc, ◌++◌, ap, sym, ◌∙◌}
use Rattle.std.proofs.lemmas.Bool.{false≢true, eq-eqb}
use Rattle.std.proofs.lemmas.Result.{on_ok_weaker}
use Rattle.fsl_grammar.proofs.WritingLemmas.{parents_text}
use Rattle.fsl_grammar.proofs.writing.add_parents.Goals as goal

pub returns-clause-ok : goal.returns-clause-ok
returns-clause-ok c =
    let into = c.args.into.now in
    let text = parents_text c.args.parents.now (λ e. false≢true (c.if-is_empty.ensures ∙ eq-eqb _ _ e)) in
    on_ok_weaker c.end_card.result (λ written. written ∙ rw (c.in_ok-add_refs.ensures.ok, c.in_ok-begin_card.ensures.ok) (simp append_assoc) ∙ ap (λ t. into ++ t) (sym text)) c.end_card.ensures.ok
