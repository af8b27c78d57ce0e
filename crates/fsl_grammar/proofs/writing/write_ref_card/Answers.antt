use Rattle.std.proofs.Common.{ap, ◌∙◌, ◌++◌, ◌∷◌, []}
use Rattle.std.proofs.lemmas.Result.{on_ok_weaker}
use Rattle.fsl_card.specs.Cards.{card_text}
use Rattle.fsl_grammar.specs.Writing.{card}
use Rattle.fsl_grammar.proofs.writing.write_ref_card.Goals as goal

pub returns : goal.returns
returns c = record {
  ok = on_ok_weaker c.write_card.result (λ written. written ∙ ap (λ text. c.args.into.now ++ card_text (card c.args.letter (text ∷ []))) c.write-count.ensures.digits) c.write_card.ensures.ok;
  err = c.write_card.ensures.err;
}
