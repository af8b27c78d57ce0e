use Rattle.std.proofs.Common.{ap, ◌∙◌, ◌++◌, ◌∷◌}
use Rattle.std.proofs.lemmas.Result.{on_ok_weaker}
use Rattle.fsl_grammar.proofs.writing.write_ref.Goals as goal

pub returns : goal.returns
returns c = record {
  ok = on_ok_weaker c.write_argument.result (λ written. written ∙ ap (λ text. c.args.into.now ++ 32 ∷ text) c.write-count.ensures.digits) c.write_argument.ensures.ok;
  err = c.write_argument.ensures.err;
}
