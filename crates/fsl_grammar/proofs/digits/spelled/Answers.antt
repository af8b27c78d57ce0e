use Rattle.fsl_grammar.proofs.FormLemmas.{decoded}
use Rattle.fsl_grammar.proofs.digits.spelled.Goals as goal

pub returns : goal.returns
returns c = decoded c.args.text.now c.decode_to_slice.new.out c.decode_to_slice.result c.requires c.decode_to_slice.ensures.value
