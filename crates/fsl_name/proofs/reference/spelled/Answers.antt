use Rattle.fsl_name.proofs.RefTexts.{decoded_foreign}
use Rattle.fsl_name.proofs.reference.spelled.Goals as goal

pub returns : goal.returns
returns c = decoded_foreign c.args.text.now c.decode_to_slice.new.out c.decode_to_slice.result c.requires.length c.requires.digits c.decode_to_slice.ensures.value
