use Rattle.std.proofs.Common.{ap, ◌∙◌}
use Rattle.fsl_name.specs.Ref.{ref_in}
use Rattle.fsl_name.proofs.RefTexts.{ref_again, written}
use Rattle.fsl_name.proofs.reference.Ref.write.Goals as goal

pub returns-clause-digits : goal.returns-clause-digits
returns-clause-digits c =
    written c.args.self.now c.bytes-bytes.result.now c.args.into.now c.encode_to_slice.new.output _ c.encode_to_slice.result c.bytes-bytes.ensures.kept c.bytes-bytes.ensures.value c.told-into
    c.encode_to_slice.ensures.fits c.encode_to_slice.ensures.written

pub returns-clause-again : goal.returns-clause-again
returns-clause-again c = ap ref_in (returns-clause-digits c) ∙ ref_again c.args.self.now c.bytes-bytes.ensures.kept
