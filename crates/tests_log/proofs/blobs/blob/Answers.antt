use Rattle.std.proofs.Common.{length, refl, sym, ap, ◌∙◌, arith}
use Rattle.fsl_name.specs.Name.{name_of}
use Rattle.tests_log.proofs.blobs.blob.Goals as goal

pub returns : goal.returns
returns c = ((c.of.ensures.value ∙ ap name_of (sym c.in_ok-of.ensures), omega (arith, ap length c.in_ok-of.ensures)), refl)
