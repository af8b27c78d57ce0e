use Rattle.fsl_manifest.proofs.Exact.{is_exact}
use Rattle.fsl_manifest.proofs.laws.well_formed_have_a_text.Goals as goal

pub returns : goal.returns
returns c = is_exact
