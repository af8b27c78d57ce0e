use Rattle.fsl_uv.proofs.Merging.{merges_in_any_order}
use Rattle.fsl_uv.proofs.laws.merges_in_any_order.Goals as goal

pub returns : goal.returns
returns c = merges_in_any_order
