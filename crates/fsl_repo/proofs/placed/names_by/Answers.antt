use Rattle.std.proofs.Common.{◌∙◌}
use Rattle.fsl_repo.proofs.Fronts.{names_placed}
use Rattle.fsl_repo.proofs.placed.names_by.Goals as goal

pub returns : goal.returns
returns c = c.into_vec.ensures ∙ c.in_ok-names.ensures ∙ names_placed c.args.blobs.now.records c.args.private
