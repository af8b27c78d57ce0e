use Rattle.std.proofs.Common.{◌∙◌, ap}
use Rattle.fsl_leaves.specs.Kept.{is_in}
use Rattle.fsl_leaves.proofs.ends.is_in.Goals as goal

pub returns-in-Some-clause-is : goal.returns-in-Some-clause-is
returns-in-Some-clause-is g c = c.eq.ensures ∙ ap (λ l. is_in l c.args.branch.now) c.in-Some.ensures.value
