use Rattle.std.proofs.Common.{map, ap, ◌∙◌, arith}
use Rattle.std.proofs.lemmas.List.{take_all}
use Rattle.fsl_repo.proofs.Sendings.{lent_due, lent_sized}
use Rattle.fsl_repo.proofs.sending.without_places.Goals as goal

pub returns : goal.returns
returns c =
    c.loop-artifact.invariant ∙ ap (map lent_due) (take_all c.loop-artifact.artifact-index c.args.held.now (omega (arith, c.loop-artifact-test.false)))
    ∙ lent_sized c.args.held.now c.requires
