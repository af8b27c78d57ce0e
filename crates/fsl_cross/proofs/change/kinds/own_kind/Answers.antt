use Rattle.std.proofs.Common.{None, Some, sym, ap, ◌∙◌}
use Rattle.fsl_cross.specs.Kinds.{own_id}
use Rattle.fsl_cross.proofs.Kinded.{own-kind-is}
use Rattle.fsl_cross.proofs.Quiet.{some-not}
use Rattle.fsl_cross.proofs.change.kinds.own_kind.Goals as goal

pub returns-in-Some-clause-kind : goal.returns-in-Some-clause-kind
returns-in-Some-clause-kind g c = λ items all are same.
    c.kind_of.ensures items all are same ∙ own-kind-is items c.args.item.now.artifact (Some c.in-Some.id) (ap own_id (sym c.artifact.ensures) ∙ sym c.id_of.ensures ∙ c.in-Some.is)

pub returns-in-None-clause-kind : goal.returns-in-None-clause-kind
returns-in-None-clause-kind g c = λ items all are same. own-kind-is items c.args.item.now.artifact None (ap own_id (sym c.artifact.ensures) ∙ sym c.id_of.ensures ∙ c.in-None.is)

pub returns-in-Some-clause-idle : goal.returns-in-Some-clause-idle
returns-in-Some-clause-idle g c = λ none. absurd (some-not (own_id c.args.item.now.artifact) c.in-Some.id (ap own_id (sym c.artifact.ensures) ∙ sym c.id_of.ensures ∙ c.in-Some.is) none)
