use Rattle.std.proofs.Common.{sym, ◌∙◌}
use Rattle.fsl_cross.proofs.Kinded.{target-some, target-none}
use Rattle.fsl_cross.proofs.Quiet.{some-not}
use Rattle.fsl_cross.specs.Attached.{target_id}
use Rattle.fsl_cross.proofs.change.kinds.target_kind.Goals as goal

pub returns-in-Some-clause-kind : goal.returns-in-Some-clause-kind
returns-in-Some-clause-kind g c = λ items all are same. c.kind_of.ensures items all are same ∙ target-some items c.args.artifact.now c.in-Some.id (sym c.target_of.ensures ∙ c.in-Some.is)

pub returns-in-None-clause-kind : goal.returns-in-None-clause-kind
returns-in-None-clause-kind g c = λ items all are same. target-none items all c.args.artifact.now (sym c.target_of.ensures ∙ c.in-None.is)

pub returns-in-Some-clause-idle : goal.returns-in-Some-clause-idle
returns-in-Some-clause-idle g c = λ none. absurd (some-not (target_id c.args.artifact.now) c.in-Some.id (sym c.target_of.ensures ∙ c.in-Some.is) none)
