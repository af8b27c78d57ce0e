use Rattle.std.proofs.Common.{◌∙◌, ap, sym, subst}
use Rattle.fsl_tags.specs.Laid.{row_in, AreFull}
use Rattle.fsl_tags.proofs.Full.{row-without, full-without}
use Rattle.fsl_tags.proofs.group.take_out.Goals as goal

pub returns-in-Some-clause-full : goal.returns-in-Some-clause-full
returns-in-Some-clause-full c = subst AreFull (sym c.remove.ensures.entries) (full-without c.args.target c.args.groups.now.entries c.requires)

pub returns-in-Some-clause-others : goal.returns-in-Some-clause-others
returns-in-Some-clause-others c = λ x. ap (λ es. row_in es x) c.remove.ensures.entries ∙ row-without c.args.target c.args.groups.now.entries c.requires x

pub returns-in-None-clause-full : goal.returns-in-None-clause-full
returns-in-None-clause-full c = subst AreFull (sym c.remove.ensures.entries) (full-without c.args.target c.args.groups.now.entries c.requires)

pub returns-in-None-clause-others : goal.returns-in-None-clause-others
returns-in-None-clause-others c = λ x. ap (λ es. row_in es x) c.remove.ensures.entries ∙ row-without c.args.target c.args.groups.now.entries c.requires x
