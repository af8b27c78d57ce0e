use Rattle.std.proofs.Common.{ap, ◌∙◌}
use Rattle.std.specs.Prelude.{is_some}
use Rattle.fsl_wiki.specs.Pages as pages
use Rattle.fsl_cross.specs.Inside.{kind_by}
use Rattle.fsl_cross.proofs.Kinded.{kind-is}
use Rattle.fsl_cross.proofs.change.kinds.kind_of.Goals as goal

pub returns : goal.returns
returns g c = λ items all are same.
    c.kind_where.ensures
    ∙ (λ i. kind_by ((c.is_some-on_ticket.ensures ∙ ap is_some c.second_after.ensures.next) i) ((c.is_some-on_note.ensures ∙ ap is_some (c.note.ensures ∙ ap (λ fs. pages.note fs c.args.id) same)) i))
    ∙ kind-is items all c.args.attached.now are c.args.id c.requires
