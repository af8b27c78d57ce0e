use Rattle.std.proofs.Common.{sym, ap, ◌∙◌}
use Rattle.fsl_cross.specs.Touches.{is_calm}
use Rattle.fsl_cross.specs.Tables.{without}
use Rattle.fsl_cross.proofs.Calm.{bits-apart}
use Rattle.fsl_cross.proofs.Within.{no-others}
use Rattle.fsl_cross.proofs.change.row.take_in.Goals as goal

pub returns-in-Technote-clause-cost : goal.returns-in-Technote-clause-cost
returns-in-Technote-clause-cost g c = λ calm quiet.
    let others = without c.args.item.now.name c.args.items.now in
    absurd (bits-apart (sym calm ∙ ap (is_calm others c.args.item.now.name) (sym c.artifact.ensures ∙ c.in-Technote.is)))

pub returns-in-Forum-clause-cost : goal.returns-in-Forum-clause-cost
returns-in-Forum-clause-cost g c = λ calm quiet.
    let others = without c.args.item.now.name c.args.items.now in
    absurd (bits-apart (sym calm ∙ ap (is_calm others c.args.item.now.name) (sym c.artifact.ensures ∙ c.in-Forum.is)))

pub returns-in-Ticket-clause-cost : goal.returns-in-Ticket-clause-cost
returns-in-Ticket-clause-cost g c = λ calm quiet.
    let others = without c.args.item.now.name c.args.items.now in
    absurd (bits-apart (sym calm ∙ ap (is_calm others c.args.item.now.name) (sym c.artifact.ensures ∙ c.in-Ticket.is)))

pub returns-in_default-clause-cost : goal.returns-in_default-clause-cost
returns-in_default-clause-cost g c = λ calm quiet.
    c.take_alone.ensures.cost (no-others (without c.args.item.now.name c.args.items.now) c.args.item.now.name c.args.item.now.artifact calm).3 quiet
