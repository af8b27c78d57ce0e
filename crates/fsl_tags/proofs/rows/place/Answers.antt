use Rattle.fsl_table.proofs.Outcomes.{on_ok_map}
use Rattle.fsl_tags.proofs.Full.{else_of}
use Rattle.fsl_tags.proofs.rows.place.Goals as goal

pub returns-clause-noted : goal.returns-clause-noted
returns-clause-noted g c =
    on_ok_map c.set.result
    (λ row before noted. c.in_ok-note.ensures.noted before c.args.flow.now.rows.held.entries c.set.new.rows.held.entries c.row_of-before.ensures.row (else_of c.args.name c.args.row c.args.flow.now.rows.held.entries c.set.new.rows.held.entries row) noted)
    c.set.ensures.row
