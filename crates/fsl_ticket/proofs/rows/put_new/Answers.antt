use Rattle.std.proofs.Common.{sym, subst}
use Rattle.fsl_order.specs.Names.{bytes_cmp}
use Rattle.fsl_order.specs.Rows.{ListsChanged}
use Rattle.fsl_table.specs.Contents.{with_entry}
use Rattle.fsl_table.proofs.Outcomes.{if_ok_map}
use Rattle.fsl_ticket.specs.declared.entry.Entry.{Entry}
use Rattle.fsl_ticket.specs.Tickets.{tickets_row}
use Rattle.fsl_ticket.specs.Kept.{Laid, entry_of, facts_of, laid_in, rows_of}
use Rattle.fsl_ticket.proofs.Others.{lists_new}
use Rattle.fsl_ticket.proofs.rows.put_new.Goals as goal

pub returns-in-Ok-put_fact-clause-changed : goal.returns-in-Ok-put_fact-clause-changed
returns-in-Ok-put_fact-clause-changed g c =
    let f = c.args.fact in
    let configured = c.args.configured.now in
    let r : Laid = laid_in (rows_of c.args.maps.now) in
    let entry : Entry = entry_of f in
    if_ok_map c.listed.result
    (λ list is. subst (ListsChanged (tickets_row configured (facts_of r.facts.entries)) (tickets_row configured (facts_of (with_entry bytes_cmp f.name entry r.facts.entries)))) (sym is)
    (lists_new r c.requires.kept.laid configured f.name entry c.requires.absent c.in-Ok.differs c.in-Ok.ensures))
    c.listed.ensures
