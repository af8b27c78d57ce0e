use Rattle.std.proofs.Common.{◌∙◌, ap, sym, subst}
use Rattle.std.specs.List.{filter_map}
use Rattle.fsl_order.specs.Names.{bytes_cmp}
use Rattle.fsl_order.specs.Rows.{ListsChanged}
use Rattle.fsl_table.specs.Contents.{with_entry}
use Rattle.fsl_table.proofs.Outcomes.{always_ok, if_ok_map}
use Rattle.fsl_ticket.specs.declared.entry.Entry.{Entry}
use Rattle.fsl_ticket.specs.Tickets.{tickets_row}
use Rattle.fsl_ticket.specs.Kept.{entry_of, facts_of, if_other}
use Rattle.fsl_ticket.proofs.Changing.{lists_others}
use Rattle.fsl_ticket.proofs.rows.put_again.Goals as goal

pub returns-in-Ok-replace_fact-clause-entries : goal.returns-in-Ok-replace_fact-clause-entries
returns-in-Ok-replace_fact-clause-entries g c = always_ok c.others-changed.result c.in-Ok-replace_fact.ensures.entries

pub returns-in-Ok-replace_fact-clause-kept : goal.returns-in-Ok-replace_fact-clause-kept
returns-in-Ok-replace_fact-clause-kept g c = always_ok c.others-changed.result c.in-Ok-replace_fact.ensures.kept

pub returns-in-Ok-replace_fact-clause-changed : goal.returns-in-Ok-replace_fact-clause-changed
returns-in-Ok-replace_fact-clause-changed g c =
    let f = c.args.fact in
    let es = c.args.maps.now.facts.held.entries in
    let configured = c.args.configured.now in
    let entry : Entry = entry_of f in
    let after = with_entry bytes_cmp f.name entry es in
    let touched = c.in-Ok.ensures in
    let entries = c.in-Ok-replace_fact.ensures.entries in
    if_ok_map c.others-changed.result
    (λ list e. subst (ListsChanged (tickets_row configured (facts_of es)) (tickets_row configured (facts_of after)))
    (sym (e ∙ (λ i. filter_map (if_other configured (entries i)) (c.items.ensures i)) ∙ ap (filter_map (if_other configured after)) touched.are))
    (lists_others configured es f.name entry touched.ids touched.rising touched.own))
    c.others-changed.ensures
