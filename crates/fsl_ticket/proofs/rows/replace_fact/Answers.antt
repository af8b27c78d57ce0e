use Rattle.std.proofs.Common.{◌∙◌, ap}
use Rattle.fsl_order.specs.Names.{bytes_cmp}
use Rattle.fsl_table.specs.Contents.{value_at, with_entry}
use Rattle.fsl_table.proofs.Facts.{with-without, none-without}
use Rattle.fsl_table.proofs.Outcomes.{on_ok_map}
use Rattle.fsl_ticket.specs.declared.entry.Entry.{Entry}
use Rattle.fsl_ticket.specs.Kept.{entry_of}
use Rattle.fsl_ticket.proofs.rows.replace_fact.Goals as goal

pub put_fact-requires-clause-absent : goal.put_fact-requires-clause-absent
put_fact-requires-clause-absent g c =
    ap (value_at bytes_cmp c.args.fact.name) c.in_ok-take_out.ensures.entries ∙ none-without c.args.fact.name c.args.maps.now.facts.held.entries c.requires.kept.laid.ordered

pub returns-clause-entries : goal.returns-clause-entries
returns-clause-entries g c =
    let f = c.args.fact in
    let entry : Entry = entry_of f in
    on_ok_map c.put_fact.result
    (λ put. put ∙ ap (with_entry bytes_cmp f.name entry) c.in_ok-take_out.ensures.entries ∙ with-without f.name entry c.args.maps.now.facts.held.entries c.requires.kept.laid.ordered)
    c.put_fact.ensures.entries
