use Rattle.std.proofs.Common.{◌∙◌, ap}
use Rattle.fsl_order.specs.Names.{bytes_cmp}
use Rattle.fsl_table.specs.Contents.{value_at, with_entry}
use Rattle.fsl_table.proofs.Facts.{with-without, none-without}
use Rattle.fsl_table.proofs.Outcomes.{on_ok_map}
use Rattle.fsl_timeline.specs.Kept.{entry_of}
use Rattle.fsl_timeline.proofs.rows.replace_row.Goals as goal

pub put_row-requires-clause-absent : goal.put_row-requires-clause-absent
put_row-requires-clause-absent g c =
    ap (value_at bytes_cmp c.args.row.name) c.in_ok-take_out.ensures.entries ∙ none-without c.args.row.name c.args.maps.now.rows.held.entries c.requires.kept.ordered

pub returns-clause-entries : goal.returns-clause-entries
returns-clause-entries g c =
    on_ok_map c.put_row.result
    (λ put. put ∙ ap (with_entry bytes_cmp c.args.row.name (entry_of c.args.row)) c.in_ok-take_out.ensures.entries ∙ with-without c.args.row.name (entry_of c.args.row) c.args.maps.now.rows.held.entries c.requires.kept.ordered)
    c.put_row.ensures.entries
