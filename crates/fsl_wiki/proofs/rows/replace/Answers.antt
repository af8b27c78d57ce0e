use Rattle.std.proofs.Common.{◌∙◌, ap}
use Rattle.fsl_order.specs.Names.{bytes_cmp}
use Rattle.fsl_table.specs.Contents.{value_at, with_entry}
use Rattle.fsl_table.proofs.Facts.{with-without, none-without}
use Rattle.fsl_table.proofs.Outcomes.{on_ok_map}
use Rattle.fsl_wiki.proofs.rows.replace.Goals as goal

pub put_fact-requires-clause-absent : goal.put_fact-requires-clause-absent
put_fact-requires-clause-absent g c =
    ap (value_at bytes_cmp c.args.name) c.in-Ok.ensures.entries ∙ none-without c.args.name c.args.maps.now.facts.held.entries c.requires.kept.ordered

pub returns-in-Ok-clause-entries : goal.returns-in-Ok-clause-entries
returns-in-Ok-clause-entries g c =
    on_ok_map c.put_fact.result
    (λ put. put ∙ ap (with_entry bytes_cmp c.args.name c.args.entry) c.in-Ok.ensures.entries ∙ with-without c.args.name c.args.entry c.args.maps.now.facts.held.entries c.requires.kept.ordered)
    c.put_fact.ensures.entries
