use Rattle.std.proofs.Common.{◌∙◌, ap}
use Rattle.fsl_order.specs.Names.{bytes_cmp}
use Rattle.fsl_table.specs.Contents.{value_at, with_entry}
use Rattle.fsl_table.proofs.Facts.{with-without, none-without}
use Rattle.fsl_links.proofs.rows.put_other.Goals as goal

pub put_fact-requires-clause-absent : goal.put_fact-requires-clause-absent
put_fact-requires-clause-absent g c =
    ap (value_at bytes_cmp c.args.fact.name) c.in_ok-take_out.ensures.entries ∙ none-without c.args.fact.name c.args.maps.now.facts.held.entries c.requires.kept.ordered

pub returns-clause-entries : goal.returns-clause-entries
returns-clause-entries g c =
    c.in_ok-put_fact.ensures.entries ∙ ap (with_entry bytes_cmp c.args.fact.name c.args.fact.parents) c.in_ok-take_out.ensures.entries
    ∙ with-without c.args.fact.name c.args.fact.parents c.args.maps.now.facts.held.entries c.requires.kept.ordered
