use Rattle.std.proofs.Common.{◌∙◌, ap}
use Rattle.fsl_order.specs.Names.{bytes_cmp}
use Rattle.fsl_table.specs.Contents.{value_at, with_entry}
use Rattle.fsl_table.proofs.Facts.{with-without, none-without}
use Rattle.fsl_table.proofs.Outcomes.{on_ok_map}
use Rattle.fsl_leaves.specs.declared.line.Line.{Line}
use Rattle.fsl_leaves.proofs.rows.put_other.Goals as goal

pub put_fact-requires-clause-absent : goal.put_fact-requires-clause-absent
put_fact-requires-clause-absent g c =
    ap (value_at bytes_cmp c.args.fact.name) c.in_ok-take_out.ensures.entries ∙ none-without c.args.fact.name c.args.maps.now.facts.held.entries c.requires.kept.ordered

pub returns-clause-flips : goal.returns-clause-flips
returns-clause-flips g c = on_ok_map c.put_fact.result (λ put before all. put before (c.in_ok-take_out.ensures.flips before all)) c.put_fact.ensures.flips

pub returns-clause-entries : goal.returns-clause-entries
returns-clause-entries g c =
    let line : Line = record { parents = c.args.fact.parents; branch = c.args.fact.branch } in
    on_ok_map c.put_fact.result
    (λ put. put ∙ ap (with_entry bytes_cmp c.args.fact.name line) c.in_ok-take_out.ensures.entries ∙ with-without c.args.fact.name line c.args.maps.now.facts.held.entries c.requires.kept.ordered)
    c.put_fact.ensures.entries
