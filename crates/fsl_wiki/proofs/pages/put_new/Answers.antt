use Rattle.std.proofs.Common.{◌∙◌, ap}
use Rattle.fsl_order.specs.Names.{bytes_cmp}
use Rattle.fsl_table.specs.Contents.{value_at, with_entry}
use Rattle.fsl_table.proofs.Outcomes.{on_ok_map}
use Rattle.fsl_wiki.proofs.pages.put_new.Goals as goal

pub put_fact-requires-clause-absent : goal.put_fact-requires-clause-absent
put_fact-requires-clause-absent g c = ap (λ n. value_at bytes_cmp n c.args.maps.now.facts.held.entries) c.name.ensures ∙ c.requires.absent

pub returns-clause-entries : goal.returns-clause-entries
returns-clause-entries g c = on_ok_map c.put_fact.result (λ put. put ∙ (λ i. with_entry bytes_cmp (c.name.ensures i) (c.of.ensures i) c.args.maps.now.facts.held.entries)) c.put_fact.ensures.entries
