use Rattle.std.proofs.Common.{◌∙◌}
use Rattle.fsl_table.proofs.Outcomes.{on_ok_map}
use Rattle.fsl_tags.proofs.arrive.move_node.Goals as goal

pub returns-in-Ok-clause-facts : goal.returns-in-Ok-clause-facts
returns-in-Ok-clause-facts g c = on_ok_map c.set_node.result (λ put. put ∙ c.in-Ok.ensures.facts c.args.node) c.set_node.ensures.facts

pub returns-in-Ok-clause-noted : goal.returns-in-Ok-clause-noted
returns-in-Ok-clause-noted g c = on_ok_map c.set_node.result (λ n before m. n before (c.in-Ok.ensures.noted before m)) c.set_node.ensures.noted
