use Rattle.std.proofs.Common.{◌&&◌, not, ◌∙◌}
use Rattle.std.specs.Str.{bytes_eq}
use Rattle.fsl_table.proofs.Outcomes.{on_ok_map}
use Rattle.fsl_cluster.proofs.sets.put_missing.Goals as goal

pub returns-clause-names : goal.returns-clause-names
returns-clause-names g c = on_ok_map c.take_name.result (λ names q. names q ∙ (λ i. c.in_ok-put_unheld.ensures.names q i && not (bytes_eq q c.args.name))) c.take_name.ensures.names

pub returns-clause-turned : goal.returns-clause-turned
returns-clause-turned g c = on_ok_map c.take_name.result (λ turned before f. turned before (c.in_ok-put_unheld.ensures.turned before f)) c.take_name.ensures.turned
