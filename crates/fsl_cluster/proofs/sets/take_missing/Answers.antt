use Rattle.std.proofs.Common.{◌&&◌, ◌||◌, ◌∙◌}
use Rattle.std.specs.Str.{bytes_eq}
use Rattle.fsl_table.proofs.Outcomes.{on_ok_map}
use Rattle.fsl_cluster.proofs.sets.take_missing.Goals as goal

pub returns-clause-names : goal.returns-clause-names
returns-clause-names g c =
    on_ok_map c.put_wanted.result
    (λ names q. names q ∙ (λ i. c.in_ok-take_unnamed.ensures.names q i || (bytes_eq q c.args.name && c.is_first-named.ensures.named i)))
    c.put_wanted.ensures.names

pub returns-clause-turned : goal.returns-clause-turned
returns-clause-turned g c = on_ok_map c.put_wanted.result (λ turned before f. turned before (c.in_ok-take_unnamed.ensures.turned before f)) c.put_wanted.ensures.turned
