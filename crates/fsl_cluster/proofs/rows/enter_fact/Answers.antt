use Rattle.std.proofs.Common.{sym, subst}
use Rattle.fsl_table.proofs.Outcomes.{on_ok_map}
use Rattle.fsl_cluster.specs.Kept.{is_in, AreTurned}
use Rattle.fsl_cluster.proofs.rows.enter_fact.Goals as goal

pub returns-clause-flips : goal.returns-clause-flips
returns-clause-flips g c =
    on_ok_map c.enter_last.result
    (λ turned before f. record {
      unclustered = turned (is_in before.unclustered.entries) f.unclustered;
      missing = subst (λ set. AreTurned (is_in before.missing.entries) set.keys c.args.maps.now.missing.held.entries) (sym c.enter_last.ensures.missing) f.missing;
    })
    c.enter_last.ensures.turned
