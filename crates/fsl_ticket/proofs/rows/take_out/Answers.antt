use Rattle.std.proofs.Common.{sym, subst}
use Rattle.fsl_table.proofs.Outcomes.{both_ok}
use Rattle.fsl_ticket.specs.Kept.{AreSets}
use Rattle.fsl_ticket.proofs.rows.take_out.Goals as goal

pub returns-clause-kept : goal.returns-clause-kept
returns-clause-kept g c =
    both_ok c.lift.result (λ out laid. record { laid = laid; sets = subst (λ es. AreSets es c.unset.new.sets.held.entries) (sym out) c.in_ok-unset.ensures.sets }) c.lift.ensures.entries c.lift.ensures.laid

pub returns-clause-was : goal.returns-clause-was
returns-clause-was g c = λ i. record { facts = c.lift.ensures.facts_was i; spots = c.lift.ensures.spots_was i; sets = c.unset.ensures.was i }

pub returns-in_err-unset-clause-was : goal.returns-in_err-unset-clause-was
returns-in_err-unset-clause-was g c = λ i. record { facts = c.args.maps.now.facts.was; spots = c.args.maps.now.spots.was; sets = c.unset.ensures.was i }
