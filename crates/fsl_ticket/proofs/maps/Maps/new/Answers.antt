use Rattle.fsl_ticket.proofs.Canonical.{kept_none}
use Rattle.fsl_ticket.proofs.maps.Maps.new.Goals as goal

pub returns-clause-kept : goal.returns-clause-kept
returns-clause-kept c = kept_none (record { facts = c.new.result.held; spots = c.new-2.result.held; sets = c.new-3.result.held }) c.new.ensures.empty c.new-2.ensures.empty c.new-3.ensures.empty
