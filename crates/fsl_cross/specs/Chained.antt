-- Tables of tickets of which each is as good as the one before.
use Rattle.std.proofs.Common.{◌∙◌}
use Rattle.fsl_ticket.specs.Seen as ticket
use Rattle.fsl_table.proofs.Trails.{at_most-trans}

pub tickets-chain : (a b c : ticket.Seen) → ticket.IsAsBefore a b → ticket.IsAsBefore b c → ticket.IsAsBefore a c
tickets-chain a b c p q = record { fields = q.fields ∙ p.fields; facts = q.facts ∙ p.facts; spare = at_most-trans a.spare b.spare c.spare p.spare q.spare }
