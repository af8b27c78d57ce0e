use Rattle.std.proofs.Common.{◌∙◌}
use Rattle.fsl_query.proofs.listing.tickets_by.Goals as goal

pub lines-text-requires : goal.lines-text-requires
lines-text-requires c = c.items.ensures ∙ c.in_ok-changes.ensures ∙ c.requires
