use Rattle.std.proofs.Common.{ap, ◌∙◌}
use Rattle.fsl_query.specs.Listings.{ticket_ids}
use Rattle.fsl_query.proofs.Outcomes.{if_ok_map}
use Rattle.fsl_query.proofs.listing.ids.Goals as goal

pub returns : goal.returns
returns c = if_ok_map c.ids-ids.result (λ ids is. is ∙ ap ticket_ids (c.items.ensures ∙ c.in_ok-changes.ensures)) c.ids-ids.ensures
