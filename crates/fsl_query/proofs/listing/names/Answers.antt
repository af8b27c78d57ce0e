use Rattle.std.proofs.Common.{◌∙◌}
use Rattle.fsl_query.proofs.listing.names.Goals as goal

pub names-names-requires : goal.names-names-requires
names-names-requires c = c.items.ensures ∙ c.in_ok-posts.ensures ∙ c.requires

pub returns : goal.returns
returns c = c.names-names.ensures.names
