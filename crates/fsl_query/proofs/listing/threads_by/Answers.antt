use Rattle.std.proofs.Common.{◌∙◌}
use Rattle.fsl_query.proofs.listing.threads_by.Goals as goal

pub report-text-requires : goal.report-text-requires
report-text-requires c = c.items.ensures ∙ c.in_ok-posts.ensures ∙ c.requires
