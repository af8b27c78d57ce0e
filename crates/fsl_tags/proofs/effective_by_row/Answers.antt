use Rattle.std.proofs.Common.{sym, ap, ◌∙◌}
use Rattle.fsl_tags.proofs.RowsOf.{of_tag, tags_row-finds}
use Rattle.fsl_tags.proofs.effective_by_row.Goals as goal

pub returns : goal.returns
returns c = λ a b x t same. sym (tags_row-finds a x t) ∙ ap (λ row. of_tag row t) same ∙ tags_row-finds b x t
