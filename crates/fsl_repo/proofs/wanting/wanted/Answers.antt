use Rattle.std.proofs.Common.{ℕ, List, filter, not, ap, ◌∙◌}
use Rattle.std.specs.FinSet as set
use Rattle.fsl_blobs.specs.Fold.{contents}
use Rattle.fsl_repo.proofs.Storing.{wants_by}
use Rattle.fsl_repo.proofs.wanting.wanted.Goals as goal

pub returns : goal.returns
returns c =
    let shunned = (contents c.args.blobs.now.records).shunned in
    c.from_vec.ensures ∙ c.in_ok-names.ensures
    ∙ ap (filter (λ (name : List ℕ). not (set.contains shunned name))) (c.items.ensures ∙ c.in_ok-missing.ensures)
    ∙ wants_by c.args.table.now.facts shunned
