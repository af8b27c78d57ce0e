use Rattle.std.proofs.Common.{◌≡◌, ℕ, List, length, ap, ◌∙◌, rules}
use Rattle.fsl_query.proofs.summing.different.Goals as goal

pub returns : goal.returns
returns c =
    let count : c.len.result ≡ length c.ordered.result.items = search rules in
    count ∙ ap (λ (names : List (List ℕ)). length names) c.ordered.ensures.names
