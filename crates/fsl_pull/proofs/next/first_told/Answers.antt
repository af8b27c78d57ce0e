use Rattle.std.proofs.Common.{◌≡◌, ◌++◌, [], rules, ap, ◌∙◌}
use Rattle.fsl_order.specs.Rows.{ascending}
use Rattle.fsl_pull.proofs.RisingLemmas.{found_ascending}
use Rattle.fsl_pull.proofs.next.first_told.Goals as goal

pub returns : goal.returns
returns c =
    let none : c.new-names.result.items ≡ [] = search rules in
    let told = c.args.told.now in
    c.first_among.ensures
    ∙ found_ascending told c.deref.result.now (c.deref.ensures.value ∙ c.ordered-names.ensures.names ∙ ap ascending (c.in_ok-extend_from_slice.ensures.items ∙ ap (λ xs. xs ++ told) none)) c.args.next.now
