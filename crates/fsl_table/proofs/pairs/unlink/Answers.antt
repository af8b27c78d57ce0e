use Rattle.std.proofs.Common.{◌∙◌, ◌&&◌, not, Some, is_some, sym, ap, subst}
use Rattle.std.specs.BTreeMap.{is_at}
use Rattle.std.specs.List.Sorted.{IsStrictlySortedBy}
use Rattle.std.specs.Map.{keys_of}
use Rattle.fsl_table.specs.Exact.{pair_cmp}
use Rattle.fsl_table.specs.declared.key.Pair.{Pair}
use Rattle.fsl_table.specs.Contents.{value_at}
use Rattle.fsl_table.proofs.Entries.{sorted-remove_entry}
use Rattle.fsl_table.specs.Pairs.{is_name}
use Rattle.fsl_table.proofs.PairOrder.{pair_cmp-IsTotalOrder}
use Rattle.fsl_table.proofs.Outcomes.{on_ok_map}
use Rattle.fsl_table.proofs.Linking.{pair-without, name-back}
use Rattle.fsl_table.proofs.pairs.unlink.Goals as goal

pub returns-in-Some-clause-ordered : goal.returns-in-Some-clause-ordered
returns-in-Some-clause-ordered g c =
    let key : Pair = record { first = c.in-Some.first; second = Some c.args.second } in
    on_ok_map c.remove.result
    (λ e. subst (λ es. IsStrictlySortedBy pair_cmp (keys_of es)) (sym e) (sorted-remove_entry pair_cmp-IsTotalOrder (is_at (pair_cmp key)) c.args.pairs.now.entries c.requires))
    c.remove.ensures.ok

pub returns-in-Some-clause-pairs : goal.returns-in-Some-clause-pairs
returns-in-Some-clause-pairs g c =
    on_ok_map c.remove.result
    (λ e k. ap (λ es. is_some (value_at pair_cmp k es)) e ∙ pair-without c.in-Some.first c.args.second c.args.pairs.now.entries c.requires k
    ∙ ap (λ b. not (is_name k.second c.args.second && b) && is_some (value_at pair_cmp k c.args.pairs.now.entries)) (name-back k.first c.in-Some.first ∙ ap (λ o. is_name o k.first) (sym c.in-Some.is)))
    c.remove.ensures.ok
