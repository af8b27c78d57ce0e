use Rattle.std.proofs.Common.{◌∙◌, ◌&&◌, ◌||◌, Some, is_some, sym, ap, subst}
use Rattle.std.specs.List.Sorted.{IsStrictlySortedBy}
use Rattle.std.specs.Map.{keys_of}
use Rattle.fsl_table.specs.Exact.{pair_cmp}
use Rattle.fsl_table.specs.Contents.{value_at}
use Rattle.fsl_table.proofs.Entries.{sorted-insert_entry}
use Rattle.fsl_table.specs.Pairs.{is_name}
use Rattle.fsl_table.proofs.PairOrder.{pair_cmp-IsTotalOrder}
use Rattle.fsl_table.proofs.Outcomes.{on_ok_map}
use Rattle.fsl_table.proofs.Linking.{pair-with, name-back}
use Rattle.fsl_table.proofs.pairs.link.Goals as goal

pub returns-in-Some-clause-ordered : goal.returns-in-Some-clause-ordered
returns-in-Some-clause-ordered g c =
    on_ok_map c.put.result
    (λ e. subst (λ es. IsStrictlySortedBy pair_cmp (keys_of es)) (sym e) (sorted-insert_entry pair_cmp-IsTotalOrder (record { first = c.in-Some.first; second = Some c.args.second }) tt c.args.pairs.now.entries c.requires))
    c.put.ensures.ok

pub returns-in-Some-clause-pairs : goal.returns-in-Some-clause-pairs
returns-in-Some-clause-pairs g c =
    on_ok_map c.put.result
    (λ e k. ap (λ es. is_some (value_at pair_cmp k es)) e ∙ pair-with c.in-Some.first c.args.second c.args.pairs.now.entries k
    ∙ ap (λ b. (is_name k.second c.args.second && b) || is_some (value_at pair_cmp k c.args.pairs.now.entries)) (name-back k.first c.in-Some.first ∙ ap (λ o. is_name o k.first) (sym c.in-Some.is)))
    c.put.ensures.ok
