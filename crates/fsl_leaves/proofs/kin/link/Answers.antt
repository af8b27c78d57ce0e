use Rattle.std.proofs.Common.{◌∙◌, is_some, sym, ap, subst}
use Rattle.std.specs.List.Sorted.{IsStrictlySortedBy}
use Rattle.std.specs.Map.{keys_of}
use Rattle.fsl_table.specs.Contents.{value_at, with_entry}
use Rattle.fsl_table.proofs.Entries.{sorted-insert_entry}
use Rattle.fsl_table.proofs.Outcomes.{on_ok_map}
use Rattle.fsl_leaves.specs.Keys.{kin_cmp}
use Rattle.fsl_leaves.proofs.Kinship.{kin_cmp-IsTotalOrder, kin-with}
use Rattle.fsl_leaves.proofs.kin.link.Goals as goal

pub put-requires : goal.put-requires
put-requires g c = c.in_ok-again.ensures ∙ sym c.in_ok-key.ensures

pub returns-clause-ordered : goal.returns-clause-ordered
returns-clause-ordered g c =
    on_ok_map c.put.result (λ e. subst (λ es. IsStrictlySortedBy kin_cmp (keys_of es)) (sym e) (sorted-insert_entry kin_cmp-IsTotalOrder _ tt c.args.children.now.held.entries c.requires)) c.put.ensures.ok

pub returns-clause-pairs : goal.returns-clause-pairs
returns-clause-pairs g c =
    let cs = c.args.children.now.held.entries in
    on_ok_map c.put.result
    (λ e k. ap (λ es. is_some (value_at kin_cmp k es)) (e ∙ ap (λ q. with_entry kin_cmp q tt cs) c.in_ok-key.ensures) ∙ kin-with c.args.parent c.args.branch.now c.args.child cs k)
    c.put.ensures.ok
