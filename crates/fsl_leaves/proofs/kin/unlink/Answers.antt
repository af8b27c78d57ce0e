use Rattle.std.proofs.Common.{◌∙◌, is_some, sym, ap, subst}
use Rattle.std.specs.BTreeMap.{is_at}
use Rattle.std.specs.List.Sorted.{IsStrictlySortedBy}
use Rattle.std.specs.Map.{keys_of}
use Rattle.fsl_table.specs.Contents.{value_at, without_key}
use Rattle.fsl_table.proofs.Entries.{sorted-remove_entry}
use Rattle.fsl_table.proofs.Outcomes.{on_ok_map}
use Rattle.fsl_leaves.specs.Keys.{kin_cmp}
use Rattle.fsl_leaves.proofs.Kinship.{kin_cmp-IsTotalOrder, kin-without}
use Rattle.fsl_leaves.proofs.kin.unlink.Goals as goal

pub returns-clause-ordered : goal.returns-clause-ordered
returns-clause-ordered g c =
    on_ok_map c.remove.result
    (λ e. subst (λ es. IsStrictlySortedBy kin_cmp (keys_of es)) (sym e) (sorted-remove_entry kin_cmp-IsTotalOrder (is_at (kin_cmp c.in_ok-key.key)) c.args.children.now.held.entries c.requires))
    c.remove.ensures.ok

pub returns-clause-pairs : goal.returns-clause-pairs
returns-clause-pairs g c =
    let cs = c.args.children.now.held.entries in
    on_ok_map c.remove.result
    (λ e k. ap (λ es. is_some (value_at kin_cmp k es)) (e ∙ ap (λ q. without_key kin_cmp q cs) c.in_ok-key.ensures) ∙ kin-without c.args.parent c.args.branch.now c.args.child cs c.requires k)
    c.remove.ensures.ok
