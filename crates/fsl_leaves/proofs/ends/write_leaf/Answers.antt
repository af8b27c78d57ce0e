use Rattle.std.proofs.Common.{◌∙◌, is_some, sym, ap, subst}
use Rattle.std.specs.Str.{bytes_eq}
use Rattle.std.specs.BTreeMap.{is_at}
use Rattle.std.specs.List.Sorted.{IsStrictlySortedBy}
use Rattle.std.specs.Map.{keys_of}
use Rattle.fsl_order.specs.Names.{bytes_cmp}
use Rattle.fsl_order.proofs.Orders.{bytes_cmp-IsTotalOrder}
use Rattle.fsl_table.specs.Contents.{value_at}
use Rattle.fsl_table.proofs.Entries.{sorted-insert_entry, sorted-remove_entry}
use Rattle.fsl_table.proofs.Finding.{value-with, value-without}
use Rattle.fsl_table.proofs.Outcomes.{on_ok_map}
use Rattle.fsl_leaves.proofs.Facts.{put_is, out_is}
use Rattle.fsl_leaves.proofs.ends.write_leaf.Goals as goal

pub returns-then-wanted-clause-leaves : goal.returns-then-wanted-clause-leaves
returns-then-wanted-clause-leaves g c =
    on_ok_map c.put.result
    (λ e q. ap (λ es. is_some (value_at bytes_cmp q es)) e ∙ ap is_some (value-with c.args.name tt c.args.leaves.now.held.entries q) ∙ put_is (bytes_eq q c.args.name) c.args.wanted (value_at bytes_cmp q c.args.leaves.now.held.entries) c.if-wanted.true)
    c.put.ensures.ok

pub returns-then-wanted-clause-ordered : goal.returns-then-wanted-clause-ordered
returns-then-wanted-clause-ordered g c =
    on_ok_map c.put.result (λ e. subst (λ es. IsStrictlySortedBy bytes_cmp (keys_of es)) (sym e) (sorted-insert_entry bytes_cmp-IsTotalOrder c.args.name tt c.args.leaves.now.held.entries c.requires)) c.put.ensures.ok

pub returns-else-wanted-clause-leaves : goal.returns-else-wanted-clause-leaves
returns-else-wanted-clause-leaves g c =
    on_ok_map c.remove.result
    (λ e q. ap (λ es. is_some (value_at bytes_cmp q es)) e ∙ ap is_some (value-without c.args.name c.args.leaves.now.held.entries c.requires q) ∙ out_is (bytes_eq q c.args.name) c.args.wanted (value_at bytes_cmp q c.args.leaves.now.held.entries) c.if-wanted.false)
    c.remove.ensures.ok

pub returns-else-wanted-clause-ordered : goal.returns-else-wanted-clause-ordered
returns-else-wanted-clause-ordered g c =
    on_ok_map c.remove.result (λ e. subst (λ es. IsStrictlySortedBy bytes_cmp (keys_of es)) (sym e) (sorted-remove_entry bytes_cmp-IsTotalOrder (is_at (bytes_cmp c.args.name)) c.args.leaves.now.held.entries c.requires)) c.remove.ensures.ok
