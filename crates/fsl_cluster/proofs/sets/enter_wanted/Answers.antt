use Rattle.std.proofs.Common.{◌∙◌, ap, sym, subst}
use Rattle.std.specs.Str.{bytes_eq}
use Rattle.std.specs.List.Sorted.{IsStrictlySortedBy}
use Rattle.std.specs.Map.{keys_of}
use Rattle.fsl_order.specs.Names.{bytes_cmp}
use Rattle.fsl_order.proofs.Orders.{bytes_cmp-IsTotalOrder}
use Rattle.fsl_table.proofs.Entries.{sorted-insert_entry}
use Rattle.fsl_table.proofs.Outcomes.{on_ok_map}
use Rattle.fsl_cluster.specs.Kept.{is_in}
use Rattle.fsl_cluster.proofs.Turning.{in_with, wanted_in}
use Rattle.fsl_cluster.proofs.sets.enter_wanted.Goals as goal

pub returns-clause-names : goal.returns-clause-names
returns-clause-names g c =
    on_ok_map c.put.result
    (λ e q. ap (λ es. is_in es q) e ∙ in_with c.args.name c.args.names.now.held.entries q ∙ wanted_in (bytes_eq q c.args.name) (is_in c.args.names.now.held.entries q) c.args.wanted c.if-not-wanted.false)
    c.put.ensures.ok

pub returns-clause-ordered : goal.returns-clause-ordered
returns-clause-ordered g c =
    on_ok_map c.put.result (λ e. subst (λ es. IsStrictlySortedBy bytes_cmp (keys_of es)) (sym e) (sorted-insert_entry bytes_cmp-IsTotalOrder c.args.name tt c.args.names.now.held.entries c.requires)) c.put.ensures.ok
