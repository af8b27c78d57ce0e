use Rattle.std.proofs.Common.{◌∙◌, cond, sym, ap, subst}
use Rattle.std.specs.Str.{bytes_eq}
use Rattle.std.specs.BTreeMap.{is_at}
use Rattle.std.specs.List.Sorted.{IsStrictlySortedBy}
use Rattle.std.specs.Map.{keys_of}
use Rattle.fsl_order.specs.Names.{bytes_cmp}
use Rattle.fsl_order.proofs.Orders.{bytes_cmp-IsTotalOrder}
use Rattle.fsl_table.specs.Contents.{value_at}
use Rattle.fsl_table.proofs.Entries.{sorted-insert_entry, sorted-remove_entry}
use Rattle.fsl_table.proofs.Finding.{value-with, value-without}
use Rattle.fsl_table.proofs.Outcomes.{on_ok_map}
use Rattle.fsl_forum.proofs.put.set_end.Goals as goal

pub returns-in-Some-clause-ordered : goal.returns-in-Some-clause-ordered
returns-in-Some-clause-ordered g c =
    on_ok_map c.put.result (λ e. subst (λ es. IsStrictlySortedBy bytes_cmp (keys_of es)) (sym e) (sorted-insert_entry bytes_cmp-IsTotalOrder c.args.name c.in-Some.end c.args.ends.now.held.entries c.requires)) c.put.ensures.ok

pub returns-in-Some-clause-ends : goal.returns-in-Some-clause-ends
returns-in-Some-clause-ends g c =
    on_ok_map c.put.result
    (λ e x. ap (value_at bytes_cmp x) e ∙ value-with c.args.name c.in-Some.end c.args.ends.now.held.entries x ∙ ap (λ o. cond (bytes_eq x c.args.name) o (value_at bytes_cmp x c.args.ends.now.held.entries)) (sym c.in-Some.is))
    c.put.ensures.ok

pub returns-in-None-clause-ordered : goal.returns-in-None-clause-ordered
returns-in-None-clause-ordered g c =
    on_ok_map c.remove.result (λ e. subst (λ es. IsStrictlySortedBy bytes_cmp (keys_of es)) (sym e) (sorted-remove_entry bytes_cmp-IsTotalOrder (is_at (bytes_cmp c.args.name)) c.args.ends.now.held.entries c.requires)) c.remove.ensures.ok

pub returns-in-None-clause-ends : goal.returns-in-None-clause-ends
returns-in-None-clause-ends g c =
    on_ok_map c.remove.result
    (λ e x. ap (value_at bytes_cmp x) e ∙ value-without c.args.name c.args.ends.now.held.entries c.requires x ∙ ap (λ o. cond (bytes_eq x c.args.name) o (value_at bytes_cmp x c.args.ends.now.held.entries)) (sym c.in-None.is))
    c.remove.ensures.ok
