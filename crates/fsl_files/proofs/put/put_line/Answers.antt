use Rattle.std.proofs.Common.{ap, sym, subst}
use Rattle.std.specs.List.Sorted.{IsStrictlySortedBy}
use Rattle.std.specs.Map.{keys_of}
use Rattle.fsl_order.specs.Names.{bytes_cmp}
use Rattle.fsl_order.proofs.Orders.{bytes_cmp-IsTotalOrder}
use Rattle.fsl_table.proofs.Entries.{sorted-insert_entry}
use Rattle.fsl_table.proofs.Outcomes.{on_ok_map}
use Rattle.fsl_files.specs.Kept.{AreFit, AreOf, baseline_at, parent_at}
use Rattle.fsl_files.proofs.Fitting.{fit_with}
use Rattle.fsl_files.proofs.Linked.{of-with}
use Rattle.fsl_files.proofs.put.put_line.Goals as goal

pub returns-clause-kept : goal.returns-clause-kept
returns-clause-kept g c =
    let k = c.requires.kept in
    let es = c.args.maps.now.facts.held.entries in
    let name = c.args.line.0 in
    let entry = c.args.line.1 in
    let deltas = c.relink.new.pairs.held.entries in
    let children = c.relink-2.new.pairs.held.entries in
    on_ok_map c.put.result
    (λ put. record {
      ordered = subst (λ l. IsStrictlySortedBy bytes_cmp (keys_of l)) (sym put) (sorted-insert_entry bytes_cmp-IsTotalOrder name entry es k.ordered);
      fit = subst AreFit (sym put) (fit_with name entry es k.fit c.requires.fit);
      deltas = subst (λ l. AreOf (baseline_at l) deltas) (sym put)
          (of-with (λ v. v.baseline) es name entry deltas (c.in_ok-relink.ensures.pairs (baseline_at es) k.deltas (sym (ap (λ w. w.baseline) c.requires.was))));
      children = subst (λ l. AreOf (parent_at l) children) (sym put)
          (of-with (λ v. v.parent) es name entry children (c.in_ok-relink-2.ensures.pairs (parent_at es) k.children (sym (ap (λ w. w.parent) c.requires.was))));
    })
    c.put.ensures.ok
