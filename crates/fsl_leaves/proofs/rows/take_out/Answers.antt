use Rattle.std.proofs.Common.{◌∙◌, false, if◌then◌else◌, ap, sym, subst, option_and_then}
use Rattle.std.specs.Str.{bytes_eq}
use Rattle.std.specs.BTreeMap.{is_at}
use Rattle.std.specs.List.Sorted.{IsStrictlySortedBy}
use Rattle.std.specs.Map.{keys_of}
use Rattle.fsl_order.specs.Names.{bytes_cmp}
use Rattle.fsl_order.proofs.Orders.{bytes_cmp-IsTotalOrder}
use Rattle.fsl_table.specs.Contents.{value_at}
use Rattle.fsl_table.proofs.Entries.{sorted-remove_entry}
use Rattle.fsl_table.proofs.Outcomes.{on_ok_map, always_ok}
use Rattle.fsl_leaves.specs.Kept.{lists, continues_in, leaf, counted, ArePairs}
use Rattle.fsl_leaves.proofs.Facts.{pairs_without}
use Rattle.fsl_leaves.proofs.Counting.{leaf_less}
use Rattle.fsl_table.specs.Contents.{without_key}
use Rattle.fsl_leaves.proofs.rows.take_out.Goals as goal

pub returns-clause-flips : goal.returns-clause-flips
returns-clause-flips g c = always_ok c.remove.result c.in_ok-unlink_name.ensures.flips

pub returns-clause-kept : goal.returns-clause-kept
returns-clause-kept g c =
    let k = c.requires.kept in
    let es = c.args.maps.now.facts.held.entries in
    let cs = c.unlink_name.new.children.held.entries in
    let name = c.args.name in
    let pairs : ArePairs (without_key bytes_cmp name es) cs = λ key. c.in_ok-unlink_name.ensures.pairs key ∙ pairs_without es c.args.maps.now.children.held.entries name k.ordered k.pairs key in
    on_ok_map c.remove.result
    (λ out. record {
      ordered = subst (λ es. IsStrictlySortedBy bytes_cmp (keys_of es)) (sym out) (sorted-remove_entry bytes_cmp-IsTotalOrder (is_at (bytes_cmp name)) es k.ordered);
      pairs_ordered = c.in_ok-unlink_name.ensures.pairs_ordered;
      leaves_ordered = c.in_ok-unlink_name.ensures.leaves_ordered;
      pairs = λ key. pairs key ∙ ap (λ es. continues_in (option_and_then (λ c. value_at bytes_cmp c es) key.second) key.first.parent key.first.branch) (sym out);
      leaves = λ q.
          c.in_ok-unlink_name.ensures.leaves q
          ∙ ap (λ b. if bytes_eq q name then false else (if lists (value_at bytes_cmp name es) q then counted es cs q else b)) (k.leaves q)
          ∙ leaf_less es name k.ordered cs pairs q
          ∙ ap (λ es. leaf es q) (sym out);
    })
    c.remove.ensures.ok
