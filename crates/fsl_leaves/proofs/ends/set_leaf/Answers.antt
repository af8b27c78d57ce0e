use Rattle.std.proofs.Common.{◌∙◌, is_some, sym}
use Rattle.fsl_order.specs.Names.{bytes_cmp, has}
use Rattle.fsl_table.specs.Contents.{value_at}
use Rattle.fsl_table.proofs.Outcomes.{on_ok_map}
use Rattle.fsl_leaves.proofs.Facts.{set_already, set_flips}
use Rattle.fsl_leaves.proofs.ends.set_leaf.Goals as goal

pub returns-then-not-differ-clause-leaves : goal.returns-then-not-differ-clause-leaves
returns-then-not-differ-clause-leaves g c = λ q.
    set_already c.is_leaf-there.result c.args.wanted c.args.name q (λ q. is_some (value_at bytes_cmp q c.args.leaves.now.held.entries)) c.is_leaf-there.ensures.is (sym c.differ.ensures ∙ c.if-not-differ.true)

pub returns-clause-flips : goal.returns-clause-flips
returns-clause-flips g c =
    on_ok_map c.write_leaf.result
    (λ written before all q.
    set_flips c.is_leaf-there.result c.args.wanted c.args.name before (λ q. is_some (value_at bytes_cmp q c.args.leaves.now.held.entries)) (λ q. is_some (value_at bytes_cmp q c.write_leaf.new.leaves.held.entries))
    (has c.args.changed.now.keys) (has c.flip.new.names.keys) c.is_leaf-there.ensures.is (sym c.differ.ensures ∙ c.if-not-differ.false) c.in_ok-flip.ensures.flipped written all q)
    c.write_leaf.ensures.leaves
