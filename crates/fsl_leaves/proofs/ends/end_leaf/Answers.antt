use Rattle.std.proofs.Common.{◌∙◌, is_some, sym, ap}
use Rattle.std.specs.Str.{bytes_eq}
use Rattle.std.specs.Cmp.Lexicographic.{bytes_decides}
use Rattle.fsl_order.specs.Names.{bytes_cmp}
use Rattle.fsl_table.specs.Contents.{value_at}
use Rattle.fsl_table.proofs.Outcomes.{on_ok_map}
use Rattle.fsl_leaves.specs.Kept.{is_in}
use Rattle.fsl_leaves.proofs.Facts.{end_not, end_one}
use Rattle.fsl_leaves.proofs.ends.end_leaf.Goals as goal

pub returns-then-not-is_in-clause-leaves : goal.returns-then-not-is_in-clause-leaves
returns-then-not-is_in-clause-leaves g c = λ q.
    end_not (bytes_eq q c.args.parent) (is_in (value_at bytes_cmp q c.args.facts.now.held.entries) c.args.branch.now) (is_some (value_at bytes_cmp q c.args.leaves.now.held.entries))
    (λ s. ap (λ n. is_in (value_at bytes_cmp n c.args.facts.now.held.entries) c.args.branch.now) ((bytes_decides q c.args.parent).0 s) ∙ sym c.is_in.ensures.is ∙ c.if-not-is_in.true)

pub returns-clause-leaves : goal.returns-clause-leaves
returns-clause-leaves g c =
    on_ok_map c.set_leaf.result
    (λ set q. set q
    ∙ end_one (bytes_eq q c.args.parent) (is_in (value_at bytes_cmp q c.args.facts.now.held.entries) c.args.branch.now) (is_some (value_at bytes_cmp q c.args.leaves.now.held.entries))
    (λ s. ap (λ n. is_in (value_at bytes_cmp n c.args.facts.now.held.entries) c.args.branch.now) ((bytes_decides q c.args.parent).0 s) ∙ sym c.is_in.ensures.is ∙ c.if-not-is_in.false))
    c.set_leaf.ensures.leaves
