use Rattle.std.proofs.Common.{map, subst}
use Rattle.std.specs.List.Sorted.{IsStrictlySortedBy}
use Rattle.fsl_order.specs.Names.{bytes_cmp}
use Rattle.fsl_name.proofs.RowsKeeping.{names-kept}
use Rattle.fsl_cross.proofs.Moved.{item_name}
use Rattle.fsl_cross.proofs.items.Items.iter.Goals as goal

pub returns-clause-rising : goal.returns-clause-rising
returns-clause-rising c =
    let kept = c.self.invariant in
    subst (λ items. IsStrictlySortedBy bytes_cmp (map item_name items)) c.self.view_is (subst (IsStrictlySortedBy bytes_cmp) (names-kept item_name c.self.inside.tree.entries kept.named) kept.rising)
