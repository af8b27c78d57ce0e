use Rattle.std.proofs.Common.{All, sym, subst}
use Rattle.std.proofs.lemmas.List.Sorted.{All-permutation}
use Rattle.fsl_order.specs.Rows.{by_name}
use Rattle.fsl_order.proofs.MovedLemmas.{IsPermutation-by_name}
use Rattle.fsl_cross.specs.Tables.{IsItem}
use Rattle.fsl_cross.proofs.Moved.{item_name}
use Rattle.fsl_cross.proofs.tables.Tables.build.Goals as goal

pub of_set-requires-clause-kinds : goal.of_set-requires-clause-kinds
of_set-requires-clause-kinds c =
    let given = c.args.items in
    subst (All IsItem) (sym c.in_ok-items.ensures.items) (All-permutation IsItem given (by_name item_name given) (IsPermutation-by_name item_name given c.requires.names) c.requires.kinds)
