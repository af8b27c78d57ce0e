use Rattle.std.proofs.Common.{◌||◌, Some, sym, ap, ◌∙◌, subst}
use Rattle.std.specs.Prelude.{is_some}
use Rattle.fsl_table.specs.Contents.{value_at}
use Rattle.fsl_table.specs.Exact.{pair_cmp}
use Rattle.fsl_table.specs.declared.key.Pair.{Pair}
use Rattle.fsl_table.proofs.Entries.{sorted-insert_entry}
use Rattle.fsl_table.proofs.Linking.{pair-with}
use Rattle.fsl_table.proofs.PairOrder.{pair_cmp-IsTotalOrder}
use Rattle.fsl_cross.specs.Attached.{is_pair_of, AreOrdered}
use Rattle.fsl_cross.proofs.attached.put.Goals as goal

pub returns-in-Ok-clause-there : goal.returns-in-Ok-clause-there
returns-in-Ok-clause-there g c = λ k.
    ap (λ es. is_some (value_at pair_cmp k es)) c.in-Ok.ensures.ok ∙ pair-with c.in-Some.first c.args.name c.args.pairs.now.entries k
    ∙ ap (λ id. is_pair_of k id c.args.name || is_some (value_at pair_cmp k c.args.pairs.now.entries)) (sym c.in-Some.is)

pub returns-in-Ok-clause-ordered : goal.returns-in-Ok-clause-ordered
returns-in-Ok-clause-ordered g c = λ ordered.
    let key : Pair = record { first = c.in-Some.first; second = Some c.args.name } in
    subst AreOrdered (sym c.in-Ok.ensures.ok) (sorted-insert_entry pair_cmp-IsTotalOrder key tt c.args.pairs.now.entries ordered)
