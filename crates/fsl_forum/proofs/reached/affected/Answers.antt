use Rattle.std.proofs.Common.{◌∷◌, [], ℕ, List, sym, subst}
use Rattle.std.specs.List.Sorted.{IsStrictlySortedBy}
use Rattle.fsl_order.specs.Names.{bytes_cmp}
use Rattle.fsl_table.proofs.Outcomes.{if_ok_map}
use Rattle.fsl_forum.proofs.reached.affected.Goals as goal

one : (x : List ℕ) → IsStrictlySortedBy bytes_cmp (x ∷ [])
unfolding IsStrictlySortedBy
one x = (tt, tt)

pub returns-then-is_none-2-clause-rising : goal.returns-then-is_none-2-clause-rising
returns-then-is_none-2-clause-rising g c = if_ok_map c.alone.result (λ names e. subst (IsStrictlySortedBy bytes_cmp) (sym e) (one c.args.name)) c.alone.ensures
