use Rattle.std.proofs.Common.{All, sym, subst}
use Rattle.fsl_cross.specs.Tables.{IsItem}
use Rattle.fsl_cross.proofs.Without.{kinds-without}
use Rattle.fsl_cross.proofs.tables.Tables.without.Goals as goal

pub of_set-requires-clause-kinds : goal.of_set-requires-clause-kinds
of_set-requires-clause-kinds c = subst (All IsItem) (sym c.in_ok-items.ensures.items) (kinds-without c.args.name c.self.inside.items c.self.invariant.kinds)
