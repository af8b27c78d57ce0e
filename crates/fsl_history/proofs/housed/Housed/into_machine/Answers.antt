use Rattle.std.proofs.Common.{subst, refl, []}
use Rattle.fsl_history.specs.Entries.{IsClosed}
use Rattle.fsl_history.specs.Rule.{back_in}
use Rattle.fsl_history.proofs.Lists.{still_born}
use Rattle.fsl_history.proofs.housed.Housed.into_machine.Goals as goal

pub emptied-requires-clause-table : goal.emptied-requires-clause-table
emptied-requires-clause-table g c = (c.args.self.tied, c.args.self.sized.1)

pub emptied-requires-clause-all : goal.emptied-requires-clause-all
emptied-requires-clause-all g c = (0, [], refl, c.args.self.fresh.0, c.args.self.fresh.1)

pub returns : goal.returns
returns g c =
    still_born g.M.Machine.may_step g.M.Machine.stored_count c.args.self.table.shared.key.items c.emptied.result
    (subst (λ x. IsClosed g.M.Machine.may_step g.M.Machine.stored_count c.args.self.table.shared.key.items (back_in x.0) c.emptied.result) c.args.self.fresh.1 c.emptied.ensures)
